use Rattle.std.proofs.Common.{◌≡◌, ℕ, zero, suc, ◌+◌, ◌<◌, ◌≤◌, ◌^◌, max, Bool, true, false, cond, nat_lt, List, [], ◌∷◌, ◌++◌, length, map, take, fold, Option, Some, refl, sym, ◌∙◌, ap, subst, arith, append_assoc, append-nil, length-append}
use Rattle.std.specs.Prelude.{All, slice_get}
use Rattle.std.specs.List.{list_all}
use Rattle.std.proofs.lemmas.Bool.{and_from, and_parts}
use Rattle.std.proofs.lemmas.List.{length-map}
use Rattle.std.proofs.lemmas.List.Concat.{length-flat_map, flat_map-append}
use Rattle.std.proofs.lemmas.List.Elements.{All-head, All-tail}
use Rattle.std.proofs.lemmas.List.Sums.{fold_push, fold-append, sum_by-append, sum_by-cons}
use Rattle.mal_base.specs.declared.profile.Profile.{Profile}
use Rattle.mal_base.specs.declared.verdict.Verdict.TheVariants.{Satisfiable}
use Rattle.mal_revision.specs.Posted.{Posted, is_posted}
use Rattle.spec_logic.specs.Logic.{satisfies, satisfies_clause, satisfies_with, is_true_in}
use Rattle.mal_base.specs.NumberedClause.{NumberedClause}
use Rattle.mal_base.specs.Literals.{literal}
use Rattle.spec_node.specs.State.{Node, fresh_with}
use Rattle.spec_node.specs.Load.{counted, loaded, numbered}
use Rattle.spec_node.specs.Value.{is_true}
use Rattle.spec_node.specs.Model.{model_of}
use Rattle.spec_node.specs.Sound.{IsSound}
use Rattle.spec_node.specs.Laws.{HasModel, IsModel, HoldsAll, formula_of, originals}
use Rattle.spec_node.proofs.LoadLemmas.{numbers-mean_same}
use Rattle.spec_node.proofs.SoundLemmas.{fresh-with_sound, loaded-sound}
use Rattle.spec_node.proofs.PostedLemmas.{posted-literals}
use Rattle.spec_node.proofs.ChainLemmas.{loads-hold_all}
use Rattle.spec_search.specs.Slice.{Sliced, slice}
use Rattle.spec_search.specs.Laws.{Leaves}
use Rattle.spec_search.proofs.SoundLemmas.{slice-sound}
use Rattle.spec_search.proofs.ModelLemmas.{slice-keeps_model, slice-leaves}
use Rattle.spec_job.specs.Journal.{JournalEntry, Load, Import, after_entry, is_load, loads_in, loads_of}
use Rattle.spec_job.specs.SoloMachine.{clauses_in}
use Rattle.spec_job.specs.Models.{clauses_of}
pub use Rattle.spec_job.specs.Models.{variables_of}

-- a revision that a node can load
abbrev pub IsLoadable : Posted → Type 0
IsLoadable r = is_posted r ≡ true

-- the assumptions of the last of these revisions
abbrev pub last_assumed : List Posted → List ℕ
last_assumed revisions = fold (λ (a : List ℕ) (p : Posted). p.assumptions) [] revisions

-- an assignment solves these revisions: it satisfies their clauses, the assumptions of the last are true, and it has a
-- value for each of their variables
pub record Solves (revisions : List Posted) (model : List Bool) : Type 0 where
  pub solves : satisfies_with model (clauses_of revisions) (last_assumed revisions) ≡ true
  pub whole : length model ≡ variables_of revisions

variables-from : (ps : List Posted) (v : ℕ) → v ≤ fold (λ (x : ℕ) (p : Posted). max x p.variables) v ps
variables-from [] v = omega arith
variables-from (p ∷ ps) v = let rest : max v p.variables ≤ fold (λ (x : ℕ) (q : Posted). max x q.variables) (max v p.variables) ps = variables-from ps (max v p.variables) in omega arith

-- more revisions have no fewer
pub variables-more : (ps rs : List Posted) → variables_of ps ≤ variables_of (ps ++ rs)
variables-more ps rs = subst (λ (v : ℕ). variables_of ps ≤ v) (sym (fold-append (λ (x : ℕ) (p : Posted). max x p.variables) 0 ps rs)) (variables-from rs (variables_of ps))

-- a sound node that has loaded these revisions and no others
pub record HasLoaded (revisions : List Posted) (n : Node) : Type 0 where
  pub sound : IsSound n
  pub variables : n.variables ≡ variables_of revisions
  pub model : HasModel n
  pub held : originals n.clauses ≡ numbered 1 (clauses_of revisions)
  pub assumed : n.assumptions ≡ last_assumed revisions

pub clauses-length : (ps : List Posted) → length (clauses_of ps) ≡ clauses_in ps
clauses-length ps = length-flat_map (λ (p : Posted). p.clauses) ps

clauses-push : (ps : List Posted) (r : Posted) → clauses_of (ps ++ r ∷ []) ≡ clauses_of ps ++ r.clauses
clauses-push ps r = flat_map-append (λ (p : Posted). p.clauses) ps (r ∷ []) ∙ ap (λ (cs : List (Option (List ℕ))). clauses_of ps ++ cs) (append-nil r.clauses)

pub clauses_in-append : (ps rs : List Posted) → clauses_in (ps ++ rs) ≡ clauses_in ps + clauses_in rs
clauses_in-append ps rs = sum_by-append (λ (p : Posted). length p.clauses) ps rs

pub clauses_in-cons : (r : Posted) (rs : List Posted) → clauses_in (r ∷ rs) ≡ length r.clauses + clauses_in rs
clauses_in-cons r rs = sum_by-cons (λ (p : Posted). length p.clauses) r rs

pub clauses_in-push : (ps : List Posted) (r : Posted) → clauses_in (ps ++ r ∷ []) ≡ clauses_in ps + length r.clauses
clauses_in-push ps r = fold_push (λ (a : ℕ) (p : Posted). a + length p.clauses) 0 ps r

-- a fresh node has loaded nothing
pub fresh-loaded : (profile : Profile) (i : ℕ) → i ≤ 63 → HasLoaded [] (fresh_with i profile)
fresh-loaded profile i low = record { sound = fresh-with_sound i profile low; variables = refl; model = λ v. absurd (cc); held = refl; assumed = refl }

-- a load adds its revision
pub load-loaded : (ps : List Posted) (r : Posted) (n : Node) → IsLoadable r → clauses_in ps + length r.clauses < 2 ^ 32 → HasLoaded ps n → HasLoaded (ps ++ r ∷ []) (loaded r (1 + length (clauses_of ps)) n)
load-loaded ps r n may room h =
    let sum : length (clauses_of ps ++ r.clauses) ≡ length (clauses_of ps) + length r.clauses = length-append (clauses_of ps) r.clauses in
    let count : length (clauses_of ps) ≡ clauses_in ps = clauses-length ps in
    let holds : HoldsAll r (clauses_of ps) n = loads-hold_all r (clauses_of ps) n h.held (omega arith) in
    record {
      sound = loaded-sound r (1 + length (clauses_of ps)) n may (posted-literals r may) holds.new h.sound;
      variables = ap (λ (v : ℕ). max v r.variables) h.variables ∙ sym (fold_push (λ (v : ℕ) (p : Posted). max v p.variables) 0 ps r);
      model = λ v. absurd (cc);
      held = holds.held ∙ ap (numbered 1) (sym (clauses-push ps r));
      assumed = sym (fold_push (λ (a : List ℕ) (p : Posted). p.assumptions) [] ps r);
    }

-- a slice adds none
pub slice-loaded : (ps : List Posted) (n : Node) → HasLoaded ps n → HasLoaded ps (slice n).node
slice-loaded ps n h =
    let k : Leaves n (slice n).node = slice-leaves n in
    record { sound = slice-sound n h.sound; variables = k.variables ∙ h.variables; model = slice-keeps_model n h.sound h.model; held = k.originals ∙ h.held; assumed = k.assumptions ∙ h.assumed }

-- what satisfies the clauses held satisfies the originals among them
originals-satisfied : (a : List Bool) (cs : List NumberedClause) → satisfies a (formula_of cs) ≡ true → satisfies a (formula_of (originals cs)) ≡ true
originals-satisfied a [] e = refl
originals-satisfied a (c ∷ cs) e =
    let parts = and_parts (satisfies_clause a (Some c.lits)) (satisfies a (formula_of cs)) e in
    by_kind (nat_lt c.id (2 ^ 32)) parts.0 (originals-satisfied a cs parts.1)
  where
    by_kind : (b : Bool) → satisfies_clause a (Some c.lits) ≡ true → satisfies a (formula_of (originals cs)) ≡ true → satisfies a (formula_of (cond b (c ∷ originals cs) (originals cs))) ≡ true
    by_kind true here rest = and_from _ _ here rest
    by_kind false here rest = rest

-- a satisfiable node's model solves what it has loaded
counted-length : (first n : ℕ) → length (counted first n) ≡ n
counted-length first zero = refl
counted-length first (suc n) = ap suc (counted-length (first + 1) n)

pub loaded-solves : (ps : List Posted) (n : Node) → HasLoaded ps n → n.verdict ≡ Some Satisfiable → Solves ps (model_of n)
loaded-solves ps n h v =
    let model : IsModel (model_of n) n.clauses n.assumptions = h.model v in
    let held : satisfies (model_of n) (formula_of (numbered 1 (clauses_of ps))) ≡ true = subst (λ (cs : List NumberedClause). satisfies (model_of n) (formula_of cs) ≡ true) h.held (originals-satisfied (model_of n) n.clauses model.satisfied) in
    record {
      solves = and_from _ _ (sym (numbers-mean_same.by_number (model_of n) 1 (clauses_of ps)) ∙ held) (subst (λ (xs : List ℕ). list_all (is_true_in (model_of n)) xs ≡ true) h.assumed model.assumed);
      whole = length-map (counted 1 n.variables) (λ v. is_true n.trail (literal v true)) ∙ (counted-length 1 n.variables ∙ h.variables);
    }

-- the loads of further revisions add them all
pub loads-loaded : (rs ps : List Posted) (first : ℕ) (s : Sliced) → All IsLoadable rs → clauses_in ps + clauses_in rs < 2 ^ 32 → first ≡ clauses_in ps + 1 → HasLoaded ps s.node → HasLoaded (ps ++ rs) (fold after_entry s (loads_of first rs)).node
loads-loaded [] ps first s may room e h = subst (λ (xs : List Posted). HasLoaded xs s.node) (sym (append-nil ps)) h
loads-loaded (r ∷ rs) ps first s may room e h =
    let cons : clauses_in (r ∷ rs) ≡ length r.clauses + clauses_in rs = clauses_in-cons r rs in
    let push : clauses_in (ps ++ r ∷ []) ≡ clauses_in ps + length r.clauses = clauses_in-push ps r in
    let count : length (clauses_of ps) ≡ clauses_in ps = clauses-length ps in
    let same : 1 + length (clauses_of ps) ≡ first = omega arith in
    let one : HasLoaded (ps ++ r ∷ []) (loaded r first s.node) = subst (λ (k : ℕ). HasLoaded (ps ++ r ∷ []) (loaded r k s.node)) same (load-loaded ps r s.node (All-head IsLoadable r rs may) (omega arith) h) in
    subst (λ (xs : List Posted). HasLoaded xs (fold after_entry (after_entry s (Load r first)) (loads_of (first + length r.clauses) rs)).node) (append_assoc ps (r ∷ []) rs) (loads-loaded rs (ps ++ r ∷ []) (first + length r.clauses) (after_entry s (Load r first)) (All-tail IsLoadable r rs may) (omega arith) (omega arith) one)

-- the loads in a journal
pub loads_in-append : (xs ys : List JournalEntry) → loads_in (xs ++ ys) ≡ loads_in xs + loads_in ys
loads_in-append xs ys = sum_by-append (λ (e : JournalEntry). cond (is_load e) 1 0) xs ys

pub loads_in-loads : (first : ℕ) (rs : List Posted) → loads_in (loads_of first rs) ≡ length rs
loads_in-loads first [] = refl
loads_in-loads first (r ∷ rs) =
    let here : loads_in (Load r first ∷ loads_of (first + length r.clauses) rs) ≡ 1 + loads_in (loads_of (first + length r.clauses) rs) = sum_by-cons (λ (e : JournalEntry). cond (is_load e) 1 0) (Load r first) (loads_of (first + length r.clauses) rs) in
    let rest : loads_in (loads_of (first + length r.clauses) rs) ≡ length rs = loads_in-loads (first + length r.clauses) rs in
    omega arith

-- imports load nothing
pub loads_in-imports : (tolds : List (List NumberedClause)) → loads_in (map Import tolds) ≡ 0
loads_in-imports [] = refl
loads_in-imports (t ∷ ts) =
    let here : loads_in (Import t ∷ map Import ts) ≡ 0 + loads_in (map Import ts) = sum_by-cons (λ (e : JournalEntry). cond (is_load e) 1 0) (Import t) (map Import ts) in
    let rest : loads_in (map Import ts) ≡ 0 = loads_in-imports ts in
    omega arith

-- the assumptions of the last of the first revisions
pub last-at : (ps : List Posted) (r : ℕ) (p : Posted) (a : List ℕ) → slice_get ps r ≡ Some p → fold (λ (b : List ℕ) (q : Posted). q.assumptions) a (take (suc r) ps) ≡ p.assumptions
last-at [] r p a e = absurd (cc)
last-at (x ∷ xs) zero p a e = let same : x ≡ p = cc in ap (λ (q : Posted). q.assumptions) same
last-at (x ∷ xs) (suc r) p a e = last-at xs r p x.assumptions e
