-- What a load and a slice do to a node and a log that serve clauses.
use Rattle.std.proofs.Common.{◌≡◌, ℕ, ◌+◌, ◌*◌, ◌<◌, ◌≤◌, ◌^◌, Bool, true, false, cond, not, ◌&&◌, ◌||◌, nat_eq, nat_lt, nat_le, filter, List, [], ◌∷◌, ◌++◌, Contains, length, map, Option, Some, None, refl, sym, ap, ◌∙◌, subst, inl, inr, ◌⊎◌, arith, length-append, append-nil}
use Rattle.std.specs.Prelude.{All, ◌==◌}
use Rattle.std.specs.List.{list_any}
use Rattle.std.proofs.lemmas.Bool.{and_from, and_parts, cases_lt, lt-ltb}
use Rattle.std.proofs.lemmas.List.Elements.{All-nil, All-weaker, All-contains}
use Rattle.mal_base.specs.NumberedClause.{NumberedClause, Line}
use Rattle.mal_base.specs.Literals.{negated}
use Rattle.mal_base.specs.declared.profile.Profile.{Profile}
use Rattle.mal_base.specs.declared.verdict.Verdict.TheVariants.{Satisfiable, Unsatisfiable}
use Rattle.mal_revision.specs.Posted.{Posted, is_posted}
use Rattle.spec_logic.specs.Logic.{satisfies, satisfies_clause, satisfies_with}
use Rattle.spec_logic.specs.Refutation.{numbered}
use Rattle.spec_node.specs.State.{Node, fresh_with}
use Rattle.spec_node.specs.Load.{loaded, numbered as numbered_from}
use Rattle.spec_node.specs.Adding.{forgetting}
use Rattle.spec_node.specs.Model.{model_of}
use Rattle.spec_node.specs.Laws.{IsModel, HoldsAll, formula_of, originals}
use Rattle.spec_node.proofs.LoadLemmas.{All-with_originals, numbered-below, numbers-mean_same}
use Rattle.spec_node.proofs.SoundLemmas.{fresh-with_sound, loaded-sound}
use Rattle.spec_node.proofs.PostedLemmas.{posted-literals}
use Rattle.spec_node.proofs.ChainLemmas.{loads-hold_all}
use Rattle.spec_search.specs.Slice.{slice}
use Rattle.spec_search.specs.Derived.{with_lines}
use Rattle.spec_search.specs.Dropping.{given_up}
use Rattle.spec_search.specs.DroppingLaws.{GivesUp}
use Rattle.spec_search.specs.Laws.{Leaves, IsCounted, IsRefutedBy}
use Rattle.spec_search.specs.Covering.{IsOfLine, IsKnown, Covers}
use Rattle.spec_search.proofs.SoundLemmas.{slice-sound}
use Rattle.spec_search.proofs.ModelLemmas.{slice-keeps_model, slice-leaves}
use Rattle.spec_search.proofs.LineLemmas.{lines-derived, held-of_lines, lines-counted, slice-refutes}
use Rattle.spec_search.proofs.FewerLemmas.{gives-up}
use Rattle.spec_search.proofs.LinesLemmas.{take-lines, numbered-known, of-originals}
use Rattle.spec_proof.specs.Among.{Among}
use Rattle.spec_proof.proofs.Among.{among-right, contains-from_among}
use Rattle.spec_proof.proofs.LogLemmas.{log-empty}
use Rattle.spec_proof.proofs.Growing.{log-takes-originals, numbered-within}
use Rattle.spec_proof.proofs.Refuting.{trimmed-refutes}
use Rattle.spec_proof.proofs.Contradicting.{contradicts-own, contradicts-members}
use Rattle.spec_learn.specs.Dropping.{is_reason}
use Rattle.spec_solving.specs.Holding.{Serves, IsRefuted, all_given_up, may_be_given_up}

-- a node that was given nothing
pub fresh-serves : (profile : Profile) → Serves [] [] (fresh_with 0 profile)
fresh-serves profile = record {
  sound = fresh-with_sound 0 profile (omega arith);
  model = λ v. absurd (cc);
  held = refl;
  covers = record {
    derived = log-empty [] (omega arith);
    closed = λ line hint m k. absurd m;
    known = All-nil (IsKnown [] []);
    before = λ line k m q. absurd m;
  };
}

-- the numbers of the clauses of a load are new, and are held with those before
pub load-new : (clauses : List (Option (List ℕ))) (log : List Line) (r : Posted) (n : Node) → Serves clauses log n → length clauses + length r.clauses + 1 ≤ 2 ^ 32 → HoldsAll r clauses n
load-new clauses log r n h room =
    let sum : length (clauses ++ r.clauses) ≡ length clauses + length r.clauses = length-append clauses r.clauses in
    loads-hold_all r clauses n h.held (omega arith)

-- a derived clause that is known is that of a line
known-derived : (clauses : List (Option (List ℕ))) (log : List Line) → length clauses < 2 ^ 32 → (c : NumberedClause) → IsKnown clauses log c → 2 ^ 32 ≤ c.id → IsOfLine log c
known-derived clauses log few c (inl e) high = absurd (numbered-within clauses c.id (Some c.lits) e (omega arith))
known-derived clauses log few c (inr k) high = k

-- a log that covers what a node holds does so after a load
load-covers : (clauses : List (Option (List ℕ))) (log : List Line) (r : Posted) (n : Node) → length clauses + length r.clauses + 1 ≤ 2 ^ 32 → Serves clauses log n → Covers (clauses ++ r.clauses) log n.index n.serial (loaded r (1 + length clauses) n).clauses
load-covers clauses log r n room h = record {
  derived = log-takes-originals clauses r.clauses log h.covers.derived (omega (arith, sum));
  closed = h.covers.closed;
  known = λ j d b. by_size _ (below j d b) (derived j d b) (cases_lt _ (2 ^ 32));
  before = h.covers.before;
}
  where
    all : HoldsAll r clauses n
    all = load-new clauses log r n h room

    sum : length (clauses ++ r.clauses) ≡ length clauses + length r.clauses
    sum = length-append clauses r.clauses

    known-originals : All (λ c. numbered (clauses ++ r.clauses) c.id ≡ Some (Some c.lits)) (originals (loaded r (1 + length clauses) n).clauses)
    known-originals = subst (λ (hs : List NumberedClause). All (λ (c : NumberedClause). numbered (clauses ++ r.clauses) c.id ≡ Some (Some c.lits)) hs) (sym all.held) (subst (λ (cs : List (Option (List ℕ))). All (λ (c : NumberedClause). numbered cs c.id ≡ Some (Some c.lits)) (numbered_from 1 (clauses ++ r.clauses))) (append-nil (clauses ++ r.clauses)) (numbered-known (clauses ++ r.clauses) []))

    below : All (λ c. nat_lt c.id (2 ^ 32) ≡ true → numbered (clauses ++ r.clauses) c.id ≡ Some (Some c.lits)) (loaded r (1 + length clauses) n).clauses
    below = of-originals (λ c. numbered (clauses ++ r.clauses) c.id ≡ Some (Some c.lits)) (loaded r (1 + length clauses) n).clauses known-originals

    held : All (λ c. 2 ^ 32 ≤ c.id → IsOfLine log c) n.clauses
    held = All-weaker (IsKnown clauses log) (λ c. 2 ^ 32 ≤ c.id → IsOfLine log c) (known-derived clauses log h.covers.derived.originals_below) n.clauses h.covers.known

    new : (c : NumberedClause) → c.id < 2 ^ 32 → 2 ^ 32 ≤ c.id → IsOfLine log c
    new c less more = absurd (omega arith)

    derived : All (λ c. 2 ^ 32 ≤ c.id → IsOfLine log c) (loaded r (1 + length clauses) n).clauses
    derived = All-with_originals (λ c. 2 ^ 32 ≤ c.id → IsOfLine log c) n.clauses (numbered_from (1 + length clauses) r.clauses) held (All-weaker (λ c. c.id < 2 ^ 32) (λ c. 2 ^ 32 ≤ c.id → IsOfLine log c) new (numbered_from (1 + length clauses) r.clauses) (numbered-below (2 ^ 32) (1 + length clauses) r.clauses (omega arith)))

    by_size : (c : NumberedClause) → (nat_lt c.id (2 ^ 32) ≡ true → numbered (clauses ++ r.clauses) c.id ≡ Some (Some c.lits)) → (2 ^ 32 ≤ c.id → IsOfLine log c) → (c.id < 2 ^ 32) ⊎ (2 ^ 32 ≤ c.id) → IsKnown (clauses ++ r.clauses) log c
    by_size c f g (inl less) = inl (f (lt-ltb c.id (2 ^ 32) less))
    by_size c f g (inr high) = inr (g high)

pub load-serves : (clauses : List (Option (List ℕ))) (log : List Line) (r : Posted) (n : Node) → is_posted r ≡ true → length clauses + length r.clauses + 1 ≤ 2 ^ 32 → Serves clauses log n → Serves (clauses ++ r.clauses) log (loaded r (1 + length clauses) n)
load-serves clauses log r n may room h =
    let all : HoldsAll r clauses n = load-new clauses log r n h room in
    record {
      sound = loaded-sound r (1 + length clauses) n may (posted-literals r may) all.new h.sound;
      model = λ v. absurd (cc);
      held = all.held;
      covers = load-covers clauses log r n room h;
    }

-- what a node is beside its clauses stays when it gives one up
given-up-rest : {A : Type 0} (f : Node → A) → ((n : Node) (cs : List NumberedClause) → f (record n { clauses = cs }) ≡ f n) → (id : ℕ) (n : Node) → f (given_up id n) ≡ f n
given-up-rest f same id n = by_test (nat_le (2 ^ 32) id && not (is_reason n.trail (record { id = id; lits = [] })))
  where
    by_test : (b : Bool) → f (cond {A = Node} b (record n { clauses = forgetting (id ∷ []) n.clauses }) n) ≡ f n
    by_test true = same n (forgetting (id ∷ []) n.clauses)
    by_test false = refl

pub all-given-up-rest : {A : Type 0} (f : Node → A) → ((n : Node) (cs : List NumberedClause) → f (record n { clauses = cs }) ≡ f n) → (ids : List ℕ) (n : Node) → f (all_given_up ids n) ≡ f n
all-given-up-rest f same [] n = refl
all-given-up-rest f same (id ∷ ids) n = all-given-up-rest f same ids (given_up id n) ∙ given-up-rest f same id n

give-one_up : (clauses : List (Option (List ℕ))) (log : List Line) (id : ℕ) (n : Node) → n.conflict ≡ None → n.verdict ≡ None → Serves clauses log n → Serves clauses log (given_up id n)
give-one_up clauses log id n calm none h =
    let g : GivesUp id n = gives-up id n in
    let verdict : (given_up id n).verdict ≡ n.verdict = given-up-rest (λ (m : Node). m.verdict) (λ m cs. refl) id n in
    let index : (given_up id n).index ≡ n.index = given-up-rest (λ (m : Node). m.index) (λ m cs. refl) id n in
    let serial : (given_up id n).serial ≡ n.serial = given-up-rest (λ (m : Node). m.serial) (λ m cs. refl) id n in
    record {
      sound = g.sound h.sound calm;
      model = λ v. absurd (cc (verdict, none, v));
      held = g.originals ∙ h.held;
      covers = record {
        derived = h.covers.derived;
        closed = h.covers.closed;
        known = All-weaker (Contains n.clauses) (IsKnown clauses log) (λ c m. All-contains (IsKnown clauses log) n.clauses c h.covers.known m) (given_up id n).clauses g.was;
        before = λ line k m q. subst (λ (s : ℕ). k < s) (sym serial) (h.covers.before line k m (subst (λ (i : ℕ). line.id ≡ 2 ^ 32 + k * 64 + i) index q));
      };
    }

pub give-up-serves : (clauses : List (Option (List ℕ))) (log : List Line) (ids : List ℕ) (n : Node) → n.conflict ≡ None → n.verdict ≡ None → Serves clauses log n → Serves clauses log (all_given_up ids n)
give-up-serves clauses log [] n calm none h = h
give-up-serves clauses log (id ∷ ids) n calm none h =
    give-up-serves clauses log ids (given_up id n) (given-up-rest (λ (m : Node). m.conflict) (λ m cs. refl) id n ∙ calm) (given-up-rest (λ (m : Node). m.verdict) (λ m cs. refl) id n ∙ none) (give-one_up clauses log id n calm none h)

forget-none : (cs : List NumberedClause) → forgetting [] cs ≡ cs
forget-none [] = refl
forget-none (c ∷ cs) = ap (λ (ds : List NumberedClause). c ∷ ds) (forget-none cs)

forget-more : (id : ℕ) (ids : List ℕ) (cs : List NumberedClause) → forgetting ids (forgetting (id ∷ []) cs) ≡ forgetting (id ∷ ids) cs
forget-more id ids [] = refl
forget-more id ids (c ∷ cs) = by_test (nat_eq id c.id) (forget-more id ids cs)
  where
    also : (b : Bool) (xs ys : List NumberedClause) → xs ≡ ys → cond b (c ∷ xs) xs ≡ cond b (c ∷ ys) ys
    also b xs ys e = ap (λ (ds : List NumberedClause). cond b (c ∷ ds) ds) e

    by_test : (b : Bool) → forgetting ids (forgetting (id ∷ []) cs) ≡ forgetting (id ∷ ids) cs → forgetting ids (cond (not (b || false)) (c ∷ forgetting (id ∷ []) cs) (forgetting (id ∷ []) cs)) ≡ cond (not (b || list_any (λ i. i == c.id) ids)) (c ∷ forgetting (id ∷ ids) cs) (forgetting (id ∷ ids) cs)
    by_test true e = e
    by_test false e = also (not (list_any (λ i. i == c.id) ids)) (forgetting ids (forgetting (id ∷ []) cs)) (forgetting (id ∷ ids) cs) e

-- it is the same to give up clauses one after another, and to forget at once those that can be given up
pub given-up-at-once : (ids : List ℕ) (n : Node) → all_given_up ids n ≡ record n { clauses = forgetting (filter (may_be_given_up n.trail) ids) n.clauses }
given-up-at-once [] n = ap (λ (cs : List NumberedClause). record n { clauses = cs }) (sym (forget-none n.clauses))
given-up-at-once (id ∷ ids) n = by_test (may_be_given_up n.trail id) (given-up-at-once ids n) (given-up-at-once ids (record n { clauses = forgetting (id ∷ []) n.clauses }))
  where
    rest : List ℕ
    rest = filter (may_be_given_up n.trail) ids

    fewer : Node
    fewer = record n { clauses = forgetting (id ∷ []) n.clauses }

    by_test : (b : Bool) → all_given_up ids n ≡ record n { clauses = forgetting rest n.clauses } → all_given_up ids fewer ≡ record n { clauses = forgetting rest (forgetting (id ∷ []) n.clauses) } → all_given_up ids (cond {A = Node} b fewer n) ≡ record n { clauses = forgetting (cond b (id ∷ rest) rest) n.clauses }
    by_test true stays goes = goes ∙ ap (λ (cs : List NumberedClause). record n { clauses = cs }) (forget-more id rest n.clauses)
    by_test false stays goes = stays

-- a log that covers what a node holds does so after a slice, with the slice's lines
slice-covers : (clauses : List (Option (List ℕ))) (log : List Line) (n : Node) → Serves clauses log n → Covers clauses (log ++ (slice n).lines) n.index (slice n).node.serial (slice n).node.clauses
slice-covers clauses log n h =
    let lines : List Line = (slice n).lines in
    let k : IsCounted n = lines-counted n in
    let t : Covers clauses (log ++ lines) n.index (n.serial + length lines) (with_lines n.clauses lines) = take-lines clauses log n.index n.serial n.clauses lines h.sound.ranged.index h.covers (lines-derived n h.sound) k.numbered in
    record {
      derived = t.derived;
      closed = t.closed;
      known = All-weaker (Contains (with_lines n.clauses lines)) (IsKnown clauses (log ++ lines)) (λ c m. All-contains (IsKnown clauses (log ++ lines)) (with_lines n.clauses lines) c t.known m) (slice n).node.clauses (held-of_lines n h.sound);
      before = λ line j m q. subst (λ (x : ℕ). j < x) (sym k.serial) (t.before line j m q);
    }

pub slice-serves : (clauses : List (Option (List ℕ))) (log : List Line) (n : Node) → Serves clauses log n → Serves clauses (log ++ (slice n).lines) (slice n).node
slice-serves clauses log n h =
    let k : Leaves n (slice n).node = slice-leaves n in
    record {
      sound = slice-sound n h.sound;
      model = slice-keeps_model n h.sound h.model;
      held = k.originals ∙ h.held;
      covers = subst (λ (i : ℕ). Covers clauses (log ++ (slice n).lines) i (slice n).node.serial (slice n).node.clauses) (sym k.index) (slice-covers clauses log n h);
    }

-- where a slice refutes, what its goal needs refutes the clauses under the assumptions that its last line contradicts
pub slice-refuted : (clauses : List (Option (List ℕ))) (log : List Line) (n : Node) (goal : ℕ) → Serves clauses log n → n.verdict ≡ None → (slice n).node.verdict ≡ Some (Unsatisfiable goal) → IsRefuted clauses n.assumptions goal log (slice n).lines
slice-refuted clauses log n goal h none v =
    let lines : List Line = (slice n).lines in
    let r : IsRefutedBy n.assumptions goal lines = slice-refutes n goal h.sound none v in
    let among : Among r.line (log ++ lines) = among-right log lines r.line (subst (λ (ls : List Line). Among r.line ls) (sym r.last) (among-right r.before (r.line ∷ []) r.line (inl refl))) in
    record {
      before = r.before;
      line = r.line;
      last = r.last;
      among = contradicts-members n.assumptions r.line.lits r.contradicted;
      refuted = trimmed-refutes clauses (map negated r.line.lits) goal (log ++ lines) r.line (slice-covers clauses log n h).derived (contains-from_among (log ++ lines) r.line among) r.number (contradicts-own r.line.lits);
    }

-- what satisfies the clauses held satisfies the originals among them
originals-satisfied : (a : List Bool) (cs : List NumberedClause) → satisfies a (formula_of cs) ≡ true → satisfies a (formula_of (originals cs)) ≡ true
originals-satisfied a [] e = refl
originals-satisfied a (c ∷ cs) e =
    let parts = and_parts (satisfies_clause a (Some c.lits)) (satisfies a (formula_of cs)) e in
    by_kind (nat_lt c.id (2 ^ 32)) parts.0 (originals-satisfied a cs parts.1)
  where
    by_kind : (b : Bool) → satisfies_clause a (Some c.lits) ≡ true → satisfies a (formula_of (originals cs)) ≡ true → satisfies a (formula_of (cond b (c ∷ originals cs) (originals cs))) ≡ true
    by_kind true here rest = and_from _ _ here rest
    by_kind false here rest = rest

-- a satisfiable node's model satisfies the clauses and the assumptions
pub serves-solves : (clauses : List (Option (List ℕ))) (log : List Line) (n : Node) → Serves clauses log n → n.verdict ≡ Some Satisfiable → satisfies_with (model_of n) clauses n.assumptions ≡ true
serves-solves clauses log n h v =
    let model : IsModel (model_of n) n.clauses n.assumptions = h.model v in
    let held : satisfies (model_of n) (formula_of (numbered_from 1 clauses)) ≡ true = subst (λ (cs : List NumberedClause). satisfies (model_of n) (formula_of cs) ≡ true) h.held (originals-satisfied (model_of n) n.clauses model.satisfied) in
    and_from _ _ (sym (numbers-mean_same.by_number (model_of n) 1 clauses) ∙ held) model.assumed
