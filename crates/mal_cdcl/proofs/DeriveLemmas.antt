use Rattle.std.proofs.Common.{◌≡◌, ℕ, zero, suc, ◌+◌, ◌^◌, ◌<◌, ◌≤◌, Bool, true, false, cond, List, [], ◌∷◌, ◌++◌, length, Option, Some, None, refl, sym, ap, ◌∙◌, subst, append_assoc, append-nil, inl, inr, ◌⊎◌, arith}
use Rattle.std.specs.Prelude.{All, min, nat_lt, nat_le, ◌==◌}
use Rattle.std.specs.List.{list_any, list_all}
use Rattle.std.proofs.lemmas.List.Elements.{All-head, All-tail}
use Rattle.std.proofs.lemmas.Bool.{leb-true, leb-false}
use Rattle.std.proofs.lemmas.Bool.Decides.{nat_tests}
use Rattle.mal_base.specs.Clauses.{rises}
use Rattle.mal_base.specs.Literals.{var_of}
use Rattle.mal_base.specs.Formulas.{is_within}
use Rattle.mal_base.specs.NumberedClause.{NumberedClause}
use Rattle.mal_base.specs.declared.trail_entry.TrailEntry.{TrailEntry}
use Rattle.spec_node.specs.State.{Node}
use Rattle.spec_node.specs.Value.{has_value, level_of, left_literal}
use Rattle.spec_node.specs.Cut.{kept}
use Rattle.spec_node.specs.Adding.{with_clause}
use Rattle.spec_node.specs.Sound.{EachAfter, IsPlaced, IsLevelled, IsPassed, own_level, IsLiteralOf, AreLiteralsOf, IsSound}
use Rattle.spec_node.proofs.CutLemmas.{kept-cons, level_of-push}
use Rattle.spec_node.proofs.LevelLemmas.{each-behind}
use Rattle.spec_node.proofs.SoundLemmas.{kept-level}
use Rattle.spec_learn.specs.Analysis.{vars_in}
use Rattle.spec_learn.specs.Learning.{analysis, derived_id, learned, forced_by}
use Rattle.spec_learn.specs.Refuting.{refuted, core_analysis}
use Rattle.spec_learn.specs.CoreLaws.{HasFailed}
use Rattle.spec_learn.proofs.KeepLemmas.{order-has}
use Rattle.spec_learn.proofs.ProfileLemmas.{learned-sound, sound-asserts}
use Rattle.spec_learn.proofs.RefuteLemmas.{emptied-sound}
use Rattle.spec_learn.proofs.CoreLemmas.{member-All, failed-member}
use Rattle.spec_learn.proofs.CoreClauseLemmas.{core-clause}
use Rattle.spec_learn.proofs.CoreSoundLemmas.{cored-sound}
use Rattle.mal_freeze.specs.Imaged.{IsFormed}
use Rattle.mal_freeze.proofs.SoundLemmas.{sound-formed}

-- entries of some variables are of more
pub placed-wider : (v w : ℕ) (es before : List TrailEntry) → v ≤ w → EachAfter (IsPlaced v) before es → EachAfter (IsPlaced w) before es
placed-wider v w [] before l h = tt
placed-wider v w (e ∷ es) before l h = (record { low = h.0.low; high = omega (arith, h.0.high); free = h.0.free }, placed-wider v w es (before ++ e ∷ []) l h.1)

-- what holds of the clauses held with one more holds of that
all-new : (P : NumberedClause → Type 0) (c : NumberedClause) (ds : List NumberedClause) → All P (with_clause c ds) → P c
all-new P c [] h = All-head P c [] h
all-new P c (d ∷ ds) h = by_less (nat_lt c.id d.id) (all-new P c ds) h
  where
    by_less : (b : Bool) → (All P (with_clause c ds) → P c) → All P (cond b (c ∷ (d ∷ ds)) (d ∷ with_clause c ds)) → P c
    by_less true f k = All-head P c (d ∷ ds) k
    by_less false f k = f (All-tail P d (with_clause c ds) k)

within-lits : (v : ℕ) (lits : List ℕ) → All (IsLiteralOf v) lits → is_within v lits ≡ true
within-lits v [] h = refl
within-lits v (l ∷ ls) h =
    let own : IsLiteralOf v l = All-head (IsLiteralOf v) l ls h in
    rw (le_test 1 (var_of l) own.low, le_test (var_of l) v own.high) (within-lits v ls (All-tail (IsLiteralOf v) l ls h))
  where
    le_test : (a b : ℕ) → a ≤ b → nat_le a b ≡ true
    le_test a b = grind (arith, nat_tests)

-- a clause that a sound node holds may be learned
pub record IsFit (v : ℕ) (lits : List ℕ) : Type 0 where
  pub rising : rises lits ≡ true
  pub within : is_within v lits ≡ true

pub fit-of : (v : ℕ) (lits : List ℕ) → AreLiteralsOf v lits → IsFit v lits
fit-of v lits h = record { rising = h.rising; within = within-lits v lits h.within }

literals-learned : (n : Node) (id : ℕ) → IsSound n → n.conflict ≡ Some id → 0 < level_of n.trail → AreLiteralsOf n.variables (analysis id n).lits
literals-learned n id h q some = all-new (λ c. AreLiteralsOf n.variables c.lits) (record { id = derived_id n; lits = (analysis id n).lits }) n.clauses (learned-sound n id h q some).consistent.clauses

pub fit-learned : (n : Node) (id : ℕ) → IsSound n → n.conflict ≡ Some id → 0 < level_of n.trail → IsFit n.variables (analysis id n).lits
fit-learned n id h q some = fit-of n.variables (analysis id n).lits (literals-learned n id h q some)

pub formed-learned : (n : Node) (id : ℕ) → IsSound n → n.conflict ≡ Some id → 0 < level_of n.trail → n.serial + 1 < 2 ^ 57 → IsFormed (learned id n)
formed-learned n id h q some low = sound-formed (learned id n) (learned-sound n id h q some) low

-- the literals of a goal
pub fit-refuted : (n : Node) (lits : List ℕ) → IsSound (refuted lits n) → IsFit n.variables lits
fit-refuted n lits h = fit-of n.variables lits (all-new (λ c. AreLiteralsOf n.variables c.lits) (record { id = derived_id n; lits = lits }) n.clauses h.consistent.clauses)

pub formed-refuted : (n : Node) (lits : List ℕ) → IsSound (refuted lits n) → n.serial + 1 < 2 ^ 57 → IsFormed (refuted lits n)
formed-refuted n lits h low = sound-formed (refuted lits n) h low

-- the variables of a learned clause are in the order
pub has-learned : (n : Node) (id : ℕ) → IsSound n → n.conflict ≡ Some id → 0 < level_of n.trail → list_all (λ v. list_any (λ w. w == v) n.order) (vars_in (analysis id n).lits) ≡ true
has-learned n id h q some = order-has n.variables n.order (analysis id n).lits h.consistent.order (literals-learned n id h q some).within

-- a cut that takes something away has a decision at its end, and the batches up to it were handled
kept-passed : (level processed : ℕ) (es before : List TrailEntry) → level_of before ≤ level → EachAfter IsLevelled before es → EachAfter (IsPassed processed) before es → (kept level es ≡ es) ⊎ (length (before ++ kept level es) < processed)
kept-passed level processed [] before b h k = inl refl
kept-passed level processed (e ∷ es) before b h k = subst (λ (t : List TrailEntry). (t ≡ e ∷ es) ⊎ (length (before ++ t) < processed)) (sym (kept-cons level e es)) (by_level (λ q. kept-passed level processed es (before ++ e ∷ []) (omega (arith, level_of-push before e)) h.1 k.1) (nat_le e.level level) refl)
  where
    deeper : (kept level es ≡ es) ⊎ (length ((before ++ e ∷ []) ++ kept level es) < processed) → (e ∷ kept level es ≡ e ∷ es) ⊎ (length (before ++ e ∷ kept level es) < processed)
    deeper (inl q) = inl (ap (λ (t : List TrailEntry). e ∷ t) q)
    deeper (inr q) = inr (subst (λ (t : List TrailEntry). length t < processed) (append_assoc before (e ∷ []) (kept level es)) q)

    decision : (o : Option ℕ) → e.reason ≡ o → e.level ≡ own_level before o → level < e.level → length before < processed
    decision None q r l = k.0 q
    decision (Some id) q r l = absurd (omega arith)

    by_level : (e.level ≤ level → (kept level es ≡ es) ⊎ (length ((before ++ e ∷ []) ++ kept level es) < processed)) → (c : Bool) → nat_le e.level level ≡ c → (cond c (e ∷ kept level es) [] ≡ e ∷ es) ⊎ (length (before ++ cond c (e ∷ kept level es) []) < processed)
    by_level f true q = deeper (f (leb-true e.level level q))
    by_level f false q = inr (subst (λ (t : List TrailEntry). length t < processed) (sym (append-nil before)) (decision e.reason refl h.0 (leb-false e.level level q)))

-- after the jump as many batches count as handled as the trail then has prefixes
pub processed-learned : (n : Node) (id : ℕ) → IsSound n → n.conflict ≡ Some id → 0 < level_of n.trail → min n.processed (length (kept (analysis id n).level n.trail) + 1) ≡ length (kept (analysis id n).level n.trail) + 1
processed-learned n id h q some = by_cut (kept-passed j n.processed n.trail [] (omega arith) h.consistent.levels h.passed)
  where
    j : ℕ
    j = (analysis id n).level

    below : j < level_of n.trail
    below = (sound-asserts n id h q some).below

    low : level_of (kept j n.trail) ≤ j
    low = kept-level j n.trail [] (omega arith)

    by_cut : (kept j n.trail ≡ n.trail) ⊎ (length (kept j n.trail) < n.processed) → min n.processed (length (kept j n.trail) + 1) ≡ length (kept j n.trail) + 1
    by_cut (inl e) = let same : level_of (kept j n.trail) ≡ level_of n.trail = ap level_of e in absurd (omega (arith, below, low))
    by_cut (inr l) = omega arith

-- the literal that is left may be made true after the jump
pub record IsFree (v : ℕ) (t : List TrailEntry) (l : ℕ) : Type 0 where
  pub free : has_value t (var_of l) ≡ false
  pub high : var_of l ≤ v

pub free-learned : (n : Node) (id l : ℕ) → IsSound n → n.conflict ≡ Some id → 0 < level_of n.trail → left_literal (kept (analysis id n).level n.trail) (analysis id n).lits ≡ Some l → IsFree n.variables (kept (analysis id n).level n.trail) l
free-learned n id l h q some left =
    let placed = (learned-sound n id h q some).consistent.placed in
    let pushed : EachAfter (IsPlaced n.variables) [] (forced_by (derived_id n) t (Some l)) = subst (λ (o : Option ℕ). EachAfter (IsPlaced n.variables) [] (forced_by (derived_id n) t o)) left placed in
    let last = each-behind (IsPlaced n.variables) t (record { lit = l; reason = Some (derived_id n); level = level_of t } ∷ []) [] pushed in
    record { free = last.0.free; high = last.0.high }
  where
    t : List TrailEntry
    t = kept (analysis id n).level n.trail

-- what holds of a trail with an entry or without holds after its literal was forced
pub forced-keeps : (P : List TrailEntry → Type 0) (id : ℕ) (t : List TrailEntry) (o : Option ℕ) → P t → ((e : TrailEntry) → P (t ++ e ∷ [])) → P (forced_by id t o)
forced-keeps P id t None h f = h
forced-keeps P id t (Some l) h f = f (record { lit = l; reason = Some id; level = level_of t })

-- the literals of the line of a conflict
pub fit-line : (n : Node) (id : ℕ) → IsSound n → n.conflict ≡ Some id → IsFit n.variables (analysis id n).lits
fit-line n id h q = by_level (level_of n.trail) refl
  where
    by_level : (k : ℕ) → level_of n.trail ≡ k → IsFit n.variables (analysis id n).lits
    by_level zero e = fit-refuted n (analysis id n).lits (emptied-sound n id h q e)
    by_level (suc k) e = fit-learned n id h q (omega arith)

-- the literals of the line of a failed assumption
pub fit-core : (n : Node) (a : ℕ) → IsSound n → HasFailed n a → IsFit n.variables (core_analysis a n).lits
fit-core n a h f = fit-of n.variables (core_analysis a n).lits (core-clause n a h f).literals

-- where an assumption has failed there is a variable
pub failed-some : (n : Node) (a : ℕ) → IsSound n → HasFailed n a → 1 ≤ n.variables
failed-some n a h f = let own : IsLiteralOf n.variables a = member-All (IsLiteralOf n.variables) n.assumptions a (failed-member n a f) h.consistent.assumptions.within in omega (arith, own.low, own.high)

-- with what was derived as the goal a node stays sound
pub sound-empty_goal : (n m : Node) (id : ℕ) (lits : List ℕ) → m ≡ n → lits ≡ (analysis id n).lits → IsSound n → n.conflict ≡ Some id → level_of m.trail ≡ 0 → IsSound (refuted lits m)
sound-empty_goal n m id lits s e h q zeroth = rw (s, e) (emptied-sound n id h q (sym (ap (λ (x : Node). level_of x.trail) s) ∙ zeroth))

pub sound-core_goal : (n m : Node) (a : ℕ) (lits : List ℕ) → m ≡ n → lits ≡ (core_analysis a n).lits → IsSound n → HasFailed n a → IsSound (refuted lits m)
sound-core_goal n m a lits s e h f = rw (s, e) (cored-sound n a h f)
