use Rattle.std.proofs.Common.{◌≡◌, ℕ, ◌+◌, ◌-◌, ◌≤◌, Bool, true, false, cond, List, [], ◌∷◌, ◌++◌, length, reverse, Option, Some, None, refl, sym, ap, ◌∙◌, subst, inl, inr, ◌⊎◌, arith}
use Rattle.std.specs.Prelude.{◌==◌, ◌||◌, nat_lt}
use Rattle.std.specs.List.{list_any, list_all}
use Rattle.std.specs.Option.{option_map_or}
use Rattle.std.proofs.lemmas.List.{length_push}
use Rattle.std.proofs.lemmas.Bool.{or_cases, or_left, or_right, eq-eqb, lt-ltb}
use Rattle.mal_base.specs.Literals.{var_of, negated}
use Rattle.mal_base.specs.NumberedClause.{NumberedClause}
use Rattle.mal_base.specs.declared.trail_entry.TrailEntry.{TrailEntry}
use Rattle.spec_node.specs.State.{Node}
use Rattle.spec_node.specs.Value.{is_true}
use Rattle.spec_node.specs.Sound.{EachAfter, IsPlaced, IsChosen, IsLiteralOf, level_in, IsSound}
use Rattle.spec_node.proofs.SettledLemmas.{var_of-negated}
use Rattle.spec_learn.specs.Analysis.{Walk, Analysed, has_var, vars_under, begun, keeping, resolving, is_resolved, after_seen, after_entry, walked, put, clause_of, reached, core_at, core_by, top}
use Rattle.spec_learn.specs.Analysis.Aim.{Final}
use Rattle.spec_learn.specs.Refuting.{core_analysis}
use Rattle.spec_learn.specs.CoreLaws.{HasFailed, HasReason, IsCore}
use Rattle.spec_learn.proofs.LogicLemmas.{negated-negated}
use Rattle.spec_learn.proofs.BehindLemmas.{EachBehind, each-reverse, true-turned}
use Rattle.spec_learn.proofs.UipLemmas.{AreLevelled, walk-small, length-clause}
use Rattle.spec_learn.proofs.InsertionLemmas.{length-put}
use Rattle.spec_learn.proofs.ApartLemmas.{apart-reverse, apart-short}
use Rattle.spec_learn.proofs.PointLemmas.{AllOf, allof-append, allof-back, allof-kept, IsOn, all-on}
use Rattle.spec_learn.proofs.LawLemmas.{sound-levelled}
use Rattle.spec_learn.proofs.SoundParts.{AreDifferent, apart-more, clause-rises, clause-All, kept-different}
use Rattle.spec_learn.proofs.SettleLemmas.{clause-own, clause-list_all}
use Rattle.spec_learn.proofs.KeepLemmas.{different-reverse, apart-none, literals-of}
use Rattle.spec_learn.proofs.CoreLemmas.{member-all, member-All, behind-back, IsFallenAt, failed-open, failed-member, back-true, sound-fallen, assumed, base-walked, core_walk, core-is, fallen-free}

pub sound-reason : (n : Node) (a : ℕ) → IsSound n → HasFailed n a → HasReason n a
sound-reason n a h f = let k : IsFallenAt n a = sound-fallen n a h f in record { entry = k.entry; past = k.past; id = k.id; is = k.is; own = k.own; because = k.because }

-- sizes
reached-short : (l : ℕ) (es : List TrailEntry) → length (reached l es) ≤ length es
reached-short l [] = omega arith
reached-short l (e ∷ es) = by_here (reached-short l es) (e.lit == l)
  where
    by_here : length (reached l es) ≤ length es → (b : Bool) → length (cond b (e ∷ es) (reached l es)) ≤ length (e ∷ es)
    by_here u true = omega arith
    by_here u false = omega arith

by-small : (clauses : List NumberedClause) (a : ℕ) (past : List TrailEntry) (o : Option ℕ) → length (core_by clauses a past o).lits + length (core_by clauses a past o).hints ≤ length past + 2
by-small clauses a past None = omega arith
by-small clauses a past (Some r) =
    let w : Walk = core_walk clauses a past r in
    let lits : length (put (negated a) (clause_of w.kept)) ≡ length (clause_of w.kept) + 1 = length-put nat_lt (negated a) (clause_of w.kept) in
    let kept : length (clause_of w.kept) ≡ length w.kept = length-clause w.kept in
    let hints : length (w.hints ++ r ∷ []) ≡ length w.hints + 1 = length_push w.hints r in
    let walk : length w.kept + length w.hints ≤ length past + (0 + 0) = walk-small Final clauses past (begun (vars_under clauses r)) in
    omega (arith, lits, kept, hints, walk)

pub core-small : (n : Node) (a : ℕ) → IsSound n → length (core_analysis a n).lits + length (core_analysis a n).hints ≤ n.variables + 1
core-small n a h = by_reached (reached (negated a) (reverse n.trail)) (reached-short (negated a) (reverse n.trail))
  where
    short : length (reverse n.trail) + 1 ≤ n.variables + 1
    short =
        let less : n.variables + 1 - 1 ≡ n.variables = omega arith in
        let placed : EachAfter (IsPlaced (n.variables + 1 - 1)) [] n.trail = subst (λ (k : ℕ). EachAfter (IsPlaced k) [] n.trail) (sym less) h.consistent.placed in
        apart-short (n.variables + 1) (reverse n.trail) (omega arith) (apart-reverse (n.variables + 1) n.trail (omega arith) placed)

    by_reached : (es : List TrailEntry) → length es ≤ length (reverse n.trail) → length (core_at n.clauses a es).lits + length (core_at n.clauses a es).hints ≤ n.variables + 1
    by_reached [] l = omega arith
    by_reached (e ∷ past) l = let u : length (core_by n.clauses a past e.reason).lits + length (core_by n.clauses a past e.reason).hints ≤ length past + 2 = by-small n.clauses a past e.reason in omega (arith, short, u, l)

-- only decisions are kept
pub final-kept : (Q : TrailEntry → Type 0) (clauses : List NumberedClause) (past : List TrailEntry) (w : Walk) → AllOf (λ e. e.reason ≡ None → Q e) past → AllOf Q w.kept → AllOf Q (walked Final clauses past w).kept
final-kept Q clauses [] w g h = h
final-kept Q clauses (e ∷ past) w g h = final-kept Q clauses past (after_entry Final clauses e past w) g.1 (by_seen (has_var w.seen (var_of e.lit)))
  where
    by_reason : (o : Option ℕ) → e.reason ≡ o → AllOf Q (option_map_or (λ r. cond (is_resolved Final e w.seen past) (resolving clauses r w) (keeping e w)) o (keeping e w)).kept
    by_reason None q = (g.0 q, h)
    by_reason (Some r) q = h

    by_seen : (b : Bool) → AllOf Q (cond b (after_seen Final clauses e past w) w).kept
    by_seen true = by_reason e.reason refl
    by_seen false = h

-- decisions are assumptions while an assumption is not true
decided-assumed : (assumptions : List ℕ) (a : ℕ) (past : List TrailEntry) → list_any (λ y. y == a) assumptions ≡ true → (is_true past a ≡ true → ⊥) → EachBehind (IsChosen assumptions) past → AllOf (λ e. e.reason ≡ None → list_any (λ y. y == negated (negated e.lit)) assumptions ≡ true) past
decided-assumed assumptions a [] m f h = tt
decided-assumed assumptions a (e ∷ past) m f h = ((λ q. by_choice (or_cases (list_any (λ y. y == e.lit) assumptions) (list_all (is_true (reverse past)) assumptions) (h.0 q))), decided-assumed assumptions a past m (λ q. f (or_right _ _ q)) h.1)
  where
    by_choice : (list_any (λ (y : ℕ). y == e.lit) assumptions ≡ true) ⊎ (list_all (is_true (reverse past)) assumptions ≡ true) → list_any (λ (y : ℕ). y == negated (negated e.lit)) assumptions ≡ true
    by_choice (inl k) = subst (λ (l : ℕ). list_any (λ (y : ℕ). y == l) assumptions ≡ true) (sym (negated-negated e.lit)) k
    by_choice (inr k) = absurd (f (or_right _ _ (sym (true-turned past a) ∙ member-all (is_true (reverse past)) assumptions a m k)))

-- decisions have a level above 0
pub levelled-back : (xs ys : List TrailEntry) → AreLevelled (xs ++ ys) → AreLevelled ys
levelled-back [] ys h = h
levelled-back (x ∷ xs) ys h = levelled-back xs ys h.2

decided-high : (past : List TrailEntry) → AreLevelled past → AllOf (λ e. e.reason ≡ None → 1 ≤ e.level) past
decided-high [] h = tt
decided-high (e ∷ past) h = ((λ q. let u : e.level ≡ top past + 1 = h.0 q in omega arith), decided-high past h.2)

pub different-back : (xs ys : List TrailEntry) → AreDifferent (xs ++ ys) → AreDifferent ys
different-back [] ys h = h
different-back (x ∷ xs) ys h = different-back xs ys h.1

-- the entries before the negation of the assumption are on the trail
pub fallen-on : (n : Node) (a : ℕ) (k : IsFallenAt n a) → IsSound n → AllOf (IsOn n.variables n.trail) (k.entry ∷ k.past)
fallen-on n a k h = allof-back (IsOn n.variables n.trail) k.front (k.entry ∷ k.past) (subst (AllOf (IsOn n.variables n.trail)) k.whole (all-on n.variables n.trail h.consistent.placed h.consistent.levels))

pub core-on : (n : Node) (a : ℕ) (k : IsFallenAt n a) → IsSound n → AllOf (IsOn n.variables n.trail) (core_walk n.clauses a k.past k.id).kept
core-on n a k h = allof-kept (IsOn n.variables n.trail) Final n.clauses k.past (begun (vars_under n.clauses k.id)) (fallen-on n a k h).1 tt

above-zero : (variables : ℕ) (trail : List TrailEntry) (a : ℕ) (es : List TrailEntry) → AllOf (IsOn variables trail) es → AllOf (λ e. 1 ≤ e.level) es → AllOf (λ e. ((negated e.lit == negated a) || nat_lt 0 (level_in trail (var_of (negated e.lit)))) ≡ true) es
above-zero variables trail a [] on high = tt
above-zero variables trail a (e ∷ es) on high =
    let level : level_in trail (var_of (negated e.lit)) ≡ e.level = ap (level_in trail) (var_of-negated e.lit) ∙ on.0.level in
    let some : 1 ≤ e.level = high.0 in
    (or_right _ _ (lt-ltb 0 (level_in trail (var_of (negated e.lit))) (omega arith)), above-zero variables trail a es on.1 high.1)

pub core-clause : (n : Node) (a : ℕ) → IsSound n → HasFailed n a → IsCore n a (core_analysis a n).lits
core-clause n a h f = subst (λ (x : Analysed). IsCore n a x.lits) (sym (core-is n a k)) (record {
  assumed = clause-list_all (λ l. list_any (λ x. x == negated l) n.assumptions) (kept ++ assumed a ∷ []) (allof-append (λ e. list_any (λ x. x == negated (negated e.lit)) n.assumptions ≡ true) kept (assumed a ∷ []) decided (subst (λ (l : ℕ). list_any (λ (x : ℕ). x == l) n.assumptions ≡ true) (sym (negated-negated a)) (failed-member n a f), tt));
  own = clause-own kept (assumed a);
  above = clause-list_all (λ l. (l == negated a) || nat_lt 0 (level_in n.trail (var_of l))) (kept ++ assumed a ∷ []) (allof-append (λ e. ((negated e.lit == negated a) || nat_lt 0 (level_in n.trail (var_of (negated e.lit)))) ≡ true) kept (assumed a ∷ []) (above-zero n.variables n.trail a kept (core-on n a k h) high) (or_left _ _ (eq-eqb (negated a) (negated a) refl), tt));
  literals = record {
    rising = clause-rises (kept ++ assumed a ∷ []) different;
    within = clause-All (IsLiteralOf n.variables) (kept ++ assumed a ∷ []) (allof-append (λ e. IsLiteralOf n.variables (negated e.lit)) kept (assumed a ∷ []) (literals-of n.variables n.trail kept (core-on n a k h)) (own, tt));
  };
})
  where
    k : IsFallenAt n a
    k = sound-fallen n a h f

    start : Walk
    start = begun (vars_under n.clauses k.id)

    kept : List TrailEntry
    kept = (core_walk n.clauses a k.past k.id).kept

    chosen : EachBehind (IsChosen n.assumptions) (k.entry ∷ k.past)
    chosen = behind-back (IsChosen n.assumptions) k.front (k.entry ∷ k.past) (subst (EachBehind (IsChosen n.assumptions)) k.whole (each-reverse (IsChosen n.assumptions) n.trail h.chosen))

    not-yet : is_true k.past a ≡ true → ⊥
    not-yet q = failed-open n a f (back-true n k.front (k.entry ∷ k.past) a k.whole (or_right _ _ q))

    decided : AllOf (λ e. list_any (λ x. x == negated (negated e.lit)) n.assumptions ≡ true) kept
    decided = final-kept (λ e. list_any (λ x. x == negated (negated e.lit)) n.assumptions ≡ true) n.clauses k.past start (decided-assumed n.assumptions a k.past (failed-member n a f) not-yet chosen.1) tt

    levelled : AreLevelled (k.entry ∷ k.past)
    levelled = levelled-back k.front (k.entry ∷ k.past) (subst AreLevelled k.whole (sound-levelled n h))

    high : AllOf (λ e. 1 ≤ e.level) kept
    high = final-kept (λ e. 1 ≤ e.level) n.clauses k.past start (decided-high k.past levelled.2) tt

    own : IsLiteralOf n.variables (negated a)
    own = let l : IsLiteralOf n.variables a = member-All (IsLiteralOf n.variables) n.assumptions a (failed-member n a f) h.consistent.assumptions.within in record { low = subst (λ (v : ℕ). 1 ≤ v) (sym (var_of-negated a)) l.low; high = subst (λ (v : ℕ). v ≤ n.variables) (sym (var_of-negated a)) l.high }

    different : AreDifferent (kept ++ assumed a ∷ [])
    different =
        let less : n.variables + 1 - 1 ≡ n.variables = omega arith in
        let placed : EachAfter (IsPlaced (n.variables + 1 - 1)) [] n.trail = subst (λ (m : ℕ). EachAfter (IsPlaced m) [] n.trail) (sym less) h.consistent.placed in
        let whole : AreDifferent (k.front ++ k.entry ∷ k.past) = subst AreDifferent k.whole (different-reverse (n.variables + 1) (reverse n.trail) (apart-reverse (n.variables + 1) n.trail (omega arith) placed)) in
        let past : AreDifferent (k.entry ∷ k.past) = different-back k.front (k.entry ∷ k.past) whole in
        subst (λ (w : Walk). AreDifferent w.kept) (base-walked (assumed a ∷ []) Final n.clauses k.past start) (kept-different Final n.clauses k.past (keeping (assumed a) start) past.1 (refl, tt) (apart-more (assumed a) [] k.past (fallen-free n a k h) (apart-none k.past)))
