use Rattle.std.proofs.Common.{◌≡◌, ℕ, ◌+◌, ◌<◌, ◌≤◌, max, Bool, true, false, cond, List, [], ◌∷◌, ◌++◌, length, reverse, Option, Some, None, refl, sym, ap, ◌∙◌, subst, inl, inr, ◌⊎◌, arith}
use Rattle.std.specs.Prelude.{◌==◌, ◌&&◌, nat_lt}
use Rattle.std.specs.Option.{option_map_or}
use Rattle.std.proofs.lemmas.List.Folds.{list_any-append}
use Rattle.std.proofs.lemmas.Bool.{and_parts, and_from, or_cases, or_left, or_right, eq-eqb, ne_eqb}
use Rattle.mal_base.specs.Literals.{var_of, negated}
use Rattle.mal_base.specs.NumberedClause.{NumberedClause}
use Rattle.mal_base.specs.declared.trail_entry.TrailEntry.{TrailEntry}
use Rattle.spec_node.specs.Sound.{IsLevelled, own_level}
use Rattle.spec_learn.specs.Analysis.{Walk, Aim, has_var, keeping, resolving, is_left, is_resolved, after_seen, after_entry, walked, put, clause_of, jump, top}
use Rattle.spec_learn.proofs.InsertionLemmas.{length-put}
use Rattle.spec_learn.proofs.BehindLemmas.{EachBehind, level-turned}

-- decisions open a level, forced entries have the one that is reached
abbrev pub AreLevelled : List TrailEntry → Type 0
AreLevelled [] = Unit {0}
AreLevelled (e ∷ past) = (e.reason ≡ None → e.level ≡ top past + 1) × ((r : ℕ) → e.reason ≡ Some r → e.level ≡ top past) × AreLevelled past

pub levelled-behind : (past : List TrailEntry) → EachBehind IsLevelled past → AreLevelled past
levelled-behind [] h = tt
levelled-behind (e ∷ past) h =
    ((λ q. h.0 ∙ (ap (own_level (reverse past)) q ∙ ap (λ (k : ℕ). k + 1) (level-turned past))), (λ r q. h.0 ∙ (ap (own_level (reverse past)) q ∙ level-turned past)), levelled-behind past h.1)

-- levels fall towards the past
pub falls : (e : TrailEntry) (past : List TrailEntry) → AreLevelled (e ∷ past) → top past ≤ e.level
falls e past h = by_reason e.reason refl
  where
    by_reason : (o : Option ℕ) → e.reason ≡ o → top past ≤ e.level
    by_reason None q = let u : e.level ≡ top past + 1 = h.0 q in omega arith
    by_reason (Some r) q = let u : e.level ≡ top past = h.1 r q in omega arith

-- above the level reached none is left
pub lower : (k : ℕ) (seen : List ℕ) (past : List TrailEntry) → AreLevelled past → top past < k → is_left k seen past ≡ false
lower k seen [] h l = refl
lower k seen (e ∷ past) h l =
    let other : (e.level == k) ≡ false = ne_eqb e.level k (λ q. absurd (omega arith)) in
    let low : top past ≤ e.level = falls e past h in
    rw (other, lower k seen past h.2 (omega arith)) refl

pub left-more : (k : ℕ) (new seen : List ℕ) (past : List TrailEntry) → is_left k seen past ≡ true → is_left k (new ++ seen) past ≡ true
left-more k new seen [] h = absurd (cc)
left-more k new seen (e ∷ past) h = by_place (left-more k new seen past) (or_cases ((e.level == k) && has_var seen (var_of e.lit)) (is_left k seen past) h)
  where
    by_place : (is_left k seen past ≡ true → is_left k (new ++ seen) past ≡ true) → (((e.level == k) && has_var seen (var_of e.lit)) ≡ true) ⊎ (is_left k seen past ≡ true) → is_left k (new ++ seen) (e ∷ past) ≡ true
    by_place f (inl q) =
        let parts = and_parts (e.level == k) (has_var seen (var_of e.lit)) q in
        or_left _ _ (and_from _ _ parts.0 (list_any-append (λ w. var_of e.lit == w) new seen ∙ or_right _ _ parts.1))
    by_place f (inr q) = or_right _ _ (f q)

-- levels of the entries kept: one of the current level, the last, and the others between
abbrev pub AreBetween : ℕ → List TrailEntry → Type 0
AreBetween level [] = Unit {0}
AreBetween level (e ∷ es) = (1 ≤ e.level) × (e.level < level) × AreBetween level es

pub record HasPoint (level : ℕ) (kept : List TrailEntry) : Type 0 where
  pub low : List TrailEntry
  pub point : TrailEntry
  pub is : kept ≡ low ++ point ∷ []
  pub own : point.level ≡ level
  pub between : AreBetween level low

-- the level to jump to is below the current one, and at least that of each other entry
jump-between : (level : ℕ) (es : List TrailEntry) (point : TrailEntry) → 0 < level → point.level ≡ level → AreBetween level es → jump level (es ++ point ∷ []) < level
jump-between level [] point some q h = let own : (point.level == level) ≡ true = eq-eqb point.level level q in rw own (omega arith)
jump-between level (e ∷ es) point some q h =
    let ih : jump level (es ++ point ∷ []) < level = jump-between level es point some q h.2 in
    by_test (e.level == level) ih
  where
    by_test : (b : Bool) → jump level (es ++ point ∷ []) < level → max (cond b 0 e.level) (jump level (es ++ point ∷ [])) < level
    by_test true ih = omega arith
    by_test false ih = let u : e.level < level = h.1 in omega arith

pub jump-below : (level : ℕ) (kept : List TrailEntry) → 0 < level → HasPoint level kept → jump level kept < level
jump-below level kept some p = subst (λ (xs : List TrailEntry). jump level xs < level) (sym p.is) (jump-between level p.low p.point some p.own p.between)

-- each entry adds a literal or a hint at most
pub walk-small : (aim : Aim) (clauses : List NumberedClause) (past : List TrailEntry) (w : Walk) → length (walked aim clauses past w).kept + length (walked aim clauses past w).hints ≤ length past + (length w.kept + length w.hints)
walk-small aim clauses [] w = omega arith
walk-small aim clauses (e ∷ past) w =
    let v : Walk = after_entry aim clauses e past w in
    let ih : length (walked aim clauses past v).kept + length (walked aim clauses past v).hints ≤ length past + (length v.kept + length v.hints) = walk-small aim clauses past v in
    let one : length v.kept + length v.hints ≤ 1 + (length w.kept + length w.hints) = by_seen (has_var w.seen (var_of e.lit)) in
    omega (arith, ih, one)
  where
    by_resolved : (r : ℕ) (b : Bool) → length (cond b (resolving clauses r w) (keeping e w)).kept + length (cond b (resolving clauses r w) (keeping e w)).hints ≤ 1 + (length w.kept + length w.hints)
    by_resolved r true = omega arith
    by_resolved r false = omega arith

    by_reason : (o : Option ℕ) → length (option_map_or (λ r. cond (is_resolved aim e w.seen past) (resolving clauses r w) (keeping e w)) o (keeping e w)).kept + length (option_map_or (λ r. cond (is_resolved aim e w.seen past) (resolving clauses r w) (keeping e w)) o (keeping e w)).hints ≤ 1 + (length w.kept + length w.hints)
    by_reason None = omega arith
    by_reason (Some r) = by_resolved r (is_resolved aim e w.seen past)

    by_seen : (b : Bool) → length (cond b (after_seen aim clauses e past w) w).kept + length (cond b (after_seen aim clauses e past w) w).hints ≤ 1 + (length w.kept + length w.hints)
    by_seen true = by_reason e.reason
    by_seen false = omega arith

pub length-clause : (es : List TrailEntry) → length (clause_of es) ≡ length es
length-clause [] = refl
length-clause (e ∷ es) = let ih : length (clause_of es) ≡ length es = length-clause es in let p : length (put (negated e.lit) (clause_of es)) ≡ length (clause_of es) + 1 = length-put nat_lt (negated e.lit) (clause_of es) in omega arith
