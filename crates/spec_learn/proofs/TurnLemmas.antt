use Rattle.std.proofs.Common.{◌≡◌, ℕ, ◌+◌, ◌<◌, ◌≤◌, Bool, true, false, cond, List, [], ◌∷◌, ◌++◌, None, refl, sym, ap, ◌∙◌, inl, inr, ◌⊎◌, arith}
use Rattle.std.specs.Prelude.{◌==◌, ◌&&◌, ◌||◌}
use Rattle.std.proofs.lemmas.Bool.{eq-eqb, eqb-true, eqb-false, ne_eqb, both_ways, or_parts, cases_lt}
use Rattle.mal_base.specs.Literals.{var_of}
use Rattle.mal_base.specs.NumberedClause.{NumberedClause}
use Rattle.mal_base.specs.declared.trail_entry.TrailEntry.{TrailEntry}
use Rattle.spec_node.specs.Value.{has_value}
use Rattle.spec_learn.specs.Analysis.{Walk, Aim, has_var, vars_under, keeping, resolving, is_left, is_resolved, is_covered, after_entry, walked, top}
use Rattle.spec_learn.specs.Analysis.Aim.{Learned, Shortened}
use Rattle.spec_learn.proofs.UipLemmas.{AreLevelled, falls, lower, left-more, HasPoint}
use Rattle.spec_learn.proofs.SoundParts.{AreDifferent}
use Rattle.spec_learn.proofs.LogicLemmas.{not-both}
use Rattle.spec_learn.proofs.CaseLemmas.{after-by, after-same, IsMild}

-- where the walks of both profiles have passed the current level: they have come to the same, one entry of that level
-- stays
pub record Turn (level : ℕ) (clauses : List NumberedClause) (past : List TrailEntry) (w : Walk) : Type 0 where
  pub front : List TrailEntry
  pub rest : List TrailEntry
  pub at : Walk
  pub point : TrailEntry
  pub whole : past ≡ front ++ rest
  pub learned : walked (Learned level) clauses past w ≡ walked (Learned level) clauses rest at
  pub shortened : walked (Shortened level clauses) clauses past w ≡ walked (Shortened level clauses) clauses rest at
  pub none : is_left level at.seen rest ≡ false
  pub is : at.kept ≡ point ∷ []
  pub own : point.level ≡ level
  pub low : top rest ≤ level
  pub apart : has_value rest (var_of point.lit) ≡ false

pub turns : (level : ℕ) (clauses : List NumberedClause) (past : List TrailEntry) (w : Walk) → 0 < level → AreLevelled past → AreDifferent past → top past ≤ level → is_left level w.seen past ≡ true → w.kept ≡ [] → Turn level clauses past w
turns level clauses [] w some h d t l none = absurd (cc)
turns level clauses (e ∷ past) w some h d t l none = let low : top past ≤ e.level = falls e past h in goes_on (after-by (Turn level clauses past) (Learned level) clauses e past w (record {
  unseen = λ s. turns level clauses past w some h.2 d.1 (omega arith) (still s) none;
  stays = λ s o. by_left s o (is_left level w.seen past) refl;
  goes = λ s r q k. turns level clauses past (resolving clauses r w) some h.2 d.1 (omega arith) (left-more level (vars_under clauses r) w.seen past (more k)) none;
}))
  where
    -- while one of the level is left, entries have it
    reached : is_left level w.seen past ≡ true → level ≤ top past
    reached k = by_order (cases_lt (top past) level)
      where
        by_order : (top past < level) ⊎ (level ≤ top past) → level ≤ top past
        by_order (inl m) = absurd (both_ways (is_left level w.seen past) (lower level w.seen past h.2 m) k)
        by_order (inr m) = m

    own : (e.level == level) ≡ true
    own = by_left (is_left level w.seen past) refl (e.level == level) refl l
      where
        by_left : (b : Bool) → is_left level w.seen past ≡ b → (x : Bool) → (e.level == level) ≡ x → ((x && has_var w.seen (var_of e.lit)) || b) ≡ true → (e.level == level) ≡ true
        by_left true k x m q = let a : level ≤ top past = reached k in let b : top past ≤ e.level = falls e past h in eq-eqb e.level level (omega arith)
        by_left false k true m q = m
        by_left false k false m q = absurd (cc)

    not_zero : (e.level == 0) ≡ false
    not_zero = let same : e.level ≡ level = eqb-true e.level level own in ne_eqb e.level 0 (λ z. absurd (omega arith))

    learned_is : is_resolved (Learned level) e w.seen past ≡ is_left level w.seen past
    learned_is = ap (λ (b : Bool). b || ((e.level == level) && is_left level w.seen past)) not_zero ∙ ap (λ (b : Bool). b && is_left level w.seen past) own

    short_is : is_resolved (Shortened level clauses) e w.seen past ≡ is_left level w.seen past
    short_is = ap (λ (b : Bool). b || cond (e.level == level) (is_left level w.seen past) (is_covered clauses e w.seen past)) not_zero ∙ ap (λ (b : Bool). cond b (is_left level w.seen past) (is_covered clauses e w.seen past)) own

    same : after_entry (Shortened level clauses) clauses e past w ≡ after_entry (Learned level) clauses e past w
    same = after-same (Shortened level clauses) (Learned level) clauses e past w (short_is ∙ sym learned_is)

    goes_on : Turn level clauses past (after_entry (Learned level) clauses e past w) → Turn level clauses (e ∷ past) w
    goes_on k = record { front = e ∷ k.front; rest = k.rest; at = k.at; point = k.point; whole = ap (λ (xs : List TrailEntry). e ∷ xs) k.whole; learned = k.learned; shortened = ap (walked (Shortened level clauses) clauses past) same ∙ k.shortened; none = k.none; is = k.is; own = k.own; low = k.low; apart = k.apart }

    still : has_var w.seen (var_of e.lit) ≡ false → is_left level w.seen past ≡ true
    still s = by_false (e.level == level) (sym (ap (λ (b : Bool). ((e.level == level) && b) || is_left level w.seen past) s) ∙ l)
      where
        by_false : (x : Bool) → ((x && false) || is_left level w.seen past) ≡ true → is_left level w.seen past ≡ true
        by_false true q = q
        by_false false q = q

    more : is_resolved (Learned level) e w.seen past ≡ true → is_left level w.seen past ≡ true
    more k = sym learned_is ∙ k

    by_left : has_var w.seen (var_of e.lit) ≡ true → (e.reason ≡ None) ⊎ (is_resolved (Learned level) e w.seen past ≡ false) → (b : Bool) → is_left level w.seen past ≡ b → Turn level clauses past (keeping e w)
    by_left s (inl o) true k = let a : level ≤ top past = reached k in let u : e.level ≡ top past + 1 = h.0 o in absurd (omega arith)
    by_left s (inr o) true k = absurd (both_ways (is_resolved (Learned level) e w.seen past) o (learned_is ∙ k))
    by_left s o false k = let low : top past ≤ e.level = falls e past h in record { front = []; rest = past; at = keeping e w; point = e; whole = refl; learned = refl; shortened = refl; none = k; is = ap (λ (xs : List TrailEntry). e ∷ xs) none; own = eqb-true e.level level own; low = omega arith; apart = d.0 }

-- past that, one entry of the current level stays, and others only of levels between
pub rest-point : (aim : Aim) (level : ℕ) (clauses : List NumberedClause) (past : List TrailEntry) (w : Walk) → IsMild level clauses aim → 0 < level → AreLevelled past → top past ≤ level → is_left level w.seen past ≡ false → HasPoint level w.kept → HasPoint level (walked aim clauses past w).kept
rest-point aim level clauses [] w m some h t none p = p
rest-point aim level clauses (e ∷ past) w m some h t none p = let low : top past ≤ e.level = falls e past h in after-by (λ v. HasPoint level (walked aim clauses past v).kept) aim clauses e past w (record {
  unseen = λ s. rest-point aim level clauses past w m some h.2 (omega arith) parts.1 p;
  stays = λ s d. rest-point aim level clauses past (keeping e w) m some h.2 (omega arith) parts.1 (with_one (other s) (above d));
  goes = λ s r q k. let apart : e.level ≡ level → ⊥ = eqb-false e.level level (other s) in rest-point aim level clauses past (resolving clauses r w) m some h.2 (omega arith) (lower level (vars_under clauses r ++ w.seen) past h.2 (omega arith)) p;
})
  where
    parts : (((e.level == level) && has_var w.seen (var_of e.lit)) ≡ false) × (is_left level w.seen past ≡ false)
    parts = or_parts ((e.level == level) && has_var w.seen (var_of e.lit)) (is_left level w.seen past) none

    other : has_var w.seen (var_of e.lit) ≡ true → (e.level == level) ≡ false
    other s = not-both (e.level == level) (has_var w.seen (var_of e.lit)) parts.0 s

    above : (e.reason ≡ None) ⊎ (is_resolved aim e w.seen past ≡ false) → 1 ≤ e.level
    above (inl d) = let u : e.level ≡ top past + 1 = h.0 d in omega arith
    above (inr d) = by_zero (e.level == 0) refl
      where
        by_zero : (b : Bool) → (e.level == 0) ≡ b → 1 ≤ e.level
        by_zero true q = absurd (both_ways (is_resolved aim e w.seen past) d (m.base e w.seen past q))
        by_zero false q = let some_level = eqb-false e.level 0 q in omega arith

    with_one : (e.level == level) ≡ false → 1 ≤ e.level → HasPoint level (e ∷ w.kept)
    with_one o a = let apart = eqb-false e.level level o in record { low = e ∷ p.low; point = p.point; is = ap (λ (xs : List TrailEntry). e ∷ xs) p.is; own = p.own; between = (a, omega arith, p.between) }
