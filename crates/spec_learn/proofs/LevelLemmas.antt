use Rattle.std.proofs.Common.{◌≡◌, ℕ, ◌≤◌, max, Bool, true, false, cond, List, [], ◌∷◌, ◌++◌, reverse, Option, Some, None, refl, sym, ap, ◌∙◌, subst, inl, inr, ◌⊎◌, arith}
use Rattle.std.specs.Prelude.{Contains, find, ◌==◌, ◌&&◌, ◌||◌}
use Rattle.std.specs.Option.{option_map_or}
use Rattle.std.proofs.lemmas.List.{reverse-append}
use Rattle.std.proofs.lemmas.List.Folds.{list_any-append}
use Rattle.std.proofs.lemmas.List.Sorted.{list_any-IsPermutation, IsPermutation-reverse}
use Rattle.std.proofs.lemmas.Bool.{eq-eqb, eqb-true, eqb-false, ne_eqb, both_ways, or_parts, or_cases, or_left, or_right, and_parts, false_from_ne_true}
use Rattle.mal_base.specs.Literals.{var_of}
use Rattle.mal_base.specs.NumberedClause.{NumberedClause, lits_under}
use Rattle.mal_base.specs.declared.trail_entry.TrailEntry.{TrailEntry}
use Rattle.spec_node.specs.Value.{has_value}
use Rattle.spec_node.specs.Sound.{level_in, greatest_level, IsForced, IsReason, NumbersRise}
use Rattle.spec_node.proofs.LevelLemmas.{level_in-behind}
use Rattle.spec_learn.specs.Analysis.{Walk, Aim, has_var, vars_in, vars_under, keeping, resolving, is_left, is_base, are_covered, is_covered, walked, jump, top}
use Rattle.spec_learn.proofs.HeartLemmas.{under-is}
use Rattle.spec_learn.proofs.BehindLemmas.{EachBehind, held-under}
use Rattle.spec_learn.proofs.UipLemmas.{AreLevelled, falls, lower}
use Rattle.spec_learn.proofs.PointLemmas.{AllOf, level-front}
use Rattle.spec_learn.proofs.SoundParts.{AreDifferent}
use Rattle.spec_learn.proofs.KeepLemmas.{level-none}
use Rattle.spec_learn.proofs.LogicLemmas.{not-both}
use Rattle.spec_learn.proofs.CaseLemmas.{after-by, IsMild}

-- levels of variables do not depend on the order of different entries
value-turned : (past : List TrailEntry) (v : ℕ) → has_value (reverse past) v ≡ has_value past v
value-turned past v = sym (list_any-IsPermutation (λ e. v == var_of e.lit) past (reverse past) (IsPermutation-reverse past))

level-one : (e : TrailEntry) (v : ℕ) → level_in (e ∷ []) v ≡ cond (v == var_of e.lit) e.level 0
level-one e v = by_test (v == var_of e.lit)
  where
    by_test : (b : Bool) → option_map_or (λ (x : TrailEntry). x.level) (cond b (Some e) None) 0 ≡ cond b e.level 0
    by_test true = refl
    by_test false = refl

pub level-cons : (e : TrailEntry) (past : List TrailEntry) (v : ℕ) → level_in (e ∷ past) v ≡ cond (v == var_of e.lit) e.level (level_in past v)
level-cons e past v = by_test (v == var_of e.lit)
  where
    by_test : (b : Bool) → option_map_or (λ (x : TrailEntry). x.level) (cond b (Some e) (find (λ x. v == var_of x.lit) past)) 0 ≡ cond b e.level (level_in past v)
    by_test true = refl
    by_test false = refl

pub other-var : (e : TrailEntry) (past : List TrailEntry) (v : ℕ) → has_value past (var_of e.lit) ≡ false → has_value past v ≡ true → (v == var_of e.lit) ≡ false
other-var e past v free h = ne_eqb v (var_of e.lit) (λ q. both_ways (has_value past (var_of e.lit)) free (subst (λ (x : ℕ). has_value past x ≡ true) q h))

pub level_in-turned : (past : List TrailEntry) (v : ℕ) → AreDifferent past → level_in (reverse past) v ≡ level_in past v
level_in-turned [] v d = refl
level_in-turned (e ∷ past) v d =
    ap (λ (t : List TrailEntry). level_in t v) (reverse-append (e ∷ []) past) ∙ (by_value (level_in-turned past v d.1) (has_value past v) refl ∙ sym (level-cons e past v))
  where
    by_value : level_in (reverse past) v ≡ level_in past v → (b : Bool) → has_value past v ≡ b → level_in (reverse past ++ e ∷ []) v ≡ cond (v == var_of e.lit) e.level (level_in past v)
    by_value f true q = level-front (reverse past) (e ∷ []) v (value-turned past v ∙ q) ∙ (f ∙ sym (ap (λ (b : Bool). cond b e.level (level_in past v)) (other-var e past v d.0 q)))
    by_value f false q = level_in-behind (reverse past) (e ∷ []) v (value-turned past v ∙ q) ∙ (level-one e v ∙ ap (λ (k : ℕ). cond (v == var_of e.lit) e.level k) (sym (level-none past v q)))

-- different entries have the levels of their variables
pub own-levels : (past : List TrailEntry) → AreDifferent past → AllOf (λ x. level_in past (var_of x.lit) ≡ x.level) past
own-levels [] d = tt
own-levels (e ∷ past) d = (level-cons e past (var_of e.lit) ∙ ap (λ (b : Bool). cond b e.level (level_in past (var_of e.lit))) (eq-eqb (var_of e.lit) (var_of e.lit) refl), others past d.0 (own-levels past d.1))
  where
    others : (xs : List TrailEntry) → has_value xs (var_of e.lit) ≡ false → AllOf (λ x. level_in past (var_of x.lit) ≡ x.level) xs → AllOf (λ x. level_in (e ∷ past) (var_of x.lit) ≡ x.level) xs
    others [] f h = tt
    others (x ∷ xs) f h =
        let parts = or_parts (var_of e.lit == var_of x.lit) (has_value xs (var_of e.lit)) f in
        let apart : (var_of x.lit == var_of e.lit) ≡ false = ne_eqb (var_of x.lit) (var_of e.lit) (λ q. eqb-false (var_of e.lit) (var_of x.lit) parts.0 (sym q)) in
        (level-cons e past (var_of x.lit) ∙ (ap (λ (b : Bool). cond b e.level (level_in past (var_of x.lit))) apart ∙ h.0), others xs parts.1 h.1)

-- what an entry's reason says of its level
pub record HasReach (clauses : List NumberedClause) (past : List TrailEntry) (e : TrailEntry) (r : ℕ) : Type 0 where
  pub lits : List ℕ
  pub held : lits_under r clauses ≡ Some lits
  pub greatest : greatest_level past lits ≡ e.level

abbrev pub AreReached : List NumberedClause → List TrailEntry → Type 0
AreReached clauses [] = Unit {0}
AreReached clauses (e ∷ past) = ((r : ℕ) → e.reason ≡ Some r → HasReach clauses past e r) × AreReached clauses past

greatest-turned : (past : List TrailEntry) (lits : List ℕ) → AreDifferent past → greatest_level (reverse past) lits ≡ greatest_level past lits
greatest-turned past [] d = refl
greatest-turned past (l ∷ ls) d = ap (λ (k : ℕ). max k (greatest_level (reverse past) ls)) (level_in-turned past (var_of l) d) ∙ ap (λ (k : ℕ). max (level_in past (var_of l)) k) (greatest-turned past ls d)

pub reached-behind : (clauses : List NumberedClause) (past : List TrailEntry) → NumbersRise 1 clauses → AreDifferent past → EachBehind (IsForced clauses) past → AreReached clauses past
reached-behind clauses [] n d h = tt
reached-behind clauses (e ∷ past) n d h = ((λ r q. made r (h.0 r q)), reached-behind clauses past n d.1 h.1)
  where
    made : (r : ℕ) → (c : NumberedClause) × Contains clauses c × (c.id ≡ r) × IsReason (reverse past) e c → HasReach clauses past e r
    made r k = record { lits = k.0.lits; held = subst (λ (x : ℕ). lits_under x clauses ≡ Some k.0.lits) k.2 (held-under 1 clauses k.0 n k.1); greatest = sym (greatest-turned past k.0.lits d.1) ∙ k.3.level }

-- the greatest level of the seen entries
abbrev pub greatest_seen : List ℕ → List TrailEntry → ℕ
greatest_seen seen [] = 0
greatest_seen seen (e ∷ past) = max (cond (has_var seen (var_of e.lit)) e.level 0) (greatest_seen seen past)

seen-low : (seen : List ℕ) (past : List TrailEntry) → AreLevelled past → greatest_seen seen past ≤ top past
seen-low seen [] h = omega arith
seen-low seen (e ∷ past) h = let low : top past ≤ e.level = falls e past h in let ih : greatest_seen seen past ≤ top past = seen-low seen past h.2 in by_test (has_var seen (var_of e.lit)) low ih
  where
    by_test : (b : Bool) → top past ≤ e.level → greatest_seen seen past ≤ top past → max (cond b e.level 0) (greatest_seen seen past) ≤ e.level
    by_test true l i = omega arith
    by_test false l i = omega arith

-- a seen variable's level counts
seen-high : (seen : List ℕ) (past : List TrailEntry) (v : ℕ) → has_var seen v ≡ true → level_in past v ≤ greatest_seen seen past
seen-high seen [] v s = omega arith
seen-high seen (e ∷ past) v s = subst (λ (k : ℕ). k ≤ greatest_seen seen (e ∷ past)) (sym (level-cons e past v)) (by_test (v == var_of e.lit) refl (seen-high seen past v s))
  where
    by_test : (b : Bool) → (v == var_of e.lit) ≡ b → level_in past v ≤ greatest_seen seen past → cond b e.level (level_in past v) ≤ max (cond (has_var seen (var_of e.lit)) e.level 0) (greatest_seen seen past)
    by_test true q i =
        let here : has_var seen (var_of e.lit) ≡ true = subst (λ (x : ℕ). has_var seen x ≡ true) (eqb-true v (var_of e.lit) q) s in
        let is : cond {A = ℕ} (has_var seen (var_of e.lit)) e.level 0 ≡ e.level = ap (λ (b : Bool). cond {A = ℕ} b e.level 0) here in
        omega arith
    by_test false q i = omega arith

-- a variable of level 0 has that level
base-valued : (past : List TrailEntry) (v : ℕ) → is_base past v ≡ true → has_value past v ≡ true
base-valued [] v h = absurd (cc)
base-valued (e ∷ past) v h = by_place (base-valued past v) (or_cases ((e.level == 0) && (v == var_of e.lit)) (is_base past v) h)
  where
    by_place : (is_base past v ≡ true → has_value past v ≡ true) → (((e.level == 0) && (v == var_of e.lit)) ≡ true) ⊎ (is_base past v ≡ true) → has_value (e ∷ past) v ≡ true
    by_place f (inl q) = or_left _ _ (and_parts (e.level == 0) (v == var_of e.lit) q).1
    by_place f (inr q) = or_right _ _ (f q)

none-base : (past : List TrailEntry) (v : ℕ) → has_value past v ≡ false → is_base past v ≡ false
none-base past v h = false_from_ne_true (is_base past v) (λ q. both_ways (has_value past v) h (base-valued past v q))

pub base-is : (past : List TrailEntry) (v : ℕ) → AreDifferent past → has_value past v ≡ true → is_base past v ≡ (level_in past v == 0)
base-is [] v d h = absurd (cc)
base-is (e ∷ past) v d h = by_here (base-is past v d.1) (v == var_of e.lit) refl h ∙ sym (ap (λ (k : ℕ). k == 0) (level-cons e past v))
  where
    and-true : (b : Bool) → ((b && true) || false) ≡ b
    and-true true = refl
    and-true false = refl

    and-false : (b c : Bool) → ((b && false) || c) ≡ c
    and-false true c = refl
    and-false false c = refl

    by_here : (has_value past v ≡ true → is_base past v ≡ (level_in past v == 0)) → (b : Bool) → (v == var_of e.lit) ≡ b → (b || has_value past v) ≡ true → is_base (e ∷ past) v ≡ (cond b e.level (level_in past v) == 0)
    by_here f true q k =
        let out : has_value past v ≡ false = subst (λ (x : ℕ). has_value past x ≡ false) (sym (eqb-true v (var_of e.lit) q)) d.0 in
        ap (λ (b : Bool). ((e.level == 0) && b) || is_base past v) q ∙ (ap (λ (b : Bool). ((e.level == 0) && true) || b) (none-base past v out) ∙ and-true (e.level == 0))
    by_here f false q k = ap (λ (b : Bool). ((e.level == 0) && b) || is_base past v) q ∙ (and-false (e.level == 0) (is_base past v) ∙ f k)

base-level : (past : List TrailEntry) (v : ℕ) → AreDifferent past → is_base past v ≡ true → level_in past v ≡ 0
base-level past v d q = eqb-true (level_in past v) 0 (sym (base-is past v d (base-valued past v q)) ∙ q)

-- a covered reason reaches no higher than what is seen
covered-reaches : (seen : List ℕ) (past : List TrailEntry) (lits : List ℕ) → AreDifferent past → are_covered seen past (vars_in lits) ≡ true → greatest_level past lits ≤ greatest_seen seen past
covered-reaches seen past [] d c = omega arith
covered-reaches seen past (l ∷ ls) d c =
    let parts = and_parts (has_var seen (var_of l) || is_base past (var_of l)) (are_covered seen past (vars_in ls)) c in
    let ih : greatest_level past ls ≤ greatest_seen seen past = covered-reaches seen past ls d parts.1 in
    by_place (or_cases (has_var seen (var_of l)) (is_base past (var_of l)) parts.0) ih
  where
    by_place : (has_var seen (var_of l) ≡ true) ⊎ (is_base past (var_of l) ≡ true) → greatest_level past ls ≤ greatest_seen seen past → max (level_in past (var_of l)) (greatest_level past ls) ≤ greatest_seen seen past
    by_place (inl s) i = let a : level_in past (var_of l) ≤ greatest_seen seen past = seen-high seen past (var_of l) s in omega arith
    by_place (inr z) i = let a : level_in past (var_of l) ≡ 0 = base-level past (var_of l) d z in omega arith

-- and nothing of a level above 0 is seen by it for the first time
pub covered-var : (seen : List ℕ) (past : List TrailEntry) (vars : List ℕ) (v : ℕ) → AreDifferent past → are_covered seen past vars ≡ true → has_var vars v ≡ true → (has_var seen v ≡ true) ⊎ (level_in past v ≡ 0)
covered-var seen past [] v d c h = absurd (cc)
covered-var seen past (w ∷ ws) v d c h =
    let parts = and_parts (has_var seen w || is_base past w) (are_covered seen past ws) c in
    by_here (covered-var seen past ws v d parts.1) (or_cases (v == w) (has_var ws v) h) (or_cases (has_var seen w) (is_base past w) parts.0)
  where
    by_here : (has_var ws v ≡ true → (has_var seen v ≡ true) ⊎ (level_in past v ≡ 0)) → ((v == w) ≡ true) ⊎ (has_var ws v ≡ true) → (has_var seen w ≡ true) ⊎ (is_base past w ≡ true) → (has_var seen v ≡ true) ⊎ (level_in past v ≡ 0)
    by_here f (inl q) (inl s) = inl (subst (λ (x : ℕ). has_var seen x ≡ true) (sym (eqb-true v w q)) s)
    by_here f (inl q) (inr z) = inr (ap (level_in past) (eqb-true v w q) ∙ base-level past w d z)
    by_here f (inr q) c = f q

pub covered-same : (vars seen : List ℕ) (past xs : List TrailEntry) → AreDifferent past → are_covered seen past vars ≡ true → AllOf (λ x. level_in past (var_of x.lit) ≡ x.level) xs → greatest_seen (vars ++ seen) xs ≡ greatest_seen seen xs
covered-same vars seen past [] d c h = refl
covered-same vars seen past (x ∷ xs) d c h =
    let ih : greatest_seen (vars ++ seen) xs ≡ greatest_seen seen xs = covered-same vars seen past xs d c h.1 in
    let split : has_var (vars ++ seen) (var_of x.lit) ≡ (has_var vars (var_of x.lit) || has_var seen (var_of x.lit)) = list_any-append (λ w. var_of x.lit == w) vars seen in
    let here : cond {A = ℕ} (has_var (vars ++ seen) (var_of x.lit)) x.level 0 ≡ cond {A = ℕ} (has_var seen (var_of x.lit)) x.level 0 = ap (λ (b : Bool). cond {A = ℕ} b x.level 0) split ∙ by_seen (has_var vars (var_of x.lit)) refl (has_var seen (var_of x.lit)) refl in
    omega arith
  where
    by_seen : (a : Bool) → has_var vars (var_of x.lit) ≡ a → (b : Bool) → has_var seen (var_of x.lit) ≡ b → cond {A = ℕ} (a || b) x.level 0 ≡ cond {A = ℕ} b x.level 0
    by_seen true q true s = refl
    by_seen false q b s = refl
    by_seen true q false s = by_place (covered-var seen past vars (var_of x.lit) d c q)
      where
        by_place : (has_var seen (var_of x.lit) ≡ true) ⊎ (level_in past (var_of x.lit) ≡ 0) → x.level ≡ 0
        by_place (inl k) = absurd (both_ways (has_var seen (var_of x.lit)) s k)
        by_place (inr k) = sym h.0 ∙ k

-- the level to jump to is the greatest of what stays and what is seen ahead
pub rest-jump : (aim : Aim) (level : ℕ) (clauses : List NumberedClause) (past : List TrailEntry) (w : Walk) → IsMild level clauses aim → AreLevelled past → AreDifferent past → AreReached clauses past → top past ≤ level → is_left level w.seen past ≡ false → jump level (walked aim clauses past w).kept ≡ max (jump level w.kept) (greatest_seen w.seen past)
rest-jump aim level clauses [] w m h d r t none = omega arith
rest-jump aim level clauses (e ∷ past) w m h d k t none = let low : top past ≤ e.level = falls e past h in after-by (λ v. jump level (walked aim clauses past v).kept ≡ max (jump level w.kept) (max (cond (has_var w.seen (var_of e.lit)) e.level 0) (greatest_seen w.seen past))) aim clauses e past w (record {
  unseen = λ s.
      let ih : jump level (walked aim clauses past w).kept ≡ max (jump level w.kept) (greatest_seen w.seen past) = rest-jump aim level clauses past w m h.2 d.1 k.1 (omega arith) parts.1 in
      let none_here : cond {A = ℕ} (has_var w.seen (var_of e.lit)) e.level 0 ≡ 0 = ap (λ (b : Bool). cond {A = ℕ} b e.level 0) s in
      omega arith;
  stays = λ s o.
      let ih : jump level (walked aim clauses past (keeping e w)).kept ≡ max (max (cond {A = ℕ} (e.level == level) 0 e.level) (jump level w.kept)) (greatest_seen w.seen past) = rest-jump aim level clauses past (keeping e w) m h.2 d.1 k.1 (omega arith) parts.1 in
      let here : cond {A = ℕ} (has_var w.seen (var_of e.lit)) e.level 0 ≡ e.level = ap (λ (b : Bool). cond {A = ℕ} b e.level 0) s in
      let put : cond {A = ℕ} (e.level == level) 0 e.level ≡ e.level = ap (λ (b : Bool). cond {A = ℕ} b 0 e.level) (other s) in
      omega arith;
  goes = λ s r q i.
      let apart : e.level ≡ level → ⊥ = eqb-false e.level level (other s) in
      let ih : jump level (walked aim clauses past (resolving clauses r w)).kept ≡ max (jump level w.kept) (greatest_seen (vars_under clauses r ++ w.seen) past) = rest-jump aim level clauses past (resolving clauses r w) m h.2 d.1 k.1 (omega arith) (lower level (vars_under clauses r ++ w.seen) past h.2 (omega arith)) in
      let here : cond {A = ℕ} (has_var w.seen (var_of e.lit)) e.level 0 ≡ e.level = ap (λ (b : Bool). cond {A = ℕ} b e.level 0) s in
      let same : greatest_seen (vars_under clauses r ++ w.seen) past ≡ max e.level (greatest_seen w.seen past) = by_place r q (m.other e w.seen past (other s) i) in
      omega arith;
})
  where
    parts : (((e.level == level) && has_var w.seen (var_of e.lit)) ≡ false) × (is_left level w.seen past ≡ false)
    parts = or_parts ((e.level == level) && has_var w.seen (var_of e.lit)) (is_left level w.seen past) none

    other : has_var w.seen (var_of e.lit) ≡ true → (e.level == level) ≡ false
    other s = not-both (e.level == level) (has_var w.seen (var_of e.lit)) parts.0 s

    by_place : (r : ℕ) → e.reason ≡ Some r → ((e.level == 0) ≡ true) ⊎ (is_covered clauses e w.seen past ≡ true) → greatest_seen (vars_under clauses r ++ w.seen) past ≡ max e.level (greatest_seen w.seen past)
    by_place r q (inl z) =
        let zero_level : e.level ≡ 0 = eqb-true e.level 0 z in
        let low : top past ≤ e.level = falls e past h in
        let a : greatest_seen (vars_under clauses r ++ w.seen) past ≤ top past = seen-low (vars_under clauses r ++ w.seen) past h.2 in
        let b : greatest_seen w.seen past ≤ top past = seen-low w.seen past h.2 in
        omega arith
    by_place r q (inr c) =
        let i : HasReach clauses past e r = k.0 r q in
        let cover : are_covered w.seen past (vars_under clauses r) ≡ true = sym (ap (λ (o : Option ℕ). option_map_or (λ x. are_covered w.seen past (vars_under clauses x)) o false) q) ∙ c in
        let same : greatest_seen (vars_under clauses r ++ w.seen) past ≡ greatest_seen w.seen past = covered-same (vars_under clauses r) w.seen past past d.1 cover (own-levels past d.1) in
        let high : greatest_level past i.lits ≤ greatest_seen w.seen past = covered-reaches w.seen past i.lits d.1 (subst (λ (vs : List ℕ). are_covered w.seen past vs ≡ true) (under-is clauses r i.lits i.held) cover) in
        let own : greatest_level past i.lits ≡ e.level = i.greatest in
        omega arith
