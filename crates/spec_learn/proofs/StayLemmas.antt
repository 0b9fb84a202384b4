use Rattle.std.proofs.Common.{◌≡◌, ℕ, ◌+◌, ◌<◌, ◌≤◌, Bool, true, false, cond, not, List, [], ◌∷◌, ◌++◌, reverse, Option, Some, None, refl, sym, ap, ◌∙◌, subst, append_assoc, inl, inr, ◌⊎◌, arith}
use Rattle.std.specs.Prelude.{◌==◌, ◌&&◌, ◌||◌, nat_lt}
use Rattle.std.specs.List.{list_any, list_all}
use Rattle.std.specs.Option.{option_map_or}
use Rattle.std.proofs.lemmas.List.{reverse-append, reverse-reverse}
use Rattle.std.proofs.lemmas.List.Folds.{list_any-append}
use Rattle.std.proofs.lemmas.Bool.{eq-eqb, eqb-true, eqb-false, both_ways, or_parts, or_cases, or_right, and_parts, lt-ltb}
use Rattle.mal_base.specs.Literals.{var_of, negated}
use Rattle.mal_base.specs.NumberedClause.{NumberedClause}
use Rattle.mal_base.specs.declared.trail_entry.TrailEntry.{TrailEntry}
use Rattle.spec_node.specs.Value.{is_false, has_value}
use Rattle.spec_node.specs.Sound.{level_in}
use Rattle.spec_node.proofs.TrailLemmas.{value-from_true}
use Rattle.spec_node.proofs.SettledLemmas.{var_of-negated}
use Rattle.spec_learn.specs.Analysis.{Walk, has_var, begun, vars_in, vars_under, keeping, resolving, is_left, is_base, are_covered, is_covered, is_resolved, walked, walk_of, top}
use Rattle.spec_learn.specs.Analysis.Aim.{Learned, Shortened}
use Rattle.spec_learn.proofs.HeartLemmas.{IsBy, AreGood, under-is}
use Rattle.spec_learn.proofs.BehindLemmas.{sound-good}
use Rattle.spec_learn.proofs.UipLemmas.{AreLevelled, falls, lower}
use Rattle.spec_learn.proofs.PointLemmas.{AllOf}
use Rattle.spec_learn.proofs.LawLemmas.{top-trail, sound-levelled}
use Rattle.spec_learn.proofs.SoundParts.{AreDifferent, AreApartFrom, apart-more}
use Rattle.spec_learn.proofs.KeepLemmas.{sound-different, apart-none}
use Rattle.spec_learn.specs.Shorter.{shorter_walk, is_redundant, gone_through}
use Rattle.spec_learn.specs.ShorterLaws.{ShorterIsGoneThrough}
use Rattle.spec_learn.proofs.LogicLemmas.{not-both}
use Rattle.spec_learn.proofs.CaseLemmas.{after-by}
use Rattle.spec_learn.proofs.TurnLemmas.{Turn}
use Rattle.spec_learn.proofs.LevelLemmas.{level-cons, other-var, own-levels, base-is, covered-var}
use Rattle.spec_learn.proofs.CoreClauseLemmas.{levelled-back, different-back}
use Rattle.spec_learn.proofs.WalkLemmas.{sound-turn}

-- the seen entries above level 0, the latest first
abbrev pub picks : List ℕ → List TrailEntry → List TrailEntry
picks seen [] = []
picks seen (e ∷ past) = cond (has_var seen (var_of e.lit) && nat_lt 0 e.level) (e ∷ picks seen past) (picks seen past)

picks-none : (seen : List ℕ) (past : List TrailEntry) → AreLevelled past → top past ≤ 0 → picks seen past ≡ []
picks-none seen [] h t = refl
picks-none seen (e ∷ past) h t =
    let low : top past ≤ e.level = falls e past h in
    let none : e.level ≡ 0 = omega arith in
    ap (λ (b : Bool). cond b (e ∷ picks seen past) (picks seen past)) (by_seen (has_var seen (var_of e.lit)) (ap (nat_lt 0) none)) ∙ picks-none seen past h.2 (omega arith)
  where
    by_seen : (b : Bool) → nat_lt 0 e.level ≡ false → (b && nat_lt 0 e.level) ≡ false
    by_seen true q = q
    by_seen false q = refl

picks-out : (seen : List ℕ) (past : List TrailEntry) (v : ℕ) → has_value past v ≡ false → has_value (picks seen past) v ≡ false
picks-out seen [] v h = refl
picks-out seen (e ∷ past) v h = let parts = or_parts (v == var_of e.lit) (has_value past v) h in by_test (has_var seen (var_of e.lit) && nat_lt 0 e.level) parts.0 (picks-out seen past v parts.1)
  where
    by_test : (b : Bool) → (v == var_of e.lit) ≡ false → has_value (picks seen past) v ≡ false → has_value (cond b (e ∷ picks seen past) (picks seen past)) v ≡ false
    by_test true a f = ap (λ (b : Bool). b || has_value (picks seen past) v) a ∙ f
    by_test false a f = f

picks-value : (seen : List ℕ) (past : List TrailEntry) (v : ℕ) → AreDifferent past → has_value past v ≡ true → has_value (picks seen past) v ≡ (has_var seen v && nat_lt 0 (level_in past v))
picks-value seen [] v d h = absurd (cc)
picks-value seen (e ∷ past) v d h = by_here (v == var_of e.lit) refl h (picks-value seen past v d.1) ∙ sym (ap (λ (k : ℕ). has_var seen v && nat_lt 0 k) (level-cons e past v))
  where
    here : (b : Bool) → has_value (picks seen past) (var_of e.lit) ≡ false → has_value (cond b (e ∷ picks seen past) (picks seen past)) (var_of e.lit) ≡ b
    here true f = ap (λ (b : Bool). b || has_value (picks seen past) (var_of e.lit)) (eq-eqb (var_of e.lit) (var_of e.lit) refl)
    here false f = f

    other : (b : Bool) → (v == var_of e.lit) ≡ false → has_value (cond b (e ∷ picks seen past) (picks seen past)) v ≡ has_value (picks seen past) v
    other true q = ap (λ (b : Bool). b || has_value (picks seen past) v) q
    other false q = refl

    by_here : (b : Bool) → (v == var_of e.lit) ≡ b → (b || has_value past v) ≡ true → (has_value past v ≡ true → has_value (picks seen past) v ≡ (has_var seen v && nat_lt 0 (level_in past v))) → has_value (picks seen (e ∷ past)) v ≡ (has_var seen v && nat_lt 0 (cond b e.level (level_in past v)))
    by_here true q k f = subst (λ (x : ℕ). has_value (picks seen (e ∷ past)) x ≡ (has_var seen x && nat_lt 0 e.level)) (sym (eqb-true v (var_of e.lit) q)) (here (has_var seen (var_of e.lit) && nat_lt 0 e.level) (picks-out seen past (var_of e.lit) d.0))
    by_here false q k f = other (has_var seen (var_of e.lit) && nat_lt 0 e.level) q ∙ f k

picks-same : (vars seen : List ℕ) (past xs : List TrailEntry) → AreDifferent past → are_covered seen past vars ≡ true → AllOf (λ x. level_in past (var_of x.lit) ≡ x.level) xs → picks (vars ++ seen) xs ≡ picks seen xs
picks-same vars seen past [] d c h = refl
picks-same vars seen past (x ∷ xs) d c h =
    let ih : picks (vars ++ seen) xs ≡ picks seen xs = picks-same vars seen past xs d c h.1 in
    let split : has_var (vars ++ seen) (var_of x.lit) ≡ (has_var vars (var_of x.lit) || has_var seen (var_of x.lit)) = list_any-append (λ w. var_of x.lit == w) vars seen in
    let test : (has_var (vars ++ seen) (var_of x.lit) && nat_lt 0 x.level) ≡ (has_var seen (var_of x.lit) && nat_lt 0 x.level) = ap (λ (b : Bool). b && nat_lt 0 x.level) split ∙ by_seen (has_var vars (var_of x.lit)) refl (has_var seen (var_of x.lit)) refl in
    ap (λ (b : Bool). cond b (x ∷ picks (vars ++ seen) xs) (picks (vars ++ seen) xs)) test ∙ ap (λ (ys : List TrailEntry). cond (has_var seen (var_of x.lit) && nat_lt 0 x.level) (x ∷ ys) ys) ih
  where
    by_seen : (a : Bool) → has_var vars (var_of x.lit) ≡ a → (b : Bool) → has_var seen (var_of x.lit) ≡ b → ((a || b) && nat_lt 0 x.level) ≡ (b && nat_lt 0 x.level)
    by_seen true q true s = refl
    by_seen false q b s = refl
    by_seen true q false s = by_place (covered-var seen past vars (var_of x.lit) d c q)
      where
        by_place : (has_var seen (var_of x.lit) ≡ true) ⊎ (level_in past (var_of x.lit) ≡ 0) → nat_lt 0 x.level ≡ false
        by_place (inl k) = absurd (both_ways (has_var seen (var_of x.lit)) s k)
        by_place (inr k) = ap (nat_lt 0) (sym h.0 ∙ k)

-- what the longer clause keeps
pub plain-picks : (level : ℕ) (clauses : List NumberedClause) (past : List TrailEntry) (w : Walk) → AreLevelled past → top past ≤ level → is_left level w.seen past ≡ false → (walked (Learned level) clauses past w).kept ≡ reverse (picks w.seen past) ++ w.kept
plain-picks level clauses [] w h t none = refl
plain-picks level clauses (e ∷ past) w h t none = let low : top past ≤ e.level = falls e past h in after-by (λ v. (walked (Learned level) clauses past v).kept ≡ reverse (picks w.seen (e ∷ past)) ++ w.kept) (Learned level) clauses e past w (record {
  unseen = λ s. plain-picks level clauses past w h.2 (omega arith) parts.1 ∙ sym (ap (λ (b : Bool). reverse (cond (b && nat_lt 0 e.level) (e ∷ picks w.seen past) (picks w.seen past)) ++ w.kept) s);
  stays = λ s o. plain-picks level clauses past (keeping e w) h.2 (omega arith) parts.1 ∙ (sym (append_assoc (reverse (picks w.seen past)) (e ∷ []) w.kept) ∙ (sym (ap (λ (xs : List TrailEntry). xs ++ w.kept) (reverse-append (e ∷ []) (picks w.seen past))) ∙ sym (ap (λ (b : Bool). reverse (cond b (e ∷ picks w.seen past) (picks w.seen past)) ++ w.kept) (picked s (above o)))));
  goes = λ s r q k.
      let zero_level : e.level ≡ 0 = at_zero s k in
      let now : picks w.seen (e ∷ past) ≡ [] = picks-none w.seen (e ∷ past) h (omega arith) in
      let then : picks (vars_under clauses r ++ w.seen) past ≡ [] = picks-none (vars_under clauses r ++ w.seen) past h.2 (omega arith) in
      let apart : e.level ≡ level → ⊥ = eqb-false e.level level (other s) in
      plain-picks level clauses past (resolving clauses r w) h.2 (omega arith) (lower level (vars_under clauses r ++ w.seen) past h.2 (omega arith)) ∙ (ap (λ (xs : List TrailEntry). reverse xs ++ w.kept) then ∙ sym (ap (λ (xs : List TrailEntry). reverse xs ++ w.kept) now));
})
  where
    parts : (((e.level == level) && has_var w.seen (var_of e.lit)) ≡ false) × (is_left level w.seen past ≡ false)
    parts = or_parts ((e.level == level) && has_var w.seen (var_of e.lit)) (is_left level w.seen past) none

    other : has_var w.seen (var_of e.lit) ≡ true → (e.level == level) ≡ false
    other s = not-both (e.level == level) (has_var w.seen (var_of e.lit)) parts.0 s

    at_zero : has_var w.seen (var_of e.lit) ≡ true → is_resolved (Learned level) e w.seen past ≡ true → e.level ≡ 0
    at_zero s k = by_place (or_cases (e.level == 0) ((e.level == level) && is_left level w.seen past) k)
      where
        by_place : ((e.level == 0) ≡ true) ⊎ (((e.level == level) && is_left level w.seen past) ≡ true) → e.level ≡ 0
        by_place (inl z) = eqb-true e.level 0 z
        by_place (inr z) = absurd (both_ways (e.level == level) (other s) (and_parts (e.level == level) (is_left level w.seen past) z).0)

    above : (e.reason ≡ None) ⊎ (is_resolved (Learned level) e w.seen past ≡ false) → 0 < e.level
    above (inl d) = let u : e.level ≡ top past + 1 = h.0 d in omega arith
    above (inr d) = let z = eqb-false e.level 0 (or_parts (e.level == 0) ((e.level == level) && is_left level w.seen past) d).0 in omega arith

    picked : has_var w.seen (var_of e.lit) ≡ true → 0 < e.level → (has_var w.seen (var_of e.lit) && nat_lt 0 e.level) ≡ true
    picked s a = ap (λ (b : Bool). b && nat_lt 0 e.level) s ∙ lt-ltb 0 e.level a

-- a list of variables that pass two tests that agree on them
list_all-same : (f g : ℕ → Bool) (lits : List ℕ) → ((l : ℕ) → list_any (λ m. m == l) lits ≡ true → f (var_of l) ≡ g (var_of l)) → list_all f (vars_in lits) ≡ list_all g (vars_in lits)
list_all-same f g [] h = refl
list_all-same f g (l ∷ ls) h = ap (λ (b : Bool). b && list_all f (vars_in ls)) (h l (ap (λ (b : Bool). b || list_any (λ m. m == l) ls) (eq-eqb l l refl))) ∙ ap (λ (b : Bool). g (var_of l) && b) (list_all-same f g ls (λ m k. h m (or_right _ _ k)))

pub others-at : (past : List TrailEntry) (x : ℕ) (lits : List ℕ) (l : ℕ) → list_all (λ m. (m == x) || is_false past m) lits ≡ true → list_any (λ m. m == l) lits ≡ true → ((l == x) || is_false past l) ≡ true
others-at past x [] l h q = absurd (cc)
others-at past x (m ∷ ms) l h q =
    let parts = and_parts ((m == x) || is_false past m) (list_all (λ k. (k == x) || is_false past k) ms) h in
    by_place (others-at past x ms l parts.1) (or_cases (m == l) (list_any (λ k. k == l) ms) q)
  where
    by_place : (list_any (λ (k : ℕ). k == l) ms ≡ true → ((l == x) || is_false past l) ≡ true) → ((m == l) ≡ true) ⊎ (list_any (λ (k : ℕ). k == l) ms ≡ true) → ((l == x) || is_false past l) ≡ true
    by_place f (inl k) = subst (λ (y : ℕ). ((y == x) || is_false past y) ≡ true) (eqb-true m l k) (and_parts ((m == x) || is_false past m) (list_all (λ k. (k == x) || is_false past k) ms) h).0
    by_place f (inr k) = f k

kept-out : (kept past : List TrailEntry) (v : ℕ) → AreApartFrom kept past → has_value past v ≡ true → has_value kept v ≡ false
kept-out kept [] v a h = absurd (cc)
kept-out kept (x ∷ xs) v a h = by_place (kept-out kept xs v a.1) (or_cases (v == var_of x.lit) (has_value xs v) h)
  where
    by_place : (has_value xs v ≡ true → has_value kept v ≡ false) → ((v == var_of x.lit) ≡ true) ⊎ (has_value xs v ≡ true) → has_value kept v ≡ false
    by_place f (inl q) = subst (λ (y : ℕ). has_value kept y ≡ false) (sym (eqb-true v (var_of x.lit) q)) a.0
    by_place f (inr q) = f q

-- in the clause as it stands is seen
pub covered-redundant : (level : ℕ) (clauses : List NumberedClause) (whole : List TrailEntry) (e : TrailEntry) (past kept : List TrailEntry) (seen : List ℕ) (r : ℕ) → IsBy clauses past e r → AreDifferent past → has_value past (var_of e.lit) ≡ false → AreApartFrom kept past → ((v : ℕ) → has_value past v ≡ true → level_in whole v ≡ level_in past v) → has_var seen (var_of e.lit) ≡ true → list_all (λ v. (v == var_of e.lit) || (has_value (picks seen past ++ kept) v || level_in whole v == 0)) (vars_under clauses r) ≡ are_covered seen past (vars_under clauses r)
covered-redundant level clauses whole e past kept seen r b d free a same s =
    subst (λ (vs : List ℕ). list_all (λ v. (v == var_of e.lit) || (has_value (picks seen past ++ kept) v || level_in whole v == 0)) vs ≡ are_covered seen past vs) (sym (under-is clauses r b.lits b.held))
    (list_all-same (λ v. (v == var_of e.lit) || (has_value (picks seen past ++ kept) v || level_in whole v == 0)) (λ v. has_var seen v || is_base past v) b.lits (λ l k. by_own l (or_cases (l == e.lit) (is_false past l) (others-at past e.lit b.lits l b.others k))))
  where
    test : ℕ → Bool
    test v = (v == var_of e.lit) || (has_value (picks seen past ++ kept) v || level_in whole v == 0)

    own : test (var_of e.lit) ≡ (has_var seen (var_of e.lit) || is_base past (var_of e.lit))
    own = ap (λ (b : Bool). b || (has_value (picks seen past ++ kept) (var_of e.lit) || level_in whole (var_of e.lit) == 0)) (eq-eqb (var_of e.lit) (var_of e.lit) refl) ∙ sym (ap (λ (b : Bool). b || is_base past (var_of e.lit)) s)

    sums : (x : Bool) (k : ℕ) → (((x && nat_lt 0 k) || false) || k == 0) ≡ (x || k == 0)
    sums x k = by_zero (k == 0) refl
      where
        by_zero : (z : Bool) → (k == 0) ≡ z → (((x && nat_lt 0 k) || false) || z) ≡ (x || z)
        by_zero true q = by_any ((x && nat_lt 0 k) || false) x
          where
            by_any : (p q : Bool) → (p || true) ≡ (q || true)
            by_any true true = refl
            by_any true false = refl
            by_any false true = refl
            by_any false false = refl
        by_zero false q = let ne = eqb-false k 0 q in ap (λ (c : Bool). ((x && c) || false) || false) (lt-ltb 0 k (omega arith)) ∙ by_both x
          where
            by_both : (p : Bool) → (((p && true) || false) || false) ≡ (p || false)
            by_both true = refl
            by_both false = refl

    there : (v : ℕ) → has_value past v ≡ true → test v ≡ (has_var seen v || is_base past v)
    there v h =
        let apart : (v == var_of e.lit) ≡ false = other-var e past v free h in
        let split : has_value (picks seen past ++ kept) v ≡ ((has_var seen v && nat_lt 0 (level_in past v)) || false) = list_any-append (λ (x : TrailEntry). v == var_of x.lit) (picks seen past) kept ∙ (ap (λ (b : Bool). b || has_value kept v) (picks-value seen past v d h) ∙ ap (λ (b : Bool). (has_var seen v && nat_lt 0 (level_in past v)) || b) (kept-out kept past v a h)) in
        ap (λ (b : Bool). b || (has_value (picks seen past ++ kept) v || level_in whole v == 0)) apart ∙ (ap (λ (b : Bool). b || level_in whole v == 0) split ∙ (ap (λ (k : ℕ). ((has_var seen v && nat_lt 0 (level_in past v)) || false) || k == 0) (same v h) ∙ (sums (has_var seen v) (level_in past v) ∙ ap (λ (b : Bool). has_var seen v || b) (sym (base-is past v d h)))))

    by_own : (l : ℕ) → ((l == e.lit) ≡ true) ⊎ (is_false past l ≡ true) → test (var_of l) ≡ (has_var seen (var_of l) || is_base past (var_of l))
    by_own l (inl k) = subst (λ (x : ℕ). test (var_of x) ≡ (has_var seen (var_of x) || is_base past (var_of x))) (sym (eqb-true l e.lit k)) own
    by_own l (inr k) = there (var_of l) (value-from_true past (negated l) (var_of l) (sym (var_of-negated l)) k)

-- what the shorter clause keeps: the longer one's entries, gone through
pub shorter-stays : (level : ℕ) (clauses : List NumberedClause) (trail whole past : List TrailEntry) (w : Walk) → AreLevelled past → AreDifferent past → AreGood clauses trail past → AreApartFrom w.kept past → ((v : ℕ) → has_value past v ≡ true → level_in whole v ≡ level_in past v) → top past ≤ level → is_left level w.seen past ≡ false → (walked (Shortened level clauses) clauses past w).kept ≡ gone_through level clauses whole (picks w.seen past) w.kept
shorter-stays level clauses trail whole [] w h d g a same t none = refl
shorter-stays level clauses trail whole (e ∷ past) w h d g a same t none = let low : top past ≤ e.level = falls e past h in after-by (λ v. (walked (Shortened level clauses) clauses past v).kept ≡ gone_through level clauses whole (picks w.seen (e ∷ past)) w.kept) (Shortened level clauses) clauses e past w (record {
  unseen = λ s. shorter-stays level clauses trail whole past w h.2 d.1 g.1 a.1 later (omega arith) parts.1 ∙ sym (ap (λ (b : Bool). gone_through level clauses whole (cond (b && nat_lt 0 e.level) (e ∷ picks w.seen past) (picks w.seen past)) w.kept) s);
  stays = λ s o. shorter-stays level clauses trail whole past (keeping e w) h.2 d.1 g.1 (apart-more e w.kept past d.0 a.1) later (omega arith) parts.1 ∙ sym (going s (above s o) ∙ ap (λ (b : Bool). gone_through level clauses whole (picks w.seen past) (cond b w.kept (e ∷ w.kept))) (redundant-not s o));
  goes = λ s r q k.
      let apart : e.level ≡ level → ⊥ = eqb-false e.level level (other s) in
      shorter-stays level clauses trail whole past (resolving clauses r w) h.2 d.1 g.1 a.1 later (omega arith) (lower level (vars_under clauses r ++ w.seen) past h.2 (omega arith)) ∙ by_zero s r q k (e.level == 0) refl;
})
  where
    parts : (((e.level == level) && has_var w.seen (var_of e.lit)) ≡ false) × (is_left level w.seen past ≡ false)
    parts = or_parts ((e.level == level) && has_var w.seen (var_of e.lit)) (is_left level w.seen past) none

    other : has_var w.seen (var_of e.lit) ≡ true → (e.level == level) ≡ false
    other s = not-both (e.level == level) (has_var w.seen (var_of e.lit)) parts.0 s

    later : (v : ℕ) → has_value past v ≡ true → level_in whole v ≡ level_in past v
    later v q = same v (or_right _ _ q) ∙ (level-cons e past v ∙ ap (λ (b : Bool). cond b e.level (level_in past v)) (other-var e past v d.0 q))

    resolved_is : has_var w.seen (var_of e.lit) ≡ true → is_resolved (Shortened level clauses) e w.seen past ≡ ((e.level == 0) || is_covered clauses e w.seen past)
    resolved_is s = ap (λ (b : Bool). (e.level == 0) || cond b (is_left level w.seen past) (is_covered clauses e w.seen past)) (other s)

    above : has_var w.seen (var_of e.lit) ≡ true → (e.reason ≡ None) ⊎ (is_resolved (Shortened level clauses) e w.seen past ≡ false) → 0 < e.level
    above s (inl o) = let u : e.level ≡ top past + 1 = h.0 o in omega arith
    above s (inr o) = let z = eqb-false e.level 0 (or_parts (e.level == 0) (is_covered clauses e w.seen past) (sym (resolved_is s) ∙ o)).0 in omega arith

    going : has_var w.seen (var_of e.lit) ≡ true → 0 < e.level → gone_through level clauses whole (picks w.seen (e ∷ past)) w.kept ≡ gone_through level clauses whole (picks w.seen past) (cond (is_redundant level clauses whole e (picks w.seen past ++ w.kept)) w.kept (e ∷ w.kept))
    going s m = ap (λ (b : Bool). gone_through level clauses whole (cond b (e ∷ picks w.seen past) (picks w.seen past)) w.kept) (ap (λ (b : Bool). b && nat_lt 0 e.level) s ∙ lt-ltb 0 e.level m)

    -- the two tests agree
    agrees : has_var w.seen (var_of e.lit) ≡ true → is_redundant level clauses whole e (picks w.seen past ++ w.kept) ≡ is_covered clauses e w.seen past
    agrees s = ap (λ (b : Bool). not b && option_map_or (λ r. list_all (λ v. (v == var_of e.lit) || (has_value (picks w.seen past ++ w.kept) v || level_in whole v == 0)) (vars_under clauses r)) e.reason false) (other s) ∙ by_reason e.reason refl
      where
        by_reason : (o : Option ℕ) → e.reason ≡ o → option_map_or (λ r. list_all (λ v. (v == var_of e.lit) || (has_value (picks w.seen past ++ w.kept) v || level_in whole v == 0)) (vars_under clauses r)) o false ≡ option_map_or (λ r. are_covered w.seen past (vars_under clauses r)) o false
        by_reason None q = refl
        by_reason (Some r) q = covered-redundant level clauses whole e past w.kept w.seen r (g.0.by r q) d.1 d.0 a.1 later s

    redundant-not : has_var w.seen (var_of e.lit) ≡ true → (e.reason ≡ None) ⊎ (is_resolved (Shortened level clauses) e w.seen past ≡ false) → is_redundant level clauses whole e (picks w.seen past ++ w.kept) ≡ false
    redundant-not s (inl o) = agrees s ∙ ap (λ (x : Option ℕ). option_map_or (λ r. are_covered w.seen past (vars_under clauses r)) x false) o
    redundant-not s (inr o) = agrees s ∙ (or_parts (e.level == 0) (is_covered clauses e w.seen past) (sym (resolved_is s) ∙ o)).1

    by_zero : has_var w.seen (var_of e.lit) ≡ true → (r : ℕ) → e.reason ≡ Some r → is_resolved (Shortened level clauses) e w.seen past ≡ true → (b : Bool) → (e.level == 0) ≡ b → gone_through level clauses whole (picks (vars_under clauses r ++ w.seen) past) w.kept ≡ gone_through level clauses whole (picks w.seen (e ∷ past)) w.kept
    by_zero s r q k true z =
        let zero_level : e.level ≡ 0 = eqb-true e.level 0 z in
        let low : top past ≤ e.level = falls e past h in
        let now : picks w.seen (e ∷ past) ≡ [] = picks-none w.seen (e ∷ past) h (omega arith) in
        let then : picks (vars_under clauses r ++ w.seen) past ≡ [] = picks-none (vars_under clauses r ++ w.seen) past h.2 (omega arith) in
        ap (λ (xs : List TrailEntry). gone_through level clauses whole xs w.kept) then ∙ sym (ap (λ (xs : List TrailEntry). gone_through level clauses whole xs w.kept) now)
    by_zero s r q k false z =
        let positive = eqb-false e.level 0 z in
        let covered : is_covered clauses e w.seen past ≡ true = sym (ap (λ (b : Bool). b || is_covered clauses e w.seen past) z) ∙ (sym (resolved_is s) ∙ k) in
        let cover : are_covered w.seen past (vars_under clauses r) ≡ true = sym (ap (λ (o : Option ℕ). option_map_or (λ x. are_covered w.seen past (vars_under clauses x)) o false) q) ∙ covered in
        ap (λ (xs : List TrailEntry). gone_through level clauses whole xs w.kept) (picks-same (vars_under clauses r) w.seen past past d.1 cover (own-levels past d.1)) ∙ sym (going s (omega arith) ∙ ap (λ (b : Bool). gone_through level clauses whole (picks w.seen past) (cond b w.kept (e ∷ w.kept))) (agrees s ∙ covered))

-- levels on a whole trail are those of its back
back-same : (front rest : List TrailEntry) → AreDifferent (front ++ rest) → (v : ℕ) → has_value rest v ≡ true → level_in (front ++ rest) v ≡ level_in rest v
back-same [] rest d v q = refl
back-same (x ∷ xs) rest d v q = level-cons x (xs ++ rest) v ∙ (ap (λ (b : Bool). cond b x.level (level_in (xs ++ rest) v)) (other-var x (xs ++ rest) v d.0 (list_any-append (λ e. v == var_of e.lit) xs rest ∙ or_right _ _ q)) ∙ back-same xs rest d.1 v q)

good-back : (clauses : List NumberedClause) (trail xs ys : List TrailEntry) → AreGood clauses trail (xs ++ ys) → AreGood clauses trail ys
good-back clauses trail [] ys h = h
good-back clauses trail (x ∷ xs) ys h = good-back clauses trail xs ys h.1

pub stays-gone : ShorterIsGoneThrough
stays-gone n id h q some =
    subst (λ (k : ℕ). (shorter_walk n.clauses (reverse n.trail) id).kept ≡ gone_through k n.clauses (reverse n.trail) (reverse (walk_of n.clauses (reverse n.trail) id).kept) []) (top-trail n.trail)
    (ap (λ (v : Walk). v.kept) t.shortened ∙ (short ∙ (sym start ∙ ap (λ (xs : List TrailEntry). gone_through level n.clauses (reverse n.trail) xs []) (sym turned))))
  where
    level : ℕ
    level = top (reverse n.trail)

    t : Turn (top (reverse n.trail)) n.clauses (reverse n.trail) (begun (vars_under n.clauses id))
    t = sound-turn n id h q some

    levelled : AreLevelled t.rest
    levelled = levelled-back t.front t.rest (subst AreLevelled t.whole (sound-levelled n h))

    different : AreDifferent t.rest
    different = different-back t.front t.rest (subst AreDifferent t.whole (sound-different n h))

    apart : AreApartFrom t.at.kept t.rest
    apart = subst (λ (xs : List TrailEntry). AreApartFrom xs t.rest) (sym t.is) (apart-more t.point [] t.rest t.apart (apart-none t.rest))

    same : (v : ℕ) → has_value t.rest v ≡ true → level_in (reverse n.trail) v ≡ level_in t.rest v
    same v k = ap (λ (xs : List TrailEntry). level_in xs v) t.whole ∙ back-same t.front t.rest (subst AreDifferent t.whole (sound-different n h)) v k

    short : (walked (Shortened level n.clauses) n.clauses t.rest t.at).kept ≡ gone_through level n.clauses (reverse n.trail) (picks t.at.seen t.rest) (t.point ∷ [])
    short = shorter-stays level n.clauses n.trail (reverse n.trail) t.rest t.at levelled different (good-back n.clauses n.trail t.front t.rest (subst (AreGood n.clauses n.trail) t.whole (sound-good n h))) apart same t.low t.none ∙ ap (gone_through level n.clauses (reverse n.trail) (picks t.at.seen t.rest)) t.is

    plain : (walk_of n.clauses (reverse n.trail) id).kept ≡ reverse (picks t.at.seen t.rest) ++ t.point ∷ []
    plain = ap (λ (v : Walk). v.kept) t.learned ∙ (plain-picks level n.clauses t.rest t.at levelled t.low t.none ∙ ap (λ (xs : List TrailEntry). reverse (picks t.at.seen t.rest) ++ xs) t.is)

    turned : reverse (walk_of n.clauses (reverse n.trail) id).kept ≡ t.point ∷ picks t.at.seen t.rest
    turned = ap reverse plain ∙ (reverse-append (reverse (picks t.at.seen t.rest)) (t.point ∷ []) ∙ ap (λ (xs : List TrailEntry). t.point ∷ xs) (reverse-reverse (picks t.at.seen t.rest)))

    -- the one of the current level stays
    start : gone_through level n.clauses (reverse n.trail) (t.point ∷ picks t.at.seen t.rest) [] ≡ gone_through level n.clauses (reverse n.trail) (picks t.at.seen t.rest) (t.point ∷ [])
    start = ap (λ (b : Bool). gone_through level n.clauses (reverse n.trail) (picks t.at.seen t.rest) (cond (not b && option_map_or (λ r. list_all (λ v. (v == var_of t.point.lit) || (has_value (picks t.at.seen t.rest ++ []) v || level_in (reverse n.trail) v == 0)) (vars_under n.clauses r)) t.point.reason false) [] (t.point ∷ []))) (eq-eqb t.point.level level t.own)
