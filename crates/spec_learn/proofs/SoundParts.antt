use Rattle.std.proofs.Common.{◌≡◌, ℕ, zero, suc, ◌+◌, ◌-◌, ◌*◌, ◌/◌, ◌^◌, ◌<◌, ◌≤◌, Bool, true, false, cond, List, [], ◌∷◌, ◌++◌, count_by, Option, Some, None, refl, sym, ap, ◌∙◌, subst, inl, inr, ◌⊎◌, arith}
use Rattle.std.specs.Prelude.{All, find, ◌==◌, ◌||◌, nat_lt, nat_le}
use Rattle.std.specs.List.{list_any, list_all}
use Rattle.std.specs.Option.{option_map_or}
use Rattle.std.proofs.lemmas.Bool.Decides.{nat_tests}
use Rattle.std.specs.List.Sorted.{IsPermutation}
use Rattle.std.proofs.lemmas.List.Elements.{All-nil, All-cons, All-head, All-tail}
use Rattle.std.proofs.lemmas.List.Sums.{sum_by-cons}
use Rattle.std.proofs.lemmas.List.Sorted.{IsPermutation-refl, IsPermutation-cons, IsPermutation-trans, IsPermutation-append_left, IsPermutation-append_comm, list_any-IsPermutation}
use Rattle.std.proofs.lemmas.Bool.{and_parts, and_from, or_cases, or_parts, eqb-true, eqb-false, ne_eqb, both_ways, lt-ltb, ltb-true, ltb-false, leb-false}
use Rattle.mal_base.specs.Literals.{var_of, negated}
use Rattle.mal_base.specs.Clauses.{rises, is_below}
use Rattle.mal_base.specs.NumberedClause.{NumberedClause}
use Rattle.mal_base.specs.declared.trail_entry.TrailEntry.{TrailEntry}
use Rattle.spec_node.specs.Value.{has_value}
use Rattle.spec_node.specs.Load.{counted, is_derived}
use Rattle.spec_node.specs.Adding.{with_clause}
use Rattle.spec_node.specs.Sound.{NumbersRise, serial_of}
use Rattle.spec_node.proofs.SettledLemmas.{var_of-negated}
use Rattle.spec_learn.specs.Analysis.{Walk, Aim, has_var, keeping, resolving, is_resolved, after_seen, after_entry, walked, put, clause_of}
use Rattle.spec_learn.proofs.InsertionLemmas.{put-All}
use Rattle.spec_learn.proofs.LogicLemmas.{put-any}
use Rattle.spec_learn.specs.Order.{without, moved, moved_all}
use Rattle.spec_learn.proofs.PointLemmas.{AllOf}

-- the order stays a permutation
moved-permutes : (v : ℕ) (ws : List ℕ) → list_any (λ w. w == v) ws ≡ true → IsPermutation ws (moved v ws)
moved-permutes v [] h = absurd (cc)
moved-permutes v (w ∷ ws) h = by_here (moved-permutes v ws) (w == v) refl h
  where
    by_here : (list_any (λ (x : ℕ). x == v) ws ≡ true → IsPermutation ws (v ∷ without v ws)) → (b : Bool) → (w == v) ≡ b → (b || list_any (λ (x : ℕ). x == v) ws) ≡ true → IsPermutation (w ∷ ws) (v ∷ cond b ws (w ∷ without v ws))
    by_here f true q k = let same : w ≡ v = eqb-true w v q in rw same (IsPermutation-refl (v ∷ ws))
    by_here f false q k = IsPermutation-trans (w ∷ ws) (w ∷ v ∷ without v ws) (v ∷ w ∷ without v ws) (IsPermutation-cons w ws (v ∷ without v ws) (f k)) (IsPermutation-append_left (without v ws) (w ∷ v ∷ []) (v ∷ w ∷ []) (IsPermutation-append_comm (w ∷ []) (v ∷ [])))

pub moves-permute : (vs ws : List ℕ) → list_all (λ v. list_any (λ w. w == v) ws) vs ≡ true → IsPermutation ws (moved_all vs ws)
moves-permute [] ws h = IsPermutation-refl ws
moves-permute (v ∷ vs) ws h =
    let parts = and_parts (list_any (λ w. w == v) ws) (list_all (λ x. list_any (λ w. w == x) ws) vs) h in
    let one : IsPermutation ws (moved v ws) = moved-permutes v ws parts.0 in
    IsPermutation-trans ws (moved v ws) (moved_all vs (moved v ws)) one (moves-permute vs (moved v ws) (others vs (λ x k. sym (list_any-IsPermutation (λ w. w == x) ws (moved v ws) one) ∙ k) parts.1))
  where
    others : (xs : List ℕ) → ((x : ℕ) → list_any (λ w. w == x) ws ≡ true → list_any (λ w. w == x) (moved v ws) ≡ true) → list_all (λ x. list_any (λ w. w == x) ws) xs ≡ true → list_all (λ x. list_any (λ w. w == x) (moved v ws)) xs ≡ true
    others [] f k = refl
    others (x ∷ xs) f k = let ps = and_parts (list_any (λ w. w == x) ws) (list_all (λ y. list_any (λ w. w == y) ws) xs) k in and_from _ _ (f x ps.0) (others xs f ps.1)

pub counted-has : (first n v : ℕ) → first ≤ v → v < first + n → list_any (λ w. w == v) (counted first n) ≡ true
counted-has first zero v l m = absurd (omega arith)
counted-has first (suc n) v l m = by_here (λ k. counted-has (first + 1) n v k (omega arith)) (first == v) refl
  where
    by_here : (first + 1 ≤ v → list_any (λ w. w == v) (counted (first + 1) n) ≡ true) → (b : Bool) → (first == v) ≡ b → (b || list_any (λ w. w == v) (counted (first + 1) n)) ≡ true
    by_here f true q = refl
    by_here f false q = let other = eqb-false first v q in f (omega arith)

-- a clause with the greatest number goes after the others
pub with-last : (c : NumberedClause) (ds : List NumberedClause) → All (λ d. d.id < c.id) ds → with_clause c ds ≡ ds ++ c ∷ []
with-last c [] h = refl
with-last c (d ∷ ds) h =
    let low : d.id < c.id = All-head (λ x. x.id < c.id) d ds h in
    let test : nat_lt c.id d.id ≡ false = not-lt c.id d.id (omega arith) in
    rw test (ap (λ (xs : List NumberedClause). d ∷ xs) (with-last c ds (All-tail (λ x. x.id < c.id) d ds h)))
  where
    not-lt : (a b : ℕ) → b < a → nat_lt a b ≡ false
    not-lt a b l = grind (arith, nat_tests)

pub numbers-last : (low : ℕ) (c : NumberedClause) (ds : List NumberedClause) → low ≤ c.id → NumbersRise low ds → All (λ d. d.id < c.id) ds → NumbersRise low (ds ++ c ∷ [])
numbers-last low c [] l n h = (l, tt)
numbers-last low c (d ∷ ds) l n h = let u : d.id < c.id = All-head (λ x. x.id < c.id) d ds h in (n.0, numbers-last (d.id + 1) c ds (omega arith) n.1 (All-tail (λ x. x.id < c.id) d ds h))

pub below-derived : (serial index : ℕ) (ds : List NumberedClause) → All (λ c. is_derived c ≡ true → serial_of c < serial) ds → All (λ d. d.id < 2 ^ 32 + serial * 64 + index) ds
below-derived serial index [] h = All-nil (λ d. d.id < 2 ^ 32 + serial * 64 + index)
below-derived serial index (d ∷ ds) h = All-cons (λ x. x.id < 2 ^ 32 + serial * 64 + index) d ds (by_kind (nat_le (2 ^ 32) d.id) refl (All-head (λ c. is_derived c ≡ true → serial_of c < serial) d ds h)) (below-derived serial index ds (All-tail (λ c. is_derived c ≡ true → serial_of c < serial) d ds h))
  where
    by_kind : (b : Bool) → nat_le (2 ^ 32) d.id ≡ b → (nat_le (2 ^ 32) d.id ≡ true → serial_of d < serial) → d.id < 2 ^ 32 + serial * 64 + index
    by_kind true q f = let u : (d.id - 2 ^ 32) / 64 < serial = f q in omega arith
    by_kind false q f = let u : d.id < 2 ^ 32 = leb-false (2 ^ 32) d.id q in omega arith

pub derived-serial : (serial index : ℕ) → index ≤ 63 → (2 ^ 32 + serial * 64 + index - 2 ^ 32) / 64 ≡ serial
derived-serial serial index l = omega arith

-- kept entries have variables of their own
abbrev pub AreDifferent : List TrailEntry → Type 0
AreDifferent [] = Unit {0}
AreDifferent (e ∷ es) = (has_value es (var_of e.lit) ≡ false) × AreDifferent es

-- the literals of a clause rise by variable
is_below-put : (x l : ℕ) (ms : List ℕ) → var_of x < var_of l → is_below x ms ≡ true → is_below x (put l ms) ≡ true
is_below-put x l [] a b = lt-ltb (x / 2) (l / 2) a
is_below-put x l (m ∷ ms) a b = by_less (nat_lt l m)
  where
    by_less : (c : Bool) → is_below x (cond c (l ∷ (m ∷ ms)) (m ∷ put l ms)) ≡ true
    by_less true = lt-ltb (x / 2) (l / 2) a
    by_less false = b

put-rises : (l : ℕ) (ms : List ℕ) → rises ms ≡ true → list_any (λ m. var_of m == var_of l) ms ≡ false → rises (put l ms) ≡ true
put-rises l [] h o = refl
put-rises l (m ∷ ms) h o =
    let parts = and_parts (is_below m ms) (rises ms) h in
    let outs = or_parts (var_of m == var_of l) (list_any (λ x. var_of x == var_of l) ms) o in
    by_less (put-rises l ms parts.1 outs.1) (nat_lt l m) refl (eqb-false (var_of m) (var_of l) outs.0) parts.0
  where
    by_less : rises (put l ms) ≡ true → (c : Bool) → nat_lt l m ≡ c → (var_of m ≡ var_of l → ⊥) → is_below m ms ≡ true → rises (cond c (l ∷ (m ∷ ms)) (m ∷ put l ms)) ≡ true
    by_less f true q o b = let low : l < m = ltb-true l m q in and_from _ _ (lt-ltb (l / 2) (m / 2) (omega arith)) h
    by_less f false q o b = let high : m ≤ l = ltb-false l m q in and_from _ _ (is_below-put m l ms (omega arith) b) f

clause-vars : (es : List TrailEntry) (v : ℕ) → has_value es v ≡ false → list_any (λ m. var_of m == v) (clause_of es) ≡ false
clause-vars [] v h = refl
clause-vars (e ∷ es) v h =
    let parts = or_parts (v == var_of e.lit) (has_value es v) h in
    let other : (var_of (negated e.lit) == v) ≡ false = ne_eqb (var_of (negated e.lit)) v (λ q. eqb-false v (var_of e.lit) parts.0 (sym q ∙ var_of-negated e.lit)) in
    put-any (λ (m : ℕ). var_of m == v) (negated e.lit) (clause_of es) ∙ rw (other, clause-vars es v parts.1) refl

pub clause-rises : (es : List TrailEntry) → AreDifferent es → rises (clause_of es) ≡ true
clause-rises [] h = refl
clause-rises (e ∷ es) h = put-rises (negated e.lit) (clause_of es) (clause-rises es h.1) (clause-vars es (var_of (negated e.lit)) (subst (λ (v : ℕ). has_value es v ≡ false) (sym (var_of-negated e.lit)) h.0))

pub clause-All : (P : ℕ → Type 0) (es : List TrailEntry) → AllOf (λ e. P (negated e.lit)) es → All P (clause_of es)
clause-All P [] h = All-nil P
clause-All P (e ∷ es) h = put-All nat_lt P (negated e.lit) (clause_of es) h.0 (clause-All P es h.1)

-- a walk over different entries keeps different ones
abbrev pub AreApartFrom : List TrailEntry → List TrailEntry → Type 0
AreApartFrom es [] = Unit {0}
AreApartFrom es (e ∷ past) = (has_value es (var_of e.lit) ≡ false) × AreApartFrom es past

pub apart-more : (e : TrailEntry) (es past : List TrailEntry) → has_value past (var_of e.lit) ≡ false → AreApartFrom es past → AreApartFrom (e ∷ es) past
apart-more e es [] h a = tt
apart-more e es (x ∷ past) h a =
    let parts = or_parts (var_of e.lit == var_of x.lit) (has_value past (var_of e.lit)) h in
    let other : (var_of x.lit == var_of e.lit) ≡ false = ne_eqb (var_of x.lit) (var_of e.lit) (λ q. eqb-false (var_of e.lit) (var_of x.lit) parts.0 (sym q)) in
    (rw (other, a.0) refl, apart-more e es past parts.1 a.1)

pub kept-different : (aim : Aim) (clauses : List NumberedClause) (past : List TrailEntry) (w : Walk) → AreDifferent past → AreDifferent w.kept → AreApartFrom w.kept past → AreDifferent (walked aim clauses past w).kept
kept-different aim clauses [] w p d a = d
kept-different aim clauses (e ∷ past) w p d a = by_next (after_entry aim clauses e past w) (by_seen (has_var w.seen (var_of e.lit))) (λ v x y. kept-different aim clauses past v p.1 x y)
  where
    by_next : (v : Walk) → AreDifferent v.kept × AreApartFrom v.kept past → ((v : Walk) → AreDifferent v.kept → AreApartFrom v.kept past → AreDifferent (walked aim clauses past v).kept) → AreDifferent (walked aim clauses past v).kept
    by_next v k f = f v k.0 k.1

    keeps : AreDifferent (keeping e w).kept × AreApartFrom (keeping e w).kept past
    keeps = ((a.0, d), apart-more e w.kept past p.0 a.1)

    by_resolved : (r : ℕ) (b : Bool) → AreDifferent (cond b (resolving clauses r w) (keeping e w)).kept × AreApartFrom (cond b (resolving clauses r w) (keeping e w)).kept past
    by_resolved r true = (d, a.1)
    by_resolved r false = keeps

    by_reason : (o : Option ℕ) → AreDifferent (option_map_or (λ r. cond (is_resolved aim e w.seen past) (resolving clauses r w) (keeping e w)) o (keeping e w)).kept × AreApartFrom (option_map_or (λ r. cond (is_resolved aim e w.seen past) (resolving clauses r w) (keeping e w)) o (keeping e w)).kept past
    by_reason None = keeps
    by_reason (Some r) = by_resolved r (is_resolved aim e w.seen past)

    by_seen : (b : Bool) → AreDifferent (cond b (after_seen aim clauses e past w) w).kept × AreApartFrom (cond b (after_seen aim clauses e past w) w).kept past
    by_seen true = by_reason e.reason
    by_seen false = (d, a.1)

-- where one literal at most passes a test, and this one does, it is found
pub find-alone : (p : ℕ → Bool) (x : ℕ) (ls : List ℕ) → p x ≡ true → list_any (λ l. l == x) ls ≡ true → count_by p ls ≤ 1 → find p ls ≡ Some x
find-alone p x [] t h c = absurd (cc)
find-alone p x (l ∷ ls) t h c = by_test (p l) refl (sum_by-cons (λ y. cond {A = ℕ} (p y) 1 0) l ls) (or_cases (l == x) (list_any (λ m. m == x) ls) h) (find-alone p x ls t)
  where
    some-count : (ms : List ℕ) → list_any (λ m. m == x) ms ≡ true → 1 ≤ count_by p ms
    some-count [] k = absurd (cc)
    some-count (m ∷ ms) k = by_place (some-count ms) (or_cases (m == x) (list_any (λ y. y == x) ms) k) (sum_by-cons (λ y. cond {A = ℕ} (p y) 1 0) m ms)
      where
        by_place : (list_any (λ (y : ℕ). y == x) ms ≡ true → 1 ≤ count_by p ms) → ((m == x) ≡ true) ⊎ (list_any (λ (y : ℕ). y == x) ms ≡ true) → count_by p (m ∷ ms) ≡ cond {A = ℕ} (p m) 1 0 + count_by p ms → 1 ≤ count_by p (m ∷ ms)
        by_place f (inl q) e = let one : p m ≡ true = ap p (eqb-true m x q) ∙ t in let c : count_by p (m ∷ ms) ≡ 1 + count_by p ms = e ∙ ap (λ (b : Bool). cond {A = ℕ} b 1 0 + count_by p ms) one in omega arith
        by_place f (inr q) e = let u : 1 ≤ count_by p ms = f q in omega arith

    by_test : (b : Bool) → p l ≡ b → count_by p (l ∷ ls) ≡ cond {A = ℕ} (p l) 1 0 + count_by p ls → ((l == x) ≡ true) ⊎ (list_any (λ (m : ℕ). m == x) ls ≡ true) → (list_any (λ (m : ℕ). m == x) ls ≡ true → count_by p ls ≤ 1 → find p ls ≡ Some x) → cond b (Some l) (find p ls) ≡ Some x
    by_test true q e (inl k) f = ap (λ (y : ℕ). Some y) (eqb-true l x k)
    by_test true q e (inr k) f = let u : 1 ≤ count_by p ls = some-count ls k in let d : count_by p (l ∷ ls) ≡ 1 + count_by p ls = e ∙ ap (λ (b : Bool). cond {A = ℕ} b 1 0 + count_by p ls) q in absurd (omega arith)
    by_test false q e (inl k) f = absurd (both_ways (p l) q (ap p (eqb-true l x k) ∙ t))
    by_test false q e (inr k) f = f k (let d : count_by p (l ∷ ls) ≡ 0 + count_by p ls = e ∙ ap (λ (b : Bool). cond {A = ℕ} b 1 0 + count_by p ls) q in omega arith)
