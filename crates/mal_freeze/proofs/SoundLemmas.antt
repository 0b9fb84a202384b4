use Rattle.std.proofs.Common.{◌≡◌, ℕ, zero, suc, ◌+◌, ◌<◌, ◌≤◌, Bool, true, false, not, ◌||◌, ◌&&◌, eqb, nat_lt, nat_le, List, [], ◌∷◌, ◌++◌, length, Option, Some, None, refl, sym, subst, ◌∙◌, arith}
use Rattle.std.specs.Prelude.{All}
use Rattle.std.specs.List.{list_any, IsDistinct, AllByRecursion}
use Rattle.std.specs.List.Sorted.{IsPermutation}
use Rattle.std.proofs.lemmas.Bool.{false≢true, and_from, or_left, or_right, false_from_ne_true, eqb-true, eq-eqb, lt-ltb, le-leb, ne_eqb}
use Rattle.std.proofs.lemmas.List.Elements.{All-head, All-tail}
use Rattle.std.proofs.lemmas.List.Folds.{list_any-append}
use Rattle.std.proofs.lemmas.List.Sorted.{length_permutation, All-permutation}
use Rattle.std.proofs.lemmas.Map.Keys.{IsDistinct-head, IsDistinct-tail, IsDistinct-cons, IsDistinct-IsPermutation}
use Rattle.mal_base.specs.Clauses.{rises}
use Rattle.mal_base.specs.Formulas.{is_within}
use Rattle.mal_base.specs.NumberedClause.{NumberedClause}
use Rattle.mal_base.specs.Literals.{var_of}
use Rattle.mal_base.specs.declared.trail_entry.TrailEntry.{TrailEntry}
use Rattle.spec_node.specs.Load.{counted}
use Rattle.spec_node.specs.Value.{has_value, level_of}
use Rattle.spec_node.specs.Sound.{EachAfter, IsPlaced, IsLevelled, own_level, IsLiteralOf, AreLiteralsOf, NumbersRise}
use Rattle.spec_node.proofs.FindLemmas.{IsBetween, counted-All}
use Rattle.mal_freeze.specs.Imaged.{are_new, is_new, is_order, may_follow, all_follow, are_literals, are_clauses, numbers_rise}
use Rattle.mal_freeze.specs.Laws.{SoundIsFormed, SoundHasImage}

eqb_flips : (a b : ℕ) → eqb a b ≡ eqb b a
eqb_flips a b = by_test (eqb b a) refl
  where
    by_test : (t : Bool) → eqb b a ≡ t → eqb a b ≡ t
    by_test true h = eq-eqb a b (sym (eqb-true b a h))
    by_test false h = false_from_ne_true (eqb a b) (λ k. false≢true (sym h ∙ eq-eqb b a (sym (eqb-true a b k))))

-- the numbers counted differ
below-counted : (v first n : ℕ) → v < first → AllByRecursion (λ y. eqb v y ≡ false) (counted first n)
below-counted v first zero h = tt
below-counted v first (suc n) h = (ne_eqb v first (λ e. omega (arith, e, h)), below-counted v (first + 1) n (omega arith))

counted-distinct : (first n : ℕ) → IsDistinct eqb (counted first n)
unfolding IsDistinct
counted-distinct first zero = tt
counted-distinct first (suc n) = IsDistinct-cons eqb first (counted (first + 1) n) (below-counted first (first + 1) n (omega arith)) (counted-distinct (first + 1) n)

length-counted : (first n : ℕ) → length (counted first n) ≡ n
length-counted first zero = refl
length-counted first (suc n) = omega (arith, length-counted (first + 1) n)

apart-none : (v : ℕ) (vs : List ℕ) → AllByRecursion (λ y. eqb v y ≡ false) vs → list_any (eqb v) vs ≡ false
apart-none v [] h = refl
apart-none v (w ∷ ws) h = rw h.0 (apart-none v ws h.1)

not_one : (b : Bool) → b ≡ false → not b ≡ true
not_one true h = absurd (false≢true (sym h))
not_one false h = refl

neither : (a b : Bool) → a ≡ false → b ≡ false → (a || (b || false)) ≡ false
neither true b h k = absurd (false≢true (sym h))
neither false b h k = rw k refl

-- distinct numbers from 1 to the greatest are new after others that have none of them
news-from : (greatest : ℕ) (before vs : List ℕ) → All (IsBetween 1 (1 + greatest)) vs → IsDistinct eqb vs → ((w : ℕ) → list_any (eqb w) vs ≡ true → list_any (eqb w) before ≡ false) → are_new greatest before vs ≡ true
news-from greatest before [] a d apart = refl
news-from greatest before (v ∷ vs) a d apart =
    let here = All-head (IsBetween 1 (1 + greatest)) v vs a in
    let low : 1 ≤ v = here.from in
    let below : v < 1 + greatest = here.below in
    let fresh = apart v (or_left (eqb v v) (list_any (eqb v) vs) (eq-eqb v v refl)) in
    let one = and_from (nat_le 1 v && nat_le v greatest) (not (list_any (eqb v) before)) (and_from (nat_le 1 v) (nat_le v greatest) (le-leb 1 v low) (le-leb v greatest (omega arith))) (not_one (list_any (eqb v) before) fresh) in
    and_from (is_new greatest before v) (are_new greatest (before ++ v ∷ []) vs) one (news-from greatest (before ++ v ∷ []) vs (All-tail (IsBetween 1 (1 + greatest)) v vs a) (IsDistinct-tail eqb v vs d) rest)
  where
    other : (w : ℕ) → list_any (eqb w) vs ≡ true → eqb w v ≡ false
    other w h = false_from_ne_true (eqb w v) (λ t. false≢true (sym (apart-none v vs (IsDistinct-head eqb v vs d)) ∙ subst (λ (x : ℕ). list_any (eqb x) vs ≡ true) (eqb-true w v t) h))

    rest : (w : ℕ) → list_any (eqb w) vs ≡ true → list_any (eqb w) (before ++ v ∷ []) ≡ false
    rest w h = list_any-append (eqb w) before (v ∷ []) ∙ neither (list_any (eqb w) before) (eqb w v) (apart w (or_right (eqb w v) (list_any (eqb w) vs) h)) (other w h)

order-from : (n : ℕ) (order : List ℕ) → IsPermutation (counted 1 n) order → is_order n order ≡ true
order-from n order p =
    let long : length order ≡ n = length_permutation (counted 1 n) order p ∙ length-counted 1 n in
    let within = All-permutation (IsBetween 1 (1 + n)) (counted 1 n) order p (counted-All 1 n) in
    let distinct = IsDistinct-IsPermutation eqb eqb_flips (counted 1 n) order p (counted-distinct 1 n) in
    and_from (eqb (length order) n) (are_new n [] order) (eq-eqb (length order) n long) (news-from n [] order within distinct (λ w h. refl))

lits-within : (n : ℕ) (lits : List ℕ) → All (IsLiteralOf n) lits → is_within n lits ≡ true
lits-within n [] h = refl
lits-within n (l ∷ ls) h =
    let here = All-head (IsLiteralOf n) l ls h in
    and_from (nat_le 1 (var_of l) && nat_le (var_of l) n) (is_within n ls) (and_from (nat_le 1 (var_of l)) (nat_le (var_of l) n) (le-leb 1 (var_of l) here.low) (le-leb (var_of l) n here.high)) (lits-within n ls (All-tail (IsLiteralOf n) l ls h))

literals-from : (n : ℕ) (lits : List ℕ) → AreLiteralsOf n lits → are_literals n lits ≡ true
literals-from n lits h = and_from (rises lits) (is_within n lits) h.rising (lits-within n lits h.within)

clauses-from : (n : ℕ) (cs : List NumberedClause) → All (λ (c : NumberedClause). AreLiteralsOf n c.lits) cs → are_clauses n cs ≡ true
clauses-from n [] h = refl
clauses-from n (c ∷ cs) h = and_from (are_literals n c.lits) (are_clauses n cs) (literals-from n c.lits (All-head (λ (x : NumberedClause). AreLiteralsOf n x.lits) c cs h)) (clauses-from n cs (All-tail (λ (x : NumberedClause). AreLiteralsOf n x.lits) c cs h))

numbers-from : (last : ℕ) (cs : List NumberedClause) → NumbersRise (last + 1) cs → numbers_rise last cs ≡ true
numbers-from last [] h = refl
numbers-from last (c ∷ cs) h =
    let low : last + 1 ≤ c.id = h.0 in
    and_from (nat_lt last c.id) (numbers_rise c.id cs) (lt-ltb last c.id (omega arith)) (numbers-from c.id cs h.1)

own-level : (before : List TrailEntry) (level : ℕ) (r : Option ℕ) → level ≡ own_level before r → (level_of before ≤ level) × (level ≤ level_of before + 1)
own-level before level None h = (omega arith, omega arith)
own-level before level (Some id) h = (omega arith, omega arith)

follow-from : (n : ℕ) (before es : List TrailEntry) → EachAfter (IsPlaced n) before es → EachAfter IsLevelled before es → all_follow n before es ≡ true
follow-from n before [] p l = refl
follow-from n before (e ∷ es) p l =
    let v = var_of e.lit in
    let levels = own-level before e.level e.reason l.0 in
    let range = and_from (nat_le 1 v) (nat_le v n) (le-leb 1 v p.0.low) (le-leb v n p.0.high) in
    let level = and_from (nat_le (level_of before) e.level) (nat_le e.level (level_of before + 1)) (le-leb (level_of before) e.level levels.0) (le-leb e.level (level_of before + 1) levels.1) in
    let here = and_from (nat_le 1 v && nat_le v n) (not (has_value before v) && (nat_le (level_of before) e.level && nat_le e.level (level_of before + 1))) range (and_from (not (has_value before v)) (nat_le (level_of before) e.level && nat_le e.level (level_of before + 1)) (not_one (has_value before v) p.0.free) level) in
    and_from (may_follow n before e) (all_follow n (before ++ e ∷ []) es) here (follow-from n (before ++ e ∷ []) es p.1 l.1)

pub sound-formed : SoundIsFormed
sound-formed n s h = record {
  ranges = record { index = s.ranged.index; variables = s.ranged.variables; serial = h; restart_number = s.ranged.restart_number; processed = s.consistent.handled; phases = s.ranged.phases };
  assumptions = literals-from n.variables n.assumptions s.consistent.assumptions;
  order = order-from n.variables n.order s.consistent.order;
  trail = follow-from n.variables [] n.trail s.consistent.placed s.consistent.levels;
  clauses = clauses-from n.variables n.clauses s.consistent.clauses;
  numbers = numbers-from 0 n.clauses s.ranged.numbers;
}

pub sound-image : SoundHasImage
sound-image n s h p = record { form = sound-formed n s h; profile = p }
