-- Seats by the numbers of their jobs.
use Rattle.std.proofs.Common.{◌≡◌, ℕ, zero, suc, ◌+◌, ◌<◌, ◌≤◌, Bool, true, false, cond, ◌==◌, nat_lt, List, [], ◌∷◌, ◌++◌, length, get_or, slice_get, slice_set, Option, Some, None, option_map, refl, sym, ◌∙◌, ap, arith}
use Rattle.std.specs.List.{remove}
use Rattle.std.specs.List.Sorted.{IsPartitionedBy}
use Rattle.std.specs.Option.{option_map_or}
use Rattle.std.proofs.lemmas.Bool.{ltb-false, ltb-true, ne_eqb}
use Rattle.std.proofs.lemmas.List.Sorted.{IsPartitionedBy-ltb}
use Rattle.spec_hall.specs.Seats.{Seat, balanced_from, is_live_seat}
use Rattle.mal_seats.specs.Numbered.{AreAbove, IsAbove, Rise, numbers_in, place_if, place_numbered}

-- the number of a job
abbrev pub number_of : Seat → ℕ
number_of s = s.job.number

-- no job has a number that is below all
none-below : (n m : ℕ) (ss : List Seat) → n ≤ m → AreAbove m (numbers_in ss) → place_numbered n ss ≡ None
none-below n m [] low above = refl
none-below n m (s ∷ ss) low above =
    let off : (s.job.number == n) ≡ false = ne_eqb s.job.number n (λ (e : s.job.number ≡ n). omega (arith, above.0)) in
    ap (λ (b : Bool). cond b (Some 0) (option_map suc (place_numbered n ss))) off ∙ ap (option_map suc) (none-below n m ss low above.1)

-- a place with one seat more in front
place_if-suc : (n : ℕ) (ss : List Seat) (p : ℕ) → option_map_or (λ (t : Seat). cond (t.job.number == n) (Some (suc p)) None) (slice_get ss p) None ≡ option_map suc (place_if n ss p)
place_if-suc n ss p = by_seat (slice_get ss p)
  where
    by_test : (b : Bool) → cond b (Some (suc p)) None ≡ option_map suc (cond b (Some p) None)
    by_test true = refl
    by_test false = refl

    by_seat : (o : Option Seat) → option_map_or (λ (t : Seat). cond (t.job.number == n) (Some (suc p)) None) o None ≡ option_map suc (option_map_or (λ (t : Seat). cond (t.job.number == n) (Some p) None) o None)
    by_seat None = refl
    by_seat (Some t) = by_test (t.job.number == n)

-- the job with a number stands after those with numbers below it, if it is there
pub place-point : (n : ℕ) (ss : List Seat) (p : ℕ) → Rise ss → p ≤ length ss → ((k : ℕ) (d : Seat) → k < p → nat_lt (get_or ss k d).job.number n ≡ true) → ((k : ℕ) (d : Seat) → p ≤ k → k < length ss → nat_lt (get_or ss k d).job.number n ≡ false) → place_if n ss p ≡ place_numbered n ss
place-point n [] zero rise within below above = refl
place-point n [] (suc p) rise within below above = refl
place-point n (s ∷ ss) zero rise within below above = by_test (s.job.number == n)
  where
    least : n ≤ s.job.number
    least = ltb-false s.job.number n (above 0 s (omega arith) (omega arith))

    by_test : (b : Bool) → cond b (Some 0) None ≡ cond b (Some 0) (option_map suc (place_numbered n ss))
    by_test true = refl
    by_test false = sym (ap (option_map suc) (none-below n s.job.number ss least rise.0))
place-point n (s ∷ ss) (suc p) rise within below above =
    let low : s.job.number < n = ltb-true s.job.number n (below 0 s (omega arith)) in
    let off : (s.job.number == n) ≡ false = ne_eqb s.job.number n (λ (e : s.job.number ≡ n). omega arith) in
    let rest : place_if n ss p ≡ place_numbered n ss = place-point n ss p rise.1 (omega arith) (λ k d h. below (suc k) d (omega arith)) (λ k d h l. above (suc k) d (omega arith) (omega arith)) in
    place_if-suc n ss p ∙ (ap (option_map suc) rest ∙ sym (ap (λ (b : Bool). cond b (Some 0) (option_map suc (place_numbered n ss))) off))

above-at : (m : ℕ) (ss : List Seat) (k : ℕ) (d : Seat) → AreAbove m (numbers_in ss) → k < length ss → m < (get_or ss k d).job.number
above-at m [] k d above within = absurd (omega arith)
above-at m (s ∷ ss) zero d above within = above.0
above-at m (s ∷ ss) (suc k) d above within = above-at m ss k d above.1 (omega arith)

rises : (ss : List Seat) → Rise ss → (i j : ℕ) (d : Seat) → i ≤ j → j < length ss → (get_or ss i d).job.number ≤ (get_or ss j d).job.number
rises [] rise i j d order within = absurd (omega arith)
rises (s ∷ ss) rise zero zero d order within = omega arith
rises (s ∷ ss) rise zero (suc j) d order within = omega (arith, above-at s.job.number ss j d rise.0 (omega arith))
rises (s ∷ ss) rise (suc i) zero d order within = absurd (omega arith)
rises (s ∷ ss) rise (suc i) (suc j) d order within = rises ss rise.1 i j d (omega arith) (omega arith)

-- jobs with numbers below one stand in front of the others
pub numbers-part : (n : ℕ) (ss : List Seat) → Rise ss → IsPartitionedBy (λ (s : Seat). nat_lt s.job.number n) ss
numbers-part n ss rise = IsPartitionedBy-ltb number_of ss n (rises ss rise)

-- the numbers of fewer seats, of as many, and of one more
numbers-set : (ss : List Seat) (n : ℕ) (s now : Seat) → slice_get ss n ≡ Some s → now.job.number ≡ s.job.number → numbers_in (slice_set ss n now) ≡ numbers_in ss
numbers-set [] n s now there number = absurd (cc)
numbers-set (x ∷ xs) zero s now there number =
    let same : x ≡ s = cc in
    ap (λ (m : ℕ). m ∷ numbers_in xs) (number ∙ ap number_of (sym same))
numbers-set (x ∷ xs) (suc n) s now there number = ap (λ (ms : List ℕ). x.job.number ∷ ms) (numbers-set xs n s now there number)

numbers-balanced : (n : ℕ) (vs : List ℕ) (ss : List Seat) → numbers_in (balanced_from n vs ss) ≡ numbers_in ss
numbers-balanced n vs [] = refl
numbers-balanced n vs (x ∷ xs) = ap (λ (ms : List ℕ). x.job.number ∷ ms) (numbers-balanced (cond (is_live_seat x) (n + 1) n) vs xs)

above-push : (m : ℕ) (ss : List Seat) (s : Seat) → AreAbove m (numbers_in ss) → m < s.job.number → AreAbove m (numbers_in (ss ++ s ∷ []))
above-push m [] s above last = (last, tt)
above-push m (x ∷ xs) s above last = (above.0, above-push m xs s above.1 last)

above-remove : (m : ℕ) (ss : List Seat) (at : ℕ) → AreAbove m (numbers_in ss) → AreAbove m (numbers_in (remove ss at))
above-remove m [] zero above = tt
above-remove m [] (suc at) above = tt
above-remove m (x ∷ xs) zero above = above.1
above-remove m (x ∷ xs) (suc at) above = (above.0, above-remove m xs at above.1)

-- the numbers still rise after one seat has changed, after a balancing, with one more seat, and without one
pub rise-set : (ss : List Seat) (n : ℕ) (s now : Seat) → Rise ss → slice_get ss n ≡ Some s → now.job.number ≡ s.job.number → Rise (slice_set ss n now)
rise-set ss n s now rise there number = rw (numbers-set ss n s now there number) rise

pub rise-balanced : (vs : List ℕ) (ss : List Seat) → Rise ss → Rise (balanced_from 0 vs ss)
rise-balanced vs ss rise = rw (numbers-balanced 0 vs ss) rise

pub rise-push : (ss : List Seat) (s : Seat) → Rise ss → IsAbove s.job.number ss → Rise (ss ++ s ∷ [])
rise-push [] s rise above = (tt, tt)
rise-push (x ∷ xs) s rise above = (above-push x.job.number xs s rise.0 (above 0 x refl), rise-push xs s rise.1 (λ at t there. above (suc at) t there))

pub rise-remove : (ss : List Seat) (at : ℕ) → Rise ss → Rise (remove ss at)
rise-remove [] zero rise = tt
rise-remove [] (suc at) rise = tt
rise-remove (x ∷ xs) zero rise = rise.1
rise-remove (x ∷ xs) (suc at) rise = (above-remove x.job.number xs at rise.0, rise-remove xs at rise.1)
