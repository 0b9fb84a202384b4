-- How many seats pass a test.
use Rattle.std.proofs.Common.{◌≡◌, ℕ, zero, suc, ◌+◌, ◌≤◌, Bool, true, false, not, ◌&&◌, ◌||◌, ◌==◌, List, [], ◌∷◌, ◌++◌, slice_get, slice_set, Some, refl, sym, ◌∙◌, ap, arith}
use Rattle.std.specs.Prelude.{count_by, nat_lt, if◌then◌else◌}
use Rattle.std.specs.List.{list_any, remove}
use Rattle.std.proofs.lemmas.Bool.Decides.{Decides-eqb, Decides-ltb}
use Rattle.std.proofs.lemmas.List.Sums.{sum_by-cons, sum_by-append, sum_by-set}
use Rattle.std.proofs.lemmas.Option.{slice_get_within, get_or_from_slice_get}
use Rattle.mal_base.specs.Asks.{Terms}
use Rattle.spec_balance.specs.Fair.{volume_at}
use Rattle.spec_hall.specs.Driven.{is_done}
use Rattle.spec_hall.specs.Seats.{Seat, asks_alike, balanced_from, balanced_seat, has_changed, is_live_seat, jobs_in}
use Rattle.mal_seats.specs.Counted.{one, is_unfinished}

-- a seat counts among the first
count-cons : (p : Seat → Bool) (s : Seat) (ss : List Seat) → count_by p (s ∷ ss) ≡ one (p s) + count_by p ss
count-cons p s ss = sum_by-cons (λ (t : Seat). one (p t)) s ss

-- how many pass after one seat has changed
pub count-set : (p : Seat → Bool) (ss : List Seat) (n : ℕ) (s now : Seat) → slice_get ss n ≡ Some s → count_by p (slice_set ss n now) + one (p s) ≡ count_by p ss + one (p now)
count-set p ss n s now at = rw (get_or_from_slice_get ss n s s at) at (sum_by-set (λ (t : Seat). one (p t)) ss n now s (slice_get_within ss n s at))

-- one that passes counts
pub count-at : (p : Seat → Bool) (ss : List Seat) (n : ℕ) (s : Seat) → slice_get ss n ≡ Some s → one (p s) ≤ count_by p ss
count-at p [] n s at = absurd (cc)
count-at p (x ∷ xs) zero s at =
    let same : x ≡ s = cc in
    let here : one (p x) ≡ one (p s) = ap (λ (t : Seat). one (p t)) same in
    omega (arith, count-cons p x xs)
count-at p (x ∷ xs) (suc n) s at = omega (arith, count-cons p x xs, count-at p xs n s at)

-- how many pass with one seat more
pub count-push : (p : Seat → Bool) (ss : List Seat) (s : Seat) → count_by p (ss ++ s ∷ []) ≡ count_by p ss + one (p s)
count-push p ss s = omega (arith, sum_by-append (λ (t : Seat). one (p t)) ss (s ∷ []), count-cons p s [])

-- how many pass without one seat
pub count-remove : (p : Seat → Bool) (ss : List Seat) (n : ℕ) (s : Seat) → slice_get ss n ≡ Some s → count_by p (remove ss n) + one (p s) ≡ count_by p ss
count-remove p [] n s at = absurd (cc)
count-remove p (x ∷ xs) zero s at =
    let same : x ≡ s = cc in
    let here : one (p x) ≡ one (p s) = ap (λ (t : Seat). one (p t)) same in
    let left : count_by p (remove (x ∷ xs) zero) ≡ count_by p xs = refl in
    omega (arith, here, left, count-cons p x xs)
count-remove p (x ∷ xs) (suc n) s at =
    let left : count_by p (remove (x ∷ xs) (suc n)) ≡ count_by p (x ∷ remove xs n) = refl in
    omega (arith, left, count-cons p x xs, count-cons p x (remove xs n), count-remove p xs n s at)

positive : (n : ℕ) → 1 ≤ n → true ≡ nat_lt 0 n
positive n some = sym ((Decides-ltb 0 n).1 (omega arith))

nonzero : (n : ℕ) → 1 ≤ n → false ≡ (n == 0)
nonzero n some = by_test (n == 0) refl
  where
    by_test : (b : Bool) → (n == 0) ≡ b → false ≡ b
    by_test true e = let none = (Decides-eqb n 0).0 e in absurd (omega arith)
    by_test false e = refl

-- whether some pass is read off their number
pub any-counted : (p : Seat → Bool) (ss : List Seat) → list_any p ss ≡ nat_lt 0 (count_by p ss)
any-counted p [] = refl
any-counted p (s ∷ ss) = by_test (p s) (any-counted p ss) ∙ ap (nat_lt 0) (sym (count-cons p s ss))
  where
    by_test : (b : Bool) → list_any p ss ≡ nat_lt 0 (count_by p ss) → (b || list_any p ss) ≡ nat_lt 0 (one b + count_by p ss)
    by_test true rest = positive (1 + count_by p ss) (omega arith)
    by_test false rest = let same : count_by p ss ≡ 0 + count_by p ss = omega arith in rest ∙ ap (nat_lt 0) same

-- so is whether all are closed and answered
pub done-counted : (ss : List Seat) → is_done (jobs_in ss) ≡ (count_by is_unfinished ss == 0)
done-counted [] = refl
done-counted (s ∷ ss) = by_test (s.job.titled.state.closed && not (is_live_seat s)) (done-counted ss) ∙ ap (λ (n : ℕ). n == 0) (sym (count-cons is_unfinished s ss))
  where
    by_test : (b : Bool) → is_done (jobs_in ss) ≡ (count_by is_unfinished ss == 0) → (b && is_done (jobs_in ss)) ≡ (one (not b) + count_by is_unfinished ss == 0)
    by_test true rest = let same : count_by is_unfinished ss ≡ 0 + count_by is_unfinished ss = omega arith in rest ∙ ap (λ (n : ℕ). n == 0) same
    by_test false rest = nonzero (1 + count_by is_unfinished ss) (omega arith)

-- what a balancing has just seen has not changed
alike-self : (a : Terms) → asks_alike a a ≡ true
alike-self a = both (a.priority == a.priority) (a.demand == a.demand) ((Decides-eqb a.priority a.priority).1 refl) ((Decides-eqb a.demand a.demand).1 refl)
  where
    both : (x y : Bool) → x ≡ true → y ≡ true → (x && y) ≡ true
    both true true e f = refl
    both true false e f = absurd (cc)
    both false y e f = absurd (cc)

seen : (live alike : Bool) → alike ≡ true → (if live then not (live && alike) else live) ≡ false
seen true true e = refl
seen true false e = absurd (cc)
seen false alike e = refl

balanced-seen : (v : ℕ) (s : Seat) → has_changed (balanced_seat v s) ≡ false
balanced-seen v s = seen (is_live_seat s) (asks_alike s.job.titled.state.ask s.job.titled.state.ask) (alike-self s.job.titled.state.ask)

pub none-changed : (n : ℕ) (vs : List ℕ) (ss : List Seat) → 0 ≡ count_by has_changed (balanced_from n vs ss)
none-changed n vs [] = refl
none-changed n vs (s ∷ ss) =
    let next : ℕ = if is_live_seat s then n + 1 else n in
    let here : one (has_changed (balanced_seat (volume_at vs n) s)) ≡ 0 = ap one (balanced-seen (volume_at vs n) s) in
    omega (arith, count-cons has_changed (balanced_seat (volume_at vs n) s) (balanced_from next vs ss), none-changed next vs ss)

-- a balancing neither closes nor answers
pub unfinished-balanced : (n : ℕ) (vs : List ℕ) (ss : List Seat) → count_by is_unfinished ss ≡ count_by is_unfinished (balanced_from n vs ss)
unfinished-balanced n vs [] = refl
unfinished-balanced n vs (s ∷ ss) =
    let next : ℕ = if is_live_seat s then n + 1 else n in
    let now : Seat = balanced_seat (volume_at vs n) s in
    let here : one (is_unfinished now) ≡ one (is_unfinished s) = refl in
    omega (arith, count-cons is_unfinished s ss, count-cons is_unfinished now (balanced_from next vs ss), unfinished-balanced next vs ss)
