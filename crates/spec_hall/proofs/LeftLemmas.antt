use Rattle.std.proofs.Common.{◌≡◌, ℕ, zero, suc, ◌<◌, Bool, true, false, ◌||◌, not, ◌==◌, List, [], ◌∷◌, ◌++◌, slice_get, slice_set, Option, Some, None, is_none, refl, sym, ◌∙◌, ap, subst, Decides}
use Rattle.std.specs.Cmp.Lexicographic.{pointwise}
use Rattle.std.specs.Option.{option_map_or}
use Rattle.std.proofs.lemmas.Bool.Decides.{Decides-and, Decides-eqb}
use Rattle.std.proofs.lemmas.Slice.Eq.{slice_eq-Decides}
use Rattle.std.proofs.lemmas.List.{set-set}
use Rattle.mal_base.specs.declared.verdict.Outcome.{Outcome}
use Rattle.spec_hall.specs.Legal.{Allowed}
use Rattle.spec_job.specs.Viewed.{and_own, and_start}
use Rattle.spec_balance.specs.Fair.{IsFair}
use Rattle.spec_job.specs.Left.{after_start, left_of}
use Rattle.spec_job.specs.SoloMachine.{Finished, Exchanged}
use Rattle.spec_job.specs.KeyedJob.{Key}
use Rattle.spec_hall.specs.Events.{Event, Balance, Start, Finish, Exchange}
use Rattle.spec_hall.specs.Measure.{is_same_live, is_balanced, left_by, left_in}
use Rattle.spec_hall.specs.Seats.{Seat, IsSeated, jobs_in, has_changed, is_balancing_due, is_due, first_exchange, shares_by, balanced_by}
use Rattle.spec_hall.specs.States.{Live, states, lives, live_asks, balanced}
use Rattle.spec_hall.proofs.KeyLemmas.{is_key-Decides}
use Rattle.spec_hall.proofs.PushLemmas.{balanced-push}
use Rattle.spec_hall.proofs.DueLemmas.{seated-calm, seated-due}
use Rattle.spec_hall.proofs.BalanceLemmas.{seated-balance}
use Rattle.spec_hall.proofs.ExchangeLemmas.{seated-exchange}
use Rattle.spec_hall.proofs.SeatLemmas.{seated-start, seated-finish}
use Rattle.spec_hall.proofs.MeasureLemmas.{balance-less, exchange-less, slice-less, calm-balanced}

-- the test of two live jobs says whether they are equal
is_same_live-Decides : (a b : Live) → Decides (is_same_live a b) (a ≡ b)
is_same_live-Decides a b =
    let numbers = Decides-and (a.priority == b.priority) (a.demand == b.demand) (Decides-eqb a.priority b.priority) (Decides-eqb a.demand b.demand) in
    let all = Decides-and _ _ (is_key-Decides a.key b.key) numbers in (
      (λ e. let parts = all.0 e in equal a b parts.0 parts.1.0 parts.1.1),
      (λ e. all.1 (ap (λ (l : Live). l.key) e, (ap (λ (l : Live). l.priority) e, ap (λ (l : Live). l.demand) e))),
    )
  where
    equal : (x y : Live) → x.key ≡ y.key → x.priority ≡ y.priority → x.demand ≡ y.demand → x ≡ y
    equal x y p q r =
        ap (λ (k : Key). let l : Live = record { key = k; priority = x.priority; demand = x.demand } in l) p
        ∙ (ap (λ (n : ℕ). let l : Live = record { key = y.key; priority = n; demand = x.demand } in l) q ∙ ap (λ (n : ℕ). let l : Live = record { key = y.key; priority = y.priority; demand = n } in l) r)

-- the test of a history says whether its live jobs are those of the last balancing
balanced-Decides : (h : List Event) → Decides (is_balanced h) (Some (lives (states h)) ≡ balanced h)
balanced-Decides h = by_last (balanced h)
  where
    by_last : (o : Option (List Live)) → Decides (option_map_or (pointwise is_same_live (lives (states h))) o false) (Some (lives (states h)) ≡ o)
    by_last None = ((λ e. absurd (cc)), (λ e. absurd (cc)))
    by_last (Some ls) =
        let same = slice_eq-Decides is_same_live-Decides (lives (states h)) ls (pointwise is_same_live (lives (states h)) ls) refl in
        ((λ e. ap (λ (xs : List Live). Some xs) (same.0 e)), (λ e. same.1 (inside e)))
      where
        inside : Some (lives (states h)) ≡ Some ls → lives (states h) ≡ ls
        inside e = cc

-- a balancing is due of the history where one is of its seats
balance-due : (w : ℕ) (h : List Event) (ss : List Seat) → IsSeated w h ss → not (is_balanced h) ≡ is_balancing_due h ss
balance-due w h ss seated = by_last (balanced h) refl
  where
    by_balance : (b : Bool) → is_balanced h ≡ b → is_due ss ≡ true → not b ≡ true
    by_balance true e due = absurd (seated-due w h ss seated due ((balanced-Decides h).0 e))
    by_balance false e due = refl

    by_test : (ls : List Live) → balanced h ≡ Some ls → (d : Bool) → is_due ss ≡ d → not (is_balanced h) ≡ d
    by_test ls some true e = by_balance (is_balanced h) refl e
    by_test ls some false e = ap not ((balanced-Decides h).1 (seated-calm w h ss ls seated some e))

    by_last : (o : Option (List Live)) → balanced h ≡ o → not (is_balanced h) ≡ (is_none o || is_due ss)
    by_last None none = ap (λ (o : Option (List Live)). not (option_map_or (pointwise is_same_live (lives (states h))) o false)) none
    by_last (Some ls) some = by_test ls some (is_due ss) refl

-- what is left after a history is left in its seats
pub seated-left : (w : ℕ) (h : List Event) (ss : List Seat) → IsSeated w h ss → left_in h ≡ left_by (is_balancing_due h ss) (jobs_in ss)
seated-left w h ss seated = ap (λ (b : Bool). left_by b (states h)) (balance-due w h ss seated) ∙ ap (left_by (is_balancing_due h ss)) seated.jobs

-- and where no balancing is due, or one is
left-when : (w : ℕ) (h : List Event) (ss : List Seat) (due : Bool) → IsSeated w h ss → is_balancing_due h ss ≡ due → left_in h ≡ left_by due (jobs_in ss)
left-when w h ss due seated e = seated-left w h ss seated ∙ ap (λ (b : Bool). left_by b (jobs_in ss)) e

-- where no job has changed since a balancing none is due
pub calm-due : (h : List Event) (ss : List Seat) (ls : List Live) → balanced h ≡ Some ls → is_due ss ≡ false → is_balancing_due h ss ≡ false
calm-due h ss ls some calm = ap (λ (o : Option (List Live)). is_none o || is_due ss) some ∙ calm

-- less is left after a balancing
pub left-balance : (w : ℕ) (h : List Event) (ss : List Seat) (vs : List ℕ) → IsSeated w h ss → IsFair w (live_asks (jobs_in ss)) vs → is_balancing_due h ss ≡ true → left_in (h ++ Balance (shares_by vs ss) ∷ []) < left_in h
left-balance w h ss vs seated fair due =
    let later : List Event = h ++ Balance (shares_by vs ss) ∷ [] in
    let now : left_in later ≡ left_by false (jobs_in (balanced_by vs ss)) = left-when w later (balanced_by vs ss) false (seated-balance w h ss vs seated fair due) (calm-due later (balanced_by vs ss) (lives (states h)) (balanced-push h (Balance (shares_by vs ss))) (calm-balanced 0 vs ss)) in
    let was : left_in h ≡ left_by true (jobs_in ss) = left-when w h ss true seated due in
    subst (λ (n : ℕ). n < left_in h) (sym now) (subst (λ (n : ℕ). left_by false (jobs_in (balanced_by vs ss)) < n) (sym was) (balance-less vs ss))

-- a seat that changes as little as the one before
pub due-set : (ss : List Seat) (n : ℕ) (s now : Seat) → slice_get ss n ≡ Some s → has_changed now ≡ has_changed s → is_due (slice_set ss n now) ≡ is_due ss
due-set [] n s now at same = refl
due-set (x ∷ xs) zero s now at same = let here : x ≡ s = cc in ap (λ (b : Bool). b || is_due xs) (same ∙ ap has_changed (sym here))
due-set (x ∷ xs) (suc n) s now at same = ap (λ (b : Bool). has_changed x || b) (due-set xs n s now at same)

-- less is left after an exchange
pub left-exchange : (w : ℕ) (h : List Event) (ss : List Seat) (n : ℕ) (s : Seat) → IsSeated w h ss → is_balancing_due h ss ≡ false → first_exchange ss ≡ Some n → slice_get ss n ≡ Some s → left_in (h ++ Exchange s.job.titled.key ∷ []) < left_in h
left-exchange w h ss n s seated calm first at =
    let later : List Event = h ++ Exchange s.job.titled.key ∷ [] in
    let seat : Seat = record s { job = and_own s.job Exchanged } in
    let still : is_balancing_due later (slice_set ss n seat) ≡ false = ap (λ (o : Option (List Live)). is_none o || is_due (slice_set ss n seat)) (balanced-push h (Exchange s.job.titled.key)) ∙ (ap (λ (b : Bool). is_none (balanced h) || b) (due-set ss n s seat at refl) ∙ calm) in
    let now : left_in later ≡ left_by false (jobs_in (slice_set ss n seat)) = left-when w later (slice_set ss n seat) false (seated-exchange w h ss n s seated calm first at) still in
    let was : left_in h ≡ left_by false (jobs_in ss) = left-when w h ss false seated calm in
    subst (λ (m : ℕ). m < left_in h) (sym now) (subst (λ (m : ℕ). left_by false (jobs_in (slice_set ss n seat)) < m) (sym was) (exchange-less ss n s first at))

-- the seat of a job after a start with its end
abbrev pub sliced_seat : Seat → ℕ → Outcome → Seat
sliced_seat s index outcome = record s { job = and_own (and_start s.job index 0) (Finished index outcome) }

pub seated-slice : (w : ℕ) (h : List Event) (ss : List Seat) (n : ℕ) (s : Seat) (index worker : ℕ) (outcome : Outcome) → IsSeated w h ss → slice_get ss n ≡ Some s → Allowed w h (Start s.job.titled.key index worker) → Allowed w (h ++ Start s.job.titled.key index worker ∷ []) (Finish s.job.titled.key index worker outcome) → IsSeated w ((h ++ Start s.job.titled.key index worker ∷ []) ++ Finish s.job.titled.key index worker outcome ∷ []) (slice_set ss n (sliced_seat s index outcome))
seated-slice w h ss n s index worker outcome seated at may ends =
    let begun : Seat = record s { job = and_start s.job index 0 } in
    let ended : Seat = record begun { job = and_own begun.job (Finished index outcome) } in
    let middle : List Seat = slice_set ss n begun in
    let later : List Event = (h ++ Start s.job.titled.key index worker ∷ []) ++ Finish s.job.titled.key index worker outcome ∷ [] in
    let started : IsSeated w (h ++ Start s.job.titled.key index worker ∷ []) middle = seated-start w h ss n s index worker 0 seated at may in
    let finished : IsSeated w later (slice_set middle n ended) = seated-finish w (h ++ Start s.job.titled.key index worker ∷ []) middle n begun index worker outcome started (set-get ss n s begun at) ends in
    subst (IsSeated w later) (set-set ss n begun ended) finished
  where
    set-get : (xs : List Seat) (m : ℕ) (x t : Seat) → slice_get xs m ≡ Some x → slice_get (slice_set xs m t) m ≡ Some t
    set-get [] m x t e = absurd (cc)
    set-get (y ∷ ys) zero x t e = refl
    set-get (y ∷ ys) (suc m) x t e = set-get ys m x t e

-- less is left after a start with its end that leaves less to its job
pub left-slice : (w : ℕ) (h : List Event) (ss : List Seat) (n : ℕ) (s : Seat) (index worker : ℕ) (outcome : Outcome) → IsSeated w h ss → slice_get ss n ≡ Some s → is_balancing_due h ss ≡ false → Allowed w h (Start s.job.titled.key index worker) → Allowed w (h ++ Start s.job.titled.key index worker ∷ []) (Finish s.job.titled.key index worker outcome) → left_of (after_start s.job.titled.state index outcome) < left_of s.job.titled.state → left_in ((h ++ Start s.job.titled.key index worker ∷ []) ++ Finish s.job.titled.key index worker outcome ∷ []) < left_in h
left-slice w h ss n s index worker outcome seated at calm may ends less =
    let ended : Seat = sliced_seat s index outcome in
    let later : List Event = (h ++ Start s.job.titled.key index worker ∷ []) ++ Finish s.job.titled.key index worker outcome ∷ [] in
    let seats : List Seat = slice_set ss n ended in
    let whole : IsSeated w later seats = seated-slice w h ss n s index worker outcome seated at may ends in
    let now : left_in later ≡ left_by (is_balancing_due later seats) (jobs_in seats) = seated-left w later seats whole in
    let was : left_in h ≡ left_by false (jobs_in ss) = left-when w h ss false seated calm in
    subst (λ (m : ℕ). m < left_in h) (sym now) (subst (λ (m : ℕ). left_by (is_balancing_due later seats) (jobs_in seats) < m) (sym was) (slice-less (is_balancing_due later seats) ss n s ended at less))
