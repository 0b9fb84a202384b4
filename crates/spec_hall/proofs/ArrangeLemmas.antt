-- What is due, event by event.
use Rattle.std.proofs.Common.{◌≡◌, ℕ, ◌≤◌, List, [], ◌∷◌, ◌++◌, map, Some, refl, sym, ◌∙◌, subst, append_assoc, append-nil}
use Rattle.std.specs.List.{list_all}
use Rattle.std.proofs.lemmas.Bool.{and_from, and_parts}
use Rattle.mal_history.specs.declared.event.Share.{Share}
use Rattle.spec_job.specs.SoloMachine.{Exchanged}
use Rattle.spec_hall.specs.Calls.{AreDue, arranges}
use Rattle.spec_hall.proofs.BalanceLemmas.{seated-balance}
use Rattle.spec_hall.proofs.MeasureLemmas.{calm-balanced}
use Rattle.spec_job.specs.KeyedJob.{Key}
use Rattle.spec_job.specs.Viewed.{and_own}
use Rattle.spec_hall.specs.Events.{Event, Balance, Exchange}
use Rattle.spec_hall.specs.Legal.{Allowed, Legal}
use Rattle.spec_hall.specs.Seats.{Seat, balanced_by, shares_by}
use Rattle.spec_hall.specs.States.{balanced, lives, states}
use Rattle.spec_hall.proofs.DueLemmas.{seated-calm}
use Rattle.spec_hall.proofs.LeftLemmas.{due-set}
use Rattle.spec_hall.proofs.PushLemmas.{balanced-push}
use Rattle.spec_hall.proofs.SeatLemmas.{reseated, seats-touch}
use Rattle.spec_hall.proofs.SeatedLemmas.{HasSeats, IsBalancedBy, balance-facts, legal-seats}
use Rattle.spec_hall.proofs.TouchLemmas.{exchange-touches}
use Rattle.spec_hall.proofs.TurnLemmas.{IsExchangeOf, exchange-seat}

-- an exchange makes no balancing due
pub exchange-calm : (w : ℕ) (h : List Event) (k : Key) → 1 ≤ w → Legal w h → Allowed w h (Exchange k) → Some (lives (states (h ++ Exchange k ∷ []))) ≡ balanced (h ++ Exchange k ∷ [])
exchange-calm w h k some legal may =
    let has : HasSeats w h = legal-seats w h some legal in
    let x : IsExchangeOf w h has.seats k = exchange-seat w h has.seats k has.are may in
    let now : Seat = reseated x.seat (and_own x.seat.job Exchanged) in
    let mine : Allowed w h (Exchange x.seat.job.titled.key) = subst (λ (j : Key). Allowed w h (Exchange j)) (sym x.key) may in
    let after = seats-touch w h has.seats x.at x.seat (Exchange x.seat.job.titled.key) Exchanged (and_own x.seat.job Exchanged) has.are x.is mine (exchange-touches x.seat.job.titled.key) refl refl in
    subst (λ (j : Key). Some (lives (states (h ++ Exchange j ∷ []))) ≡ balanced (h ++ Exchange j ∷ [])) x.key (seated-calm w (h ++ Exchange x.seat.job.titled.key ∷ []) _ (lives (states h)) after (balanced-push h (Exchange x.seat.job.titled.key) ∙ sym may.1.balance) (due-set has.seats x.at x.seat now x.is refl ∙ x.calm))

-- after a balancing none is due
pub balance-calm : (w : ℕ) (h : List Event) (shares : List Share) → 1 ≤ w → Legal w h → Allowed w h (Balance shares) → Some (lives (states (h ++ Balance shares ∷ []))) ≡ balanced (h ++ Balance shares ∷ [])
balance-calm w h shares some legal may =
    let has : HasSeats w h = legal-seats w h some legal in
    let vs : List ℕ = map (λ (s : Share). s.volume) shares in
    let facts : IsBalancedBy w h shares has.seats = balance-facts w h shares may has in
    let after = seated-balance w h has.seats vs has.are facts.fair facts.due in
    subst (λ (xs : List Share). Some (lives (states (h ++ Balance xs ∷ []))) ≡ balanced (h ++ Balance xs ∷ [])) (sym facts.same) (seated-calm w (h ++ Balance (shares_by vs has.seats) ∷ []) (balanced_by vs has.seats) (lives (states h)) after (balanced-push h (Balance (shares_by vs has.seats))) (calm-balanced 0 vs has.seats))

-- what is due, and more after it
pub due-more : (w : ℕ) (past es fs : List Event) → AreDue w past es → AreDue w (past ++ es) fs → AreDue w past (es ++ fs)
due-more w past [] fs one two = subst (λ (h : List Event). AreDue w h fs) (append-nil past) two
due-more w past (e ∷ es) fs one two =
    let parts = and_parts (arranges e) (list_all arranges es) one.kinds in
    let rest : AreDue w (past ++ e ∷ []) (es ++ fs) = due-more w (past ++ e ∷ []) es fs (record { kinds = parts.1; legal = one.legal.1 }) (subst (λ (h : List Event). AreDue w h fs) (sym (append_assoc past (e ∷ []) es)) two) in
    record { kinds = and_from (arranges e) (list_all arranges (es ++ fs)) parts.0 rest.kinds; legal = (one.legal.0, rest.legal) }
