-- Histories in which no job moves.
use Rattle.std.proofs.Common.{◌≡◌, ℕ, Bool, false, cond, List, [], ◌∷◌, ◌++◌, length, slice_get, Some, refl, sym, ◌∙◌, ap, arith, length-append}
use Rattle.std.specs.List.{list_any}
use Rattle.std.proofs.lemmas.Bool.{or_parts}
use Rattle.std.proofs.lemmas.List.Folds.{list_any-append}
use Rattle.mal_base.specs.Asks.{Terms}
use Rattle.spec_job.specs.KeyedJob.{Key}
use Rattle.spec_hall.specs.Events.{Event, Open, Revise, Reask, Close, Balance, Start, Finish, Exchange, Leave, Arrive, moves}
use Rattle.spec_hall.specs.Own.{is_key}
use Rattle.spec_hall.specs.States.{Live, balanced, comings_in, job_number, keys_of, keys_step, lives, names_of, names_step, states}
use Rattle.spec_hall.specs.Legal.{Allowed, Legal}
use Rattle.spec_hall.proofs.KeyLemmas.{key-differs, key-stands, is_key-back}
use Rattle.spec_hall.proofs.PushLemmas.{balanced-push, keys-push, names-push}
use Rattle.spec_hall.proofs.StatesLemmas.{legal_from-keeps}
use Rattle.spec_hall.proofs.ComingLemmas.{NoneComes, comings_in-push, number-comes, number-other, number-stays, open-comes}
use Rattle.spec_hall.proofs.SpotLemmas.{get-last}

-- the names are the keys of the jobs there, which are as many as came, the number of each is its place, and there was a
-- last balancing
pub record HasStayed (past : List Event) : Type 0 where
  pub names : names_of past ≡ keys_of past
  pub count : comings_in past ≡ length (keys_of past)
  pub number : (n : ℕ) (k : Key) → slice_get (keys_of past) n ≡ Some k → job_number k past ≡ n
  pub live : List Live
  pub last : balanced past ≡ Some live

-- so it is after an event that neither brings a job nor takes one away
none-stays : (past : List Event) (e : Event) (ls : List Live) → NoneComes e → keys_step (keys_of past) e ≡ keys_of past → names_step (names_of past) e ≡ names_of past → balanced (past ++ e ∷ []) ≡ Some ls → HasStayed past → HasStayed (past ++ e ∷ [])
none-stays past e ls none keys names last before = record {
  names = names-push past e ∙ (names ∙ (before.names ∙ sym now));
  count = comings_in-push past e ∙ (none.counts (comings_in past) ∙ (before.count ∙ ap (λ (ks : List Key). length ks) (sym now)));
  number = λ n k at. number-stays k past e none ∙ before.number n k (ap (λ (ks : List Key). slice_get ks n) (sym now) ∙ at);
  live = ls;
  last = last;
}
  where
    now : keys_of (past ++ e ∷ []) ≡ keys_of past
    now = keys-push past e ∙ keys

-- and after an opening
open-stays : (past : List Event) (k : Key) (ask : Terms) → list_any (is_key k) (names_of past) ≡ false → HasStayed past → HasStayed (past ++ Open k ask ∷ [])
open-stays past k ask fresh before = record {
  names = names-push past e ∙ (ap (λ (b : Bool). cond b (names_of past) (names_of past ++ k ∷ [])) fresh ∙ (ap (λ (ks : List Key). ks ++ k ∷ []) before.names ∙ sym now));
  count = omega (arith, comings_in-push past e, before.count, ap (λ (ks : List Key). length ks) now, length-append (keys_of past) (k ∷ []));
  number = λ n j at. numbered n j (ap (λ (ks : List Key). slice_get ks n) (sym now) ∙ at);
  live = before.live;
  last = balanced-push past e ∙ before.last;
}
  where
    e : Event
    e = Open k ask

    now : keys_of (past ++ e ∷ []) ≡ keys_of past ++ k ∷ []
    now = keys-push past e

    absent : list_any (is_key k) (keys_of past) ≡ false
    absent = ap (list_any (is_key k)) (sym before.names) ∙ fresh

    mine : job_number k (past ++ e ∷ []) ≡ length (keys_of past)
    mine = number-comes k past e (open-comes k ask) ∙ before.count

    others : (n : ℕ) (j : Key) → slice_get (keys_of past) n ≡ Some j → job_number j (past ++ e ∷ []) ≡ n
    others n j at = number-other j k past e (open-comes k ask) (is_key-back k j (key-differs (keys_of past) k j absent (key-stands (keys_of past) n j at))) ∙ before.number n j at

    numbered : (n : ℕ) (j : Key) → slice_get (keys_of past ++ k ∷ []) n ≡ Some j → job_number j (past ++ e ∷ []) ≡ n
    numbered = get-last (keys_of past) k (λ n j. job_number j (past ++ e ∷ []) ≡ n) mine others

event-stays : (w : ℕ) (past : List Event) (e : Event) → Allowed w past e → moves e ≡ false → HasStayed past → HasStayed (past ++ e ∷ [])
event-stays w past (Open k ask) may still before = open-stays past k ask may.fresh before
event-stays w past (Revise k number r) may still before = none-stays past (Revise k number r) before.live (record { steps = λ j n. refl; counts = λ n. refl }) refl refl (balanced-push past (Revise k number r) ∙ before.last) before
event-stays w past (Reask k weight) may still before = none-stays past (Reask k weight) before.live (record { steps = λ j n. refl; counts = λ n. refl }) refl refl (balanced-push past (Reask k weight) ∙ before.last) before
event-stays w past (Close k) may still before = none-stays past (Close k) before.live (record { steps = λ j n. refl; counts = λ n. refl }) refl refl (balanced-push past (Close k) ∙ before.last) before
event-stays w past (Balance shares) may still before = none-stays past (Balance shares) (lives (states past)) (record { steps = λ j n. refl; counts = λ n. refl }) refl refl (balanced-push past (Balance shares)) before
event-stays w past (Start k index worker) may still before = none-stays past (Start k index worker) before.live (record { steps = λ j n. refl; counts = λ n. refl }) refl refl (balanced-push past (Start k index worker) ∙ before.last) before
event-stays w past (Finish k index worker outcome) may still before = none-stays past (Finish k index worker outcome) before.live (record { steps = λ j n. refl; counts = λ n. refl }) refl refl (balanced-push past (Finish k index worker outcome) ∙ before.last) before
event-stays w past (Exchange k) may still before = none-stays past (Exchange k) before.live (record { steps = λ j n. refl; counts = λ n. refl }) refl refl (balanced-push past (Exchange k) ∙ before.last) before
event-stays w past (Leave k) may still before = absurd (cc)
event-stays w past (Arrive k brought) may still before = absurd (cc)

-- so it is in a legal history in which no event moves a job
pub has-stayed : (w : ℕ) (h : List Event) → Legal w h → list_any moves h ≡ false → HasStayed h
has-stayed w h legal = legal_from-keeps w (λ past. list_any moves past ≡ false → HasStayed past) step [] h legal (λ still. record { names = refl; count = refl; number = λ n k at. absurd (cc); live = []; last = refl })
  where
    step : (past : List Event) (e : Event) → Allowed w past e → (list_any moves past ≡ false → HasStayed past) → list_any moves (past ++ e ∷ []) ≡ false → HasStayed (past ++ e ∷ [])
    step past e may before still =
        let parts = or_parts (list_any moves past) (list_any moves (e ∷ [])) (sym (list_any-append moves past (e ∷ [])) ∙ still) in
        event-stays w past e may (or_parts (moves e) false parts.1).0 (before parts.0)
