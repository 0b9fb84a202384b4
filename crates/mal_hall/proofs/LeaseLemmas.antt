-- A hall in which a start or a finish was entered.
use Rattle.std.proofs.Common.{◌≡◌, ℕ, zero, suc, ◌+◌, ◌<◌, ◌≤◌, cond, List, [], ◌∷◌, ◌++◌, length, get_or, slice_get, slice_set, Option, Some, None, is_some, is_none, refl, sym, ◌∙◌, ap, arith}
use Rattle.std.proofs.lemmas.List.{map-set}
use Rattle.std.proofs.lemmas.List.Sums.{sum_by-cons}
use Rattle.std.proofs.lemmas.Option.{slice_get-map}
use Rattle.std.specs.Option.{option_map}
use Rattle.mal_base.specs.declared.verdict.Outcome.{Outcome}
use Rattle.spec_job.specs.SoloMachine.{Finished}
use Rattle.spec_job.specs.KeyedJob.{Key}
use Rattle.spec_job.specs.Viewed.{and_own, and_start}
use Rattle.spec_job.proofs.StepLemmas.{finish-keeps, start-keeps}
use Rattle.spec_hall.specs.Events.{Event, Start, Finish}
use Rattle.spec_hall.specs.Legal.{Allowed}
use Rattle.spec_hall.specs.Leases.{starts_in}
use Rattle.spec_hall.specs.Seats.{Seat}
use Rattle.spec_hall.specs.States.{Live}
use Rattle.spec_hall.specs.Spots.{Spot, Tag, tag_of, tags_of}
use Rattle.spec_hall.proofs.LeasesLemmas.{IsFree, start-free}
use Rattle.spec_hall.proofs.SeatLemmas.{reseated, seated-start, seated-finish}
use Rattle.spec_hall.proofs.PushLemmas.{balanced-push, names-push}
use Rattle.spec_hall.proofs.SpotLemmas.{and_started, set-count, starts-push, spots-start, spots-finish}
use Rattle.mal_hall.specs.HallView.{Inside, IsHall, out_in, owed_in, unclosed_in}
use Rattle.mal_hall.proofs.HallLemmas.{Grown, IsAsNoted, IsSettled, grown, noted-settled}
use Rattle.mal_hall.proofs.KeptLemmas.{unclosed-same}

-- how many leases are out where a spot is taken
abbrev one_out : Option Spot → ℕ
one_out o = cond (is_some o) 1 0

out-cons : (o : Option Spot) (os : List (Option Spot)) → out_in (o ∷ os) ≡ one_out o + out_in os
out-cons o os = sum_by-cons one_out o os

pub out-taken : (os : List (Option Spot)) (n : ℕ) (spot : Spot) → out_in (slice_set os n (Some spot)) ≤ out_in os + 1
out-taken [] n spot = omega arith
out-taken (o ∷ os) zero spot = omega (arith, out-cons o os, out-cons (Some spot) os)
out-taken (o ∷ os) (suc n) spot = omega (arith, out-cons o os, out-cons o (slice_set os n (Some spot)), out-taken os n spot)

-- and where one is left
pub out-left : (os : List (Option Spot)) (n : ℕ) (spot : Spot) → get_or os n None ≡ Some spot → out_in (slice_set os n None) + 1 ≡ out_in os
out-left [] n spot e = absurd (cc)
out-left (o ∷ os) zero spot e = let one : one_out o ≡ 1 = ap one_out e in omega (arith, one, out-cons o os, out-cons None os)
out-left (o ∷ os) (suc n) spot e = omega (arith, out-cons o os, out-cons o (slice_set os n None), out-left os n spot e)

seat-tag : (ss : List Seat) (n : ℕ) (s : Seat) → slice_get ss n ≡ Some s → slice_get (tags_of ss) n ≡ Some (tag_of s)
seat-tag ss n s at = slice_get-map tag_of ss n ∙ ap (option_map tag_of) at

-- a start was entered
pub hall-start : (x y : Inside) (at : ℕ) (s : Seat) (index w start : ℕ) → IsHall x → slice_get x.seats at ≡ Some s → w < x.entries.workers → Allowed x.entries.workers x.entries.events (Start s.job.titled.key index (suc w)) → start ≡ x.starts + 1 → y.entries.workers ≡ x.entries.workers → y.entries.events ≡ x.entries.events ++ Start s.job.titled.key index (suc w) ∷ [] → y.seats ≡ slice_set x.seats at (reseated s (and_start s.job index start)) → y.spots ≡ slice_set x.spots w (Some (record { job = s.job.number; index = index; start = start })) → y.starts ≡ start → y.unclosed ≡ x.unclosed → IsAsNoted x y → owed_in x.unclosed x.seats x.spots + 1 ≤ y.entries.room → Grown x y (Start s.job.titled.key index (suc w) ∷ [])
hall-start x y at s index w start hall sits low may next workers events seats spots starts unclosed noted room =
    let past : List Event = x.entries.events in
    let k : Key = s.job.titled.key in
    let now : Seat = reseated s (and_start s.job index start) in
    let seated = hall.seated in
    let free : IsFree past k index = start-free x.entries.workers past k index (suc w) seated.some_worker hall.bound seated.legal may in
    let tags : tags_of y.seats ≡ slice_set (tags_of x.seats) at (and_started (tag_of s) index start) = ap tags_of seats ∙ map-set tag_of x.seats at now in
    let count : start ≡ starts_in past + 1 = next ∙ ap (λ (n : ℕ). n + 1) hall.starts_is in
    let here = spots-start x.entries.workers past (tags_of x.seats) x.spots w at index start (tag_of s) (seat-tag x.seats at s sits) free.low low may.1.idle count free.home hall.spots in
    let e : Event = Start k index (suc w) in
    let settled : IsSettled past e = record { none = record { steps = λ j n. refl; counts = λ n. refl }; names = names-push past e; last = ap (λ (o : Option (List Live)). is_none o) (balanced-push past e) } in
    let long : length y.seats ≡ length x.seats = ap (λ (ss : List Seat). length ss) seats ∙ set-count x.seats at now in
    grown x y (Start k index (suc w) ∷ []) hall workers events (rw seats (seated-start x.entries.workers past x.seats at s index (suc w) start seated sits may)) (rw (tags, spots) here) (starts ∙ (count ∙ sym (starts-push past (Start k index (suc w))))) (unclosed ∙ (hall.unclosed_is ∙ (unclosed-same x.seats at s now sits (start-keeps s.job.titled.state index).closed ∙ ap unclosed_in (sym seats)))) (noted-settled x y e hall settled noted) (omega (arith, room, unclosed, ap out_in spots, long, out-taken x.spots w (record { job = s.job.number; index = index; start = start })))

-- a finish was entered
pub hall-finish : (x y : Inside) (at : ℕ) (s : Seat) (index w : ℕ) (outcome : Outcome) (spot : Spot) → IsHall x → slice_get x.seats at ≡ Some s → Allowed x.entries.workers x.entries.events (Finish s.job.titled.key index (suc w) outcome) → get_or x.spots w None ≡ Some spot → y.entries.workers ≡ x.entries.workers → y.entries.events ≡ x.entries.events ++ Finish s.job.titled.key index (suc w) outcome ∷ [] → y.seats ≡ slice_set x.seats at (reseated s (and_own s.job (Finished index outcome))) → y.spots ≡ slice_set x.spots w None → y.starts ≡ x.starts → y.unclosed ≡ x.unclosed → IsAsNoted x y → y.entries.room + 1 ≡ x.entries.room → Grown x y (Finish s.job.titled.key index (suc w) outcome ∷ [])
hall-finish x y at s index w outcome spot hall sits may taken workers events seats spots starts unclosed noted room =
    let past : List Event = x.entries.events in
    let k : Key = s.job.titled.key in
    let now : Seat = reseated s (and_own s.job (Finished index outcome)) in
    let tags : tags_of y.seats ≡ tags_of x.seats = ap tags_of seats ∙ (map-set tag_of x.seats at now ∙ set-back (tags_of x.seats) at (tag_of s) (seat-tag x.seats at s sits)) in
    let e : Event = Finish k index (suc w) outcome in
    let settled : IsSettled past e = record { none = record { steps = λ j n. refl; counts = λ n. refl }; names = names-push past e; last = ap (λ (o : Option (List Live)). is_none o) (balanced-push past e) } in
    let long : length y.seats ≡ length x.seats = ap (λ (ss : List Seat). length ss) seats ∙ set-count x.seats at now in
    let here = spots-finish x.entries.workers past (tags_of x.seats) x.spots w index k outcome hall.spots in
    grown x y (Finish k index (suc w) outcome ∷ []) hall workers events (rw seats (seated-finish x.entries.workers past x.seats at s index (suc w) outcome hall.seated sits may)) (rw (tags, spots) here) (starts ∙ (hall.starts_is ∙ sym (starts-push past (Finish k index (suc w) outcome)))) (unclosed ∙ (hall.unclosed_is ∙ (unclosed-same x.seats at s now sits (finish-keeps s.job.titled.state index outcome).closed ∙ ap unclosed_in (sym seats)))) (noted-settled x y e hall settled noted) (omega (arith, hall.room, room, unclosed, ap out_in spots, long, out-left x.spots w spot taken))
  where
    set-back : (ts : List Tag) (n : ℕ) (t : Tag) → slice_get ts n ≡ Some t → slice_set ts n t ≡ ts
    set-back [] n t e = refl
    set-back (u ∷ us) zero t e = let same : u ≡ t = cc in ap (λ (v : Tag). v ∷ us) (sym same)
    set-back (u ∷ us) (suc n) t e = ap (λ (vs : List Tag). u ∷ vs) (set-back us n t e)
