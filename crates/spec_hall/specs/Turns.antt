-- Turns of a hall whose first worker works alone, and its first live job.
use Rattle.std.specs.Prelude.{◌≡◌, ◌⊎◌, ℕ, zero, suc, false, List, [], ◌∷◌, ◌++◌, slice_get, Option, Some, Ok}
use Rattle.std.specs.Option.{option_map}
use Rattle.mal_base.specs.declared.verdict.Outcome.{Outcome}
use Rattle.spec_job.specs.KeyedJob.{Key}
use Rattle.spec_hall.specs.Calls.{HasCalled, Handed, Picks, Leased, Idle, AllDone}
use Rattle.spec_hall.specs.Driven.{was_lost}
use Rattle.spec_hall.specs.Events.{Event, Finish}
use Rattle.spec_hall.specs.States.{LeaseOut, lease_of, leases, lives, states}

-- the first worker of a hall picks, works its lease off and gives it back
pub record IsSlice (workers : ℕ) (past now : List Event) : Type 0 where
  pub lease : Handed
  pub mid : List Event
  pub picked : HasCalled workers past (Picks 1) (Ok (Leased lease)) mid
  pub out : LeaseOut
  pub is_out : lease_of 1 (leases mid) ≡ Some out
  pub outcome : Outcome
  pub came : was_lost outcome ≡ false
  pub grown : now ≡ mid ++ Finish out.key out.index 1 outcome ∷ []

-- it picks and gets no lease
abbrev pub HasWaited : ℕ → List Event → List Event → Type 0
HasWaited workers past now = HasCalled workers past (Picks 1) (Ok Idle) now ⊎ HasCalled workers past (Picks 1) (Ok AllDone) now

-- a hall's turn of so many slices, which ends before where the worker gets no lease
abbrev pub TakesTurn : ℕ → ℕ → List Event → List Event → Type 0
TakesTurn workers zero past now = now ≡ past
TakesTurn workers (suc n) past now = HasWaited workers past now ⊎ ((mid : List Event) × IsSlice workers past mid × TakesTurn workers n mid now)

-- the first live job of a hall
abbrev pub first_live : List Event → Option Key
first_live h = option_map (λ l. l.key) (slice_get (lives (states h)) 0)
