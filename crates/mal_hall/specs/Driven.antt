-- A hall that is driven, turn by turn.
use Rattle.std.specs.Prelude.{◌≡◌, ℕ, ◌<◌, Bool, true, false, List, [], Result, Err, IfErr, IfOk}
use Rattle.mal_base.specs.declared.hall_fault.PickFault.TheVariants.{OutOfMemory}
use Rattle.spec_hall.specs.Calls.{Finishes, HasCalled, Picks, Return}
use Rattle.spec_hall.specs.Driven.{GrowsByTurns, IsAtEnd}
use Rattle.spec_hall.specs.Events.{Event}
use Rattle.spec_hall.specs.Measure.{left_in}
use Rattle.spec_hall.specs.States.{leases, lives, states}
use Rattle.spec_hall.specs.Turns.{HasWaited, IsSlice}
use Rattle.spec_job.specs.Leased.{Becomes, Finished, Leased}

-- a lease was worked off, and what came of it was given back
pub record HasWorkedOff (workers : ℕ) (past : List Event) (lease : Leased) (now : List Event) : Type 0 where
  pub done : Finished
  pub worker : done.worker ≡ lease.worker
  pub becomes : Becomes done.outcome lease done
  pub answer : Return
  pub given : HasCalled workers past (Finishes done) answer now

-- what a turn leaves, after which nothing is out: true where a lease was worked off, false where the worker got none
-- and nothing was left to do, and an error where its pick ran out of memory, after which nothing was done
pub record IsTurn {E : Type 0} (workers : ℕ) (past : List Event) (went : Result Bool E) (now : List Event) : Type 0 where
  pub turns : GrowsByTurns workers past now
  pub home : leases now ≡ []
  pub end : IfOk went (λ b. b ≡ false → IsAtEnd now)
  pub answered : IfOk went (λ b. b ≡ false → lives (states now) ≡ [])
  pub less : IfOk went (λ b. b ≡ true → left_in now < left_in past)
  pub slice : IfOk went (λ b. b ≡ true → IsSlice workers past now)
  pub waited : IfOk went (λ b. b ≡ false → HasWaited workers past now)
  pub wanting : IfErr went (λ e. HasCalled workers past (Picks 1) (Err OutOfMemory) now)
