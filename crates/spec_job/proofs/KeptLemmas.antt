-- What is kept of a machine that is run on own events that may happen.
use Rattle.std.proofs.Common.{◌+◌, List, [], ◌++◌, length}
use Rattle.mal_base.specs.Asks.{Terms}
use Rattle.spec_job.specs.SoloMachine.{Own, SoloMachine, unopened, solo, solo_step}
use Rattle.spec_job.specs.Proofs.{LogIsDerived}
use Rattle.spec_job.specs.Runnable.{MayHappen, IsRunnable}
use Rattle.spec_job.proofs.PushLemmas.{events-keep}
use Rattle.spec_job.proofs.SolvingLemmas.{IsSolvingSolo}
use Rattle.spec_job.proofs.SolvedLemmas.{step-solving, opened-solving}
use Rattle.spec_job.proofs.TrackedLemmas.{log-all}
use Rattle.spec_job.proofs.DerivingLemmas.{IsDerivingSolo}
use Rattle.spec_job.proofs.RunningLemmas.{may-lease}
use Rattle.spec_job.proofs.FinishingLemmas.{step-deriving, opened-deriving}
use Rattle.spec_job.proofs.CalmLemmas.{AreCalmIn, step-calm, opened-calm}

-- all that is kept of a machine
pub record MachineInvariant (s : SoloMachine) : Type 0 where
  pub solving : IsSolvingSolo s
  pub derives : IsDerivingSolo s
  pub calm : AreCalmIn s

pub step-kept : (s : SoloMachine) (o : Own) → MayHappen s o → MachineInvariant s → MachineInvariant (solo_step s o)
step-kept s o may h = record { solving = step-solving s o may (may-lease s h.solving h.calm h.derives) h.solving; derives = step-deriving s o may h.solving h.calm h.derives; calm = step-calm s o may h.solving h.calm }

-- the machine that is opened, and the one before its first event
pub opened-kept : (ask : Terms) → MachineInvariant (record unopened { ask = ask })
opened-kept ask = record { solving = opened-solving ask; derives = opened-deriving ask; calm = opened-calm ask }

pub unopened-kept : MachineInvariant unopened
unopened-kept = opened-kept unopened.ask

events-kept : (past events : List Own) → IsRunnable past events → MachineInvariant (solo past) → MachineInvariant (solo (past ++ events))
events-kept past events may h = events-keep MachineInvariant IsRunnable (λ before o os q k. (step-kept (solo before) o q.0 k, q.1)) past events may h

pub runnable-kept : (events : List Own) → IsRunnable [] events → MachineInvariant (solo events)
runnable-kept events may = events-kept [] events may unopened-kept

pub kept-log : (s : SoloMachine) → MachineInvariant s → LogIsDerived s
kept-log s h = log-all s.revisions (length s.answers + 1) s.log h.solving.room h.derives.derived

-- a machine that was run on own events that may happen solves
pub runnable-solving : (events : List Own) → IsRunnable [] events → IsSolvingSolo (solo events)
runnable-solving events may = (runnable-kept events may).solving
