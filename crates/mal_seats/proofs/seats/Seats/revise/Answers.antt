use Rattle.std.proofs.Common.{refl, rules}
use Rattle.spec_job.specs.SoloMachine.{Revised}
use Rattle.spec_job.specs.Viewed.{and_own}
use Rattle.spec_hall.proofs.VolumeLemmas.{revise-keeps}
use Rattle.mal_seats.proofs.ChangedLemmas.{steady-if, stepped-same}
use Rattle.mal_seats.proofs.seats.Seats.revise.Goals as goal

pub change-requires-clause-steady : goal.change-requires-clause-steady
change-requires-clause-steady c = λ s there r now gave. steady-if r s now (record s { job = and_own s.job (Revised c.args.revision) }) (record { number = refl; volume = (revise-keeps s.job.titled.state c.args.revision).volume }) (search rules) (search rules)

pub returns-clause-err : goal.returns-clause-err
returns-clause-err c = stepped-same c.change.result _ _ _ _ c.change.ensures (λ s t gave. search rules)
