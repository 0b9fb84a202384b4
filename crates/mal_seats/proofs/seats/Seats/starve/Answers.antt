use Rattle.std.proofs.Common.{◌≡◌, ap, ◌∙◌, rules}
use Rattle.mal_base.specs.declared.verdict.Outcome.TheVariants.{Starved}
use Rattle.spec_job.specs.SoloMachine.{Finished}
use Rattle.spec_job.specs.Viewed.{and_own}
use Rattle.spec_job.proofs.StepLemmas.{finish-keeps}
use Rattle.mal_seats.proofs.FilledLemmas.{volume_of}
use Rattle.mal_seats.proofs.NumberLemmas.{number_of}
use Rattle.mal_seats.proofs.seats.Seats.starve.Goals as goal

pub change-requires-clause-steady : goal.change-requires-clause-steady
change-requires-clause-steady c = λ s there r now gave.
    let is : now ≡ record s { job = and_own s.job (Finished c.args.index Starved) } = search rules in
    record { number = ap number_of is; volume = ap volume_of is ∙ (finish-keeps s.job.titled.state c.args.index Starved).volume }
