use Rattle.std.proofs.Common.{refl}
use Rattle.spec_seq.specs.Luby.{luby}
use Rattle.spec_seq.proofs.sequence_examples.Goals as goal

pub returns : goal.returns
unfolding luby
returns c = record { luby_begins = refl; first_draws = refl }
