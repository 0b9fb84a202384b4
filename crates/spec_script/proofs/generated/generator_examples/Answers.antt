use Rattle.std.proofs.Common.{refl}
use Rattle.std.specs.Fmt.{digits}
use Rattle.spec_script.specs.Generated.{variables}
use Rattle.spec_script.proofs.generated.generator_examples.Goals as goal

pub returns : goal.returns
unfolding variables digits
returns c = record { tenant = refl; again = refl; name = refl; priority = refl; literals = refl }
