use Rattle.std.proofs.Common.{refl}
use Rattle.mal_freeze.specs.Spelling.{spelled}
use Rattle.mal_freeze.proofs.laws.fresh_bytes.Goals as goal

pub returns : goal.returns
unfolding spelled
returns c = record { first = refl; second = refl }
