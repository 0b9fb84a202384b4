use Rattle.std.proofs.Common.{arith}
use Rattle.mal_freeze.proofs.BeginsLemmas.{image_spelled}
use Rattle.mal_freeze.proofs.thawing.thaw.Goals as goal

pub returns-in-Ok-clause-spelled : goal.returns-in-Ok-clause-spelled
returns-in-Ok-clause-spelled c = image_spelled c.args.bytes.now c.in-Ok.image (λ i. omega (arith, c.type_inv.bytes i)) c.in-Ok.ensures
