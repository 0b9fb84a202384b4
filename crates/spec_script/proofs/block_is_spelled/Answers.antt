use Rattle.spec_script.proofs.Blocks.{block-is_spelled}
use Rattle.spec_script.proofs.block_is_spelled.Goals as goal

pub returns : goal.returns
returns c = block-is_spelled
