use Rattle.spec_live.proofs.LossLemmas.{call-loses_none}
use Rattle.spec_live.proofs.CallLemmas.{call-moves_none, call-posts_by}
use Rattle.spec_live.proofs.call_posts_by.Goals as goal

pub returns-clause-posts : goal.returns-clause-posts
returns-clause-posts c = call-posts_by

pub returns-clause-moves : goal.returns-clause-moves
returns-clause-moves c = call-moves_none

pub returns-clause-losses : goal.returns-clause-losses
returns-clause-losses c = call-loses_none
