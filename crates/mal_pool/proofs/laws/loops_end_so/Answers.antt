use Rattle.std.proofs.Common.{None}
use Rattle.mal_pool.proofs.LoopLaws.{says, bounded}
use Rattle.mal_pool.proofs.laws.loops_end_so.Goals as goal

pub returns-clause-so : goal.returns-clause-so
returns-clause-so c = λ stops w turns mine end r. says stops w turns mine end r

pub returns-clause-bounded : goal.returns-clause-bounded
returns-clause-bounded c = λ stops w turns mine end r. bounded stops w turns 0 None mine end r
