use Rattle.std.proofs.Common.{sym}
use Rattle.mal_order.proofs.RingLemmas.{length-walk}
use Rattle.mal_order.proofs.ring.Ring.len.Goals as goal

pub returns : goal.returns
returns c = rw (← c.self.view_is) (sym (length-walk c.self.inside.after.numbers 0 c.self.inside.count))
