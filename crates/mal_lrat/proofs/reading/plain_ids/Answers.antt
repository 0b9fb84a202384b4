use Rattle.std.proofs.Common.{rules, arith}
use Rattle.mal_lrat.proofs.Listing.{next-id}
use Rattle.mal_lrat.proofs.reading.plain_ids.Goals as goal

pub loop-number-preserved : goal.loop-number-preserved
loop-number-preserved c = next-id c.loop-number.rest.now c.in-Some.after.now c.in-Some.number c.loop-number.ids.items c.push_reserved.new.self.items _ c.in-Some.ensures.number (omega arith) c.in-Some.ensures.bound (search rules) c.loop-number.invariant
