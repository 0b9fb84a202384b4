use Rattle.std.proofs.Common.{◌++◌, ◌-◌, arith}
use Rattle.spec_max.specs.Counter.{adds}
use Rattle.mal_max.proofs.CounterLemmas.{adds-next}
use Rattle.mal_max.proofs.counter.Counter.push_adds.Goals as goal

pub loop-j-preserved : goal.loop-j-preserved
loop-j-preserved c = (omega arith, adds-next (c.args.clauses.now ++ adds c.args.self.variables c.args.self.count c.args.i c.args.lit 1 (c.args.self.count - 1)) c.loop-j.clauses c.push_rising.new.self c.args.self.variables c.args.self.count c.args.i c.args.lit c.loop-j.j c.output.result c.output-output.result (omega arith) c.in_ok-push_rising.ensures.ok c.output.ensures c.output-output.ensures c.loop-j.invariant.1)
