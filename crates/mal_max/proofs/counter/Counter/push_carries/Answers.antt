use Rattle.std.proofs.Common.{◌++◌, arith}
use Rattle.spec_max.specs.Counter.{carries}
use Rattle.mal_max.proofs.CounterLemmas.{carries-next}
use Rattle.mal_max.proofs.counter.Counter.push_carries.Goals as goal

pub loop-j-preserved : goal.loop-j-preserved
loop-j-preserved c = (omega arith, carries-next (c.args.clauses.now ++ carries c.args.self.variables c.args.self.count c.args.i 1 c.args.self.count) c.loop-j.clauses c.push_rising.new.self c.args.self.variables c.args.self.count c.args.i c.loop-j.j c.output.result c.output-in-loop-j.result (omega arith) c.in_ok-push_rising.ensures.ok c.output.ensures c.output-in-loop-j.ensures c.loop-j.invariant.1)
