use Rattle.mal_freeze.specs.Reading.{many_at}
use Rattle.mal_freeze.proofs.ManyLemmas.{goes_on, ends, is_done}
use Rattle.mal_freeze.proofs.reading.many.Goals as goal

pub returns-in-Err : goal.returns-in-Err
returns-in-Err g c = ends c.in-Err.fault (g.F.Field.at c.args.total c.args.greatest) c.loop.all.items c.args.count c.loop.counter c.loop.rest.now (many_at (g.F.Field.at c.args.total c.args.greatest) c.args.count c.args.bytes.now) c.loop-test.true c.in-Err.ensures c.loop.invariant

pub loop-preserved : goal.loop-preserved
loop-preserved g c = rw (c.push_reserved.ensures.items, c.in_ok-reserve.ensures.items) (goes_on (g.F.Field.at c.args.total c.args.greatest) c.loop.all.items c.args.count c.loop.counter c.loop.rest.now c.in-Ok.read.0 c.in-Ok.read.1.now (many_at (g.F.Field.at c.args.total c.args.greatest) c.args.count c.args.bytes.now) c.loop-test.true c.in-Ok.ensures c.loop.invariant)

pub returns : goal.returns
returns g c = is_done (g.F.Field.at c.args.total c.args.greatest) c.loop.all.items c.args.count c.loop.counter c.loop.rest.now (many_at (g.F.Field.at c.args.total c.args.greatest) c.args.count c.args.bytes.now) c.loop-test.false c.loop.invariant
