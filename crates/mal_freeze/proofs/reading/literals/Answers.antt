use Rattle.std.proofs.lemmas.Result.{err_from_is_err_and}
use Rattle.mal_freeze.specs.Reading.{many_at, literal_at}
use Rattle.mal_freeze.proofs.ManyLemmas.{goes_on, ends, is_done}
use Rattle.mal_freeze.proofs.reading.literals.Goals as goal

pub returns-in_err-code : goal.returns-in_err-code
returns-in_err-code c =
    let p = err_from_is_err_and c.from_residual.result c.from_residual.ensures.1 in
    rw (p.1, p.2) (ends c.in_err-code.field-0.0 (literal_at c.args.total c.args.greatest) c.loop.all.items c.args.count c.loop.counter c.loop.rest.now (many_at (literal_at c.args.total c.args.greatest) c.args.count c.args.bytes.now) c.loop-test.true c.in_err-code.ensures.value c.loop.invariant)

pub loop-preserved : goal.loop-preserved
loop-preserved c = rw (c.push_reserved.ensures.items, c.in_ok-reserve.ensures.items, c.literal_of.ensures) (goes_on (literal_at c.args.total c.args.greatest) c.loop.all.items c.args.count c.loop.counter c.loop.rest.now c.in_ok-code.code c.in_ok-code.after.now (many_at (literal_at c.args.total c.args.greatest) c.args.count c.args.bytes.now) c.loop-test.true c.in_ok-code.ensures.value c.loop.invariant)

pub returns : goal.returns
returns c = is_done (literal_at c.args.total c.args.greatest) c.loop.all.items c.args.count c.loop.counter c.loop.rest.now (many_at (literal_at c.args.total c.args.greatest) c.args.count c.args.bytes.now) c.loop-test.false c.loop.invariant
