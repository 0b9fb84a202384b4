use Rattle.std.proofs.Common.{arith}
use Rattle.mal_marks.proofs.MarkLemmas.{all-below, test_lt}
use Rattle.mal_marks.proofs.search.are_below.Goals as goal

pub returns : goal.returns
returns c = λ t k d l.
    let e = test_lt c.number.result c.args.number t in
    all-below c.args.marks.now c.args.number k c.index-marks-marks.result d c.requires.rising l c.index-marks-marks.is (omega (arith, e, c.number.ensures.value))
