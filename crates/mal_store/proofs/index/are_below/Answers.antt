use Rattle.std.proofs.Common.{arith}
use Rattle.mal_store.proofs.EntryLemmas.{all-below, test_lt}
use Rattle.mal_store.proofs.index.are_below.Goals as goal

pub returns : goal.returns
returns c = λ t k d l.
    let e = test_lt c.number.result c.args.number t in
    all-below c.args.entries.now c.args.number k c.index-entries-entries.result d c.requires.rising l c.index-entries-entries.is (omega (arith, e, c.number.ensures.value))
