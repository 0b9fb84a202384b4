use Rattle.mal_base.proofs.Tautologies.{lits-none, lits-rising, lits-same}
use Rattle.mal_base.proofs.clause.Clause.of_lits.Goals as goal

pub returns-clause-none : goal.returns-clause-none
returns-clause-none c =
    lits-none _ c.args.lits.now c.as_slice.result.now (rw c.as_slice.ensures.value c.in_ok-sorted.ensures.same) (rw c.as_slice.ensures.value c.in_ok-sorted.ensures.rising) c.of_rising.ensures

pub returns-clause-rising : goal.returns-clause-rising
returns-clause-rising c =
    lits-rising _ c.args.lits.now c.as_slice.result.now (rw c.as_slice.ensures.value c.in_ok-sorted.ensures.same) (rw c.as_slice.ensures.value c.in_ok-sorted.ensures.rising) c.of_rising.ensures

pub returns-clause-same : goal.returns-clause-same
returns-clause-same c =
    lits-same _ c.args.lits.now c.as_slice.result.now (rw c.as_slice.ensures.value c.in_ok-sorted.ensures.same) (rw c.as_slice.ensures.value c.in_ok-sorted.ensures.rising) c.of_rising.ensures
