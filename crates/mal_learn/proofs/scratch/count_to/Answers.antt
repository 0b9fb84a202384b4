use Rattle.std.proofs.Common.{◌∙◌, sym}
use Rattle.mal_learn.proofs.TraceLemmas.{reached-here, reached-step}
use Rattle.mal_learn.proofs.scratch.count_to.Goals as goal

pub returns-then-eq-clause-is : goal.returns-then-eq-clause-is
returns-then-eq-clause-is g c =
    let es = g.T.TrailView.entries c.args.trail.now in
    sym c.loop-made.invariant ∙ reached-here c.args.literal c.len-count.result c.loop-made.made es c.at.result c.len-count.ensures c.loop-made-test.true c.at.ensures (sym c.if-eq.ensures)

pub loop-made-preserved : goal.loop-made-preserved
loop-made-preserved g c =
    let es = g.T.TrailView.entries c.args.trail.now in
    sym (reached-step c.args.literal c.len-count.result c.loop-made.made es c.at.result c.len-count.ensures c.loop-made-test.true c.at.ensures (sym c.if-eq.ensures)) ∙ c.loop-made.invariant
