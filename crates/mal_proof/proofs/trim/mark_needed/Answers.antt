use Rattle.std.proofs.Common.{arith, ap}
use Rattle.mal_base.specs.NumberedClause.{Line}
use Rattle.spec_proof.proofs.OrderLemmas.{ids-increase}
use Rattle.mal_proof.proofs.Trimming.{marks-start, back-with, back-without}
use Rattle.mal_proof.proofs.trim.mark_needed.Goals as goal

pub mark-requires-clause-rising : goal.mark-requires-clause-rising
mark-requires-clause-rising c = rw c.requires.ids (ids-increase c.args.lines.now c.requires.rising)

pub loop-n-init : goal.loop-n-init
loop-n-init c =
    let step = rw c.requires.ids at c.mark.ensures in
    marks-start c.args.goal c.args.lines.now c.args.marks.now c.mark.new.marks c.requires.none step

pub mark_all-requires-clause-rising : goal.mark_all-requires-clause-rising
mark_all-requires-clause-rising c = rw c.requires.ids (ids-increase c.args.lines.now c.requires.rising)

pub loop-n-preserved-then-marks-n : goal.loop-n-preserved-then-marks-n
loop-n-preserved-then-marks-n c =
    let step = rw c.requires.ids at c.mark_all.ensures in
    back-with c.args.goal c.args.lines.now c.loop-n.n c.loop-n.marks (omega arith) (omega arith) c.loop-n.invariant
    c.index-lines-n.result c.line.inside.hints.now c.mark_all.new.marks c.index-lines-n.is (ap (λ (l : Line). l.hints) c.line.view_is) c.if-marks-n.true step

pub loop-n-preserved : goal.loop-n-preserved
loop-n-preserved c = back-without c.args.goal c.args.lines.now c.loop-n.n c.loop-n.marks (omega arith) (omega arith) c.loop-n.invariant c.if-marks-n.false
