use Rattle.std.proofs.Common.{refl, arith}
use Rattle.mal_script.proofs.Counted.{sought-here, sought-later, sought-past, sought-none}
use Rattle.mal_script.proofs.script.ScriptJob.revision.Goals as goal
use Rattle.mal_script.proofs.script.ScriptJob.revision.Goals.{in-None, in-Some+else-left-eq0}

pub loop-step-init : goal.loop-step-init
loop-step-init c = refl

pub returns-then-left-eq0 : goal.returns-then-left-eq0
returns-then-left-eq0 c = sought-here c.args.self.now.steps c.args.at c.loop-step.step-index c.loop-step.left c.step-item.result c.in-Some.revision.now c.loop-step.invariant (rw c.steps-step-items.ensures at c.loop-step-test.true) (rw c.steps-step-items.ensures at c.step-item.is) c.in-Some.ensures c.if-left-eq0.true

pub loop-step-preserved : goal.loop-step-preserved
loop-step-preserved c =
    let low = rw c.steps-step-items.ensures at c.loop-step-test.true in
    let is = rw c.steps-step-items.ensures at c.step-item.is in
    elim c.match-revision_of.branch [
      | in-None w ↦ rw w.left-is (sought-past c.args.self.now.steps c.args.at c.loop-step.step-index c.loop-step.left c.step-item.result c.loop-step.invariant low is w.in-None.ensures)
      | in-Some+else-left-eq0 w ↦
          let less = w.left-is in
          let some = w.if-left-eq0.false in
          sought-later c.args.self.now.steps c.args.at c.loop-step.step-index c.loop-step.left c.match-revision_of.left c.step-item.result w.in-Some.revision.now c.loop-step.invariant low is w.in-Some.ensures (omega arith)
    ]

pub returns : goal.returns
returns c = sought-none c.args.self.now.steps c.args.at c.loop-step.step-index c.loop-step.left c.loop-step.invariant (rw c.steps-step-items.ensures at c.loop-step-test.false)
