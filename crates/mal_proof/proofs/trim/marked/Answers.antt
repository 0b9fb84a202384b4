use Rattle.std.proofs.Common.{arith, ap, ◌∙◌, ◌∷◌, [], ◌++◌, sym}
use Rattle.mal_base.specs.NumberedClause.{Line}
use Rattle.mal_proof.proofs.Trimming.{test-at, marked-with, marked-without}
use Rattle.mal_proof.proofs.trim.marked.Goals as goal
use Rattle.mal_proof.proofs.trim.marked.Goals.{then-marks-place+in_ok-push, else-marks-place}

pub loop-place-preserved : goal.loop-place-preserved
loop-place-preserved c = λ test e.
    let none : Line = record { id = 0; lits = []; hints = [] } in
    elim c.if-marks-place.branch [
      | then-marks-place+in_ok-push w ↦
          rw w.out-is (marked-with test c.args.lines.now c.loop-place.out.lines w.push.new.lines.lines c.loop-place.place w.index-lines-place.result w.index-lines-place.result (omega arith) w.index-lines-place.is
          (sym (test-at test c.args.lines.now c.args.marks.now c.loop-place.place w.index-lines-place.result (omega arith) e) ∙ w.if-marks-place.true)
          (c.loop-place.invariant test e) (w.in_ok-push.ensures ∙ ap (λ (l : Line). c.loop-place.out.lines ++ l ∷ []) w.line.view_is))
      | else-marks-place w ↦
          rw w.out-is (marked-without test c.args.lines.now c.loop-place.out.lines c.loop-place.place none (omega arith)
          (sym (test-at test c.args.lines.now c.args.marks.now c.loop-place.place none (omega arith) e) ∙ w.if-marks-place.false) (c.loop-place.invariant test e))
    ]
