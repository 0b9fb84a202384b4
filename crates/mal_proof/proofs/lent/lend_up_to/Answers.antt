use Rattle.std.proofs.Common.{arith, ap, ◌≡◌, ◌∙◌}
use Rattle.mal_base.specs.NumberedClause.{Line}
use Rattle.mal_proof.proofs.Lending.{lent-low, lent-high}
use Rattle.mal_proof.proofs.lent.lend_up_to.Goals as goal
use Rattle.mal_proof.proofs.lent.lend_up_to.Goals.{then-number-bound+in_ok-push, else-number-bound}

pub loop-n-preserved : goal.loop-n-preserved
loop-n-preserved c =
    let id : c.number.result ≡ c.lend-line.result.id = c.number.ensures.value ∙ ap (λ (l : Line). l.id) c.line.view_is in
    let most : c.number-bound.result ≡ c.args.most = c.number-bound.ensures.value in
    elim c.if-number-bound.branch [
      | then-number-bound+in_ok-push w ↦
          rw w.all-is (lent-low c.args.lines.now.lines c.loop-n.n c.lend-line.result (omega arith) c.lend-line.ensures c.args.all.now.items c.loop-n.all.items w.push.new.self.items c.args.most (omega (arith, id, most, w.if-number-bound.true)) c.loop-n.invariant w.in_ok-push.ensures.items)
      | else-number-bound w ↦
          rw w.all-is (lent-high c.args.lines.now.lines c.loop-n.n c.lend-line.result (omega arith) c.lend-line.ensures c.args.all.now.items c.loop-n.all.items c.args.most (omega (arith, id, most, w.if-number-bound.false)) c.loop-n.invariant)
    ]
