use Rattle.std.proofs.Common.{arith, ◌≢◌, ◌∙◌, [], get_or, sym}
use Rattle.std.proofs.lemmas.Bool.{eqb-false}
use Rattle.std.proofs.lemmas.Option.{slice_get-get_or}
use Rattle.std.proofs.lemmas.List.Elements.{All-more}
use Rattle.mal_base.specs.NumberedClause.{Line}
use Rattle.mal_solver_tests.proofs.tests.logs.is_fresh.Goals as goal

pub loop-n-preserved : goal.loop-n-preserved
loop-n-preserved c =
    let none : Line = record { id = 0; lits = []; hints = [] } in
    All-more (λ (other : Line). other.id ≢ c.args.id) c.args.log.now.lines c.loop-n.n none (omega arith) c.loop-n.invariant
    (λ e. eqb-false c.id.result c.args.id (sym c.if-eq.ensures) (c.id.ensures (get_or c.args.log.now.lines c.loop-n.n none) (slice_get-get_or c.args.log.now.lines c.loop-n.n none (omega arith)) ∙ e))
