use Rattle.std.proofs.Common.{◌<◌, length, sym, arith}
use Rattle.mal_base.specs.NumberedClause.{NumberedClause}
use Rattle.mal_freeze.proofs.ListLemmas.{take-at}
use Rattle.mal_cdcl.proofs.ImageLemmas.{got, rises-at}
use Rattle.mal_cdcl.proofs.copies.clauses_of.Goals as goal

pub copied-requires : goal.copied-requires
copied-requires g c =
    let clauses = g.E.ClauseView.clauses c.args.engine.now in
    let held : NumberedClause = record { id = c.clause_at-id.result.0; lits = c.clause_at-id.result.1.now } in
    let below : c.loop-place.place < length clauses = omega (arith, c.count-place-end.ensures) in
    rises-at clauses c.loop-place.place held held c.requires below (got clauses c.loop-place.place held held c.clause_at-id.ensures)

pub loop-place-preserved : goal.loop-place-preserved
loop-place-preserved g c =
    let clauses = g.E.ClauseView.clauses c.args.engine.now in
    let held : NumberedClause = record { id = c.clause_at-id.result.0; lits = c.clause_at-id.result.1.now } in
    let below : c.loop-place.place < length clauses = omega (arith, c.count-place-end.ensures) in
    rw (c.in_ok-push.ensures.items, c.in_ok-copied.ensures, c.loop-place.invariant) (sym (take-at clauses c.loop-place.place held held below (got clauses c.loop-place.place held held c.clause_at-id.ensures)))
