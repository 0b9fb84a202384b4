use Rattle.std.proofs.Common.{◌<◌, length, bytes_eq, arith}
use Rattle.mal_base.specs.NumberedClause.{NumberedClause}
use Rattle.mal_cdcl.proofs.ImageLemmas.{got}
use Rattle.mal_cdcl.proofs.PickLemmas.{noted-next}
use Rattle.mal_cdcl.proofs.import_filter.note_held.Goals as goal

pub loop-place-preserved : goal.loop-place-preserved
loop-place-preserved g c = λ lits exported.
    let clauses = g.E.ClauseView.clauses c.args.engine.now in
    let held : NumberedClause = record { id = c.clause_at-id.result.0; lits = c.clause_at-id.result.1.now } in
    let below : c.loop-place.place < length clauses = omega (arith, c.count-place-end.ensures) in
    noted-next (λ (d : NumberedClause). bytes_eq lits d.lits) clauses c.loop-place.place held held below (got clauses c.loop-place.place held held c.clause_at-id.ensures) _ _ _ (c.loop-place.invariant lits exported) (c.in_ok-note_if_exported.ensures lits exported)
