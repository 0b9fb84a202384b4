use Rattle.std.proofs.Common.{sym}
use Rattle.mal_base.specs.NumberedClause.{NumberedClause}
use Rattle.mal_learn.proofs.ReasonLemmas.{reason-found, reason-more}
use Rattle.mal_learn.proofs.dropping.is_reason.Goals as goal

pub returns-then-has_reason : goal.returns-then-has_reason
returns-then-has_reason g c =
    let d : NumberedClause = record { id = c.args.id; lits = c.args.lits.now } in
    sym (reason-found (g.T.TrailView.entries c.args.trail.now) c.loop-place.place c.at.result d c.at.ensures (sym c.if-has_reason.ensures))

pub loop-place-preserved : goal.loop-place-preserved
loop-place-preserved g c =
    let d : NumberedClause = record { id = c.args.id; lits = c.args.lits.now } in
    reason-more (g.T.TrailView.entries c.args.trail.now) c.loop-place.place c.at.result d c.at.ensures (sym c.if-has_reason.ensures) c.loop-place.invariant
