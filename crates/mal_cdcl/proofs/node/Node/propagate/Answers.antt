use Rattle.mal_cdcl.proofs.PastLemmas.{past-batch}
use Rattle.mal_cdcl.proofs.FillLemmas.{clauses_more}
use Rattle.mal_cdcl.proofs.node.Node.propagate.Goals as goal

pub propagate_one-self-inside-requires-clause-within : goal.propagate_one-self-inside-requires-clause-within
propagate_one-self-inside-requires-clause-within g c =
    let n = c.self.inside in
    clauses_more n.variables n.trail.room (g.E.ClauseView.clauses n.engine) c.self.invariant.0.room c.self.invariant.0.claused

pub invariant_of-self : goal.invariant_of-self
invariant_of-self g c =
    let n = c.self.inside in
    let e = c.propagate_one-self-inside.ensures in
    let past = past-batch n.trail.processed n.trail.entries c.propagate_one-self-inside.new.trail.entries (g.E.ClauseView.clauses n.engine) c.propagate_one-self-inside.result n.order n.assumptions.items n.passed e.progress c.self.invariant.2 in
    (rw (e.trail_room, e.clauses) c.self.invariant.0, e.fits, past)
