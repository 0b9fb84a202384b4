use Rattle.std.proofs.Common.{[], ◌∷◌, ◌+◌, ◌≤◌, length}
use Rattle.mal_cdcl.proofs.PastLemmas.{past-more}
use Rattle.mal_cdcl.proofs.node.Node.decide_literal.Goals as goal

pub invariant_of-self : goal.invariant_of-self
invariant_of-self g c =
    let n = c.self.inside in
    let handled : n.trail.processed ≤ length n.trail.entries + 1 = rw (← c.self.view_is) at c.requires.handled in
    rw (c.push.ensures.room, c.push.ensures.entries, c.push.ensures.processed) (c.self.invariant.0, g.met.E.Engine.fits_push n.engine n.trail.entries _ n.trail.processed handled c.self.invariant.1, past-more n.trail.entries (_ ∷ []) n.order n.assumptions.items n.passed c.self.invariant.2)
