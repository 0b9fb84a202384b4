use Rattle.std.proofs.Common.{[], ◌∷◌, ◌+◌, ◌≤◌, length, arith, sym, ◌∙◌}
use Rattle.mal_trail.proofs.TrailLemmas.{free_from_open}
use Rattle.mal_cdcl.proofs.PastLemmas.{past-more}
use Rattle.mal_cdcl.proofs.StepLemmas.{open_within, open_is}
use Rattle.mal_cdcl.proofs.node.Node.assume.Goals as goal

pub push-requires-clause-room : goal.push-requires-clause-room
push-requires-clause-room g c =
    let n = c.self.inside in
    let found = rw (← c.self.view_is) at c.requires.found in
    omega (arith, open_within n.variables n.trail.entries n.assumptions.items c.args.lit c.self.invariant.0.assumed found, c.self.invariant.0.room)

pub push-requires-clause-free : goal.push-requires-clause-free
push-requires-clause-free g c =
    let n = c.self.inside in
    let found = rw (← c.self.view_is) at c.requires.found in
    free_from_open n.trail.entries c.args.lit (open_is n.trail.entries n.assumptions.items c.args.lit found) (sym c.is_false.ensures ∙ c.if-is_false.false)

pub invariant_of-self : goal.invariant_of-self
invariant_of-self g c =
    let n = c.self.inside in
    let handled : n.trail.processed ≤ length n.trail.entries + 1 = rw (← c.self.view_is) at c.requires.handled in
    rw (c.push.ensures.room, c.push.ensures.entries, c.push.ensures.processed) (c.self.invariant.0, g.met.E.Engine.fits_push n.engine n.trail.entries _ n.trail.processed handled c.self.invariant.1, past-more n.trail.entries (_ ∷ []) n.order n.assumptions.items n.passed c.self.invariant.2)
