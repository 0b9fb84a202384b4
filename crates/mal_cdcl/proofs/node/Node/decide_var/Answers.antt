use Rattle.std.proofs.Common.{[], ◌∷◌, ◌+◌, ◌-◌, ◌<◌, ◌≤◌, false, refl, length, arith}
use Rattle.std.proofs.lemmas.List.{get_or_read}
use Rattle.mal_cdcl.proofs.PastLemmas.{past-more}
use Rattle.mal_cdcl.proofs.StepLemmas.{free_within, free_is, var_literal}
use Rattle.mal_cdcl.proofs.node.Node.decide_var.Goals as goal

pub index-positive-requires : goal.index-positive-requires
index-positive-requires g c =
    let n = c.self.inside in
    let found = rw (← c.self.view_is) at c.requires.found in
    omega (arith, free_within n.variables n.trail.entries n.order.list c.args.var c.self.invariant.0.ordered found, c.self.invariant.0.phased, c.number.ensures.value, c.number.ensures.some)

pub push-requires-clause-room : goal.push-requires-clause-room
push-requires-clause-room g c =
    let n = c.self.inside in
    let found = rw (← c.self.view_is) at c.requires.found in
    rw (c.literal.ensures, var_literal) (omega (arith, free_within n.variables n.trail.entries n.order.list c.args.var c.self.invariant.0.ordered found, c.self.invariant.0.room))

pub push-requires-clause-free : goal.push-requires-clause-free
push-requires-clause-free g c =
    let n = c.self.inside in
    let found = rw (← c.self.view_is) at c.requires.found in
    rw (c.literal.ensures, var_literal) (free_is n.trail.entries n.order.list c.args.var found)

pub invariant_of-self : goal.invariant_of-self
invariant_of-self g c =
    let n = c.self.inside in
    let handled : n.trail.processed ≤ length n.trail.entries + 1 = rw (← c.self.view_is) at c.requires.handled in
    rw (c.push.ensures.room, c.push.ensures.entries, c.push.ensures.processed) (c.self.invariant.0, g.met.E.Engine.fits_push n.engine n.trail.entries _ n.trail.processed handled c.self.invariant.1, past-more n.trail.entries (_ ∷ []) n.order n.assumptions.items n.passed c.self.invariant.2)

pub returns-clause-state : goal.returns-clause-state
returns-clause-state g c =
    let n = c.self.inside in
    let found = rw (← c.self.view_is) at c.requires.found in
    let in_phases : c.number.result - 1 < length n.phases.items = omega (arith, free_within n.variables n.trail.entries n.order.list c.args.var c.self.invariant.0.ordered found, c.self.invariant.0.phased, c.number.ensures.value, c.number.ensures.some) in
    let phase = get_or_read n.phases.items (c.number.result - 1) c.index-positive.result.now in_phases c.index-positive.ensures false in
    rw (c.push.ensures.entries, c.push.ensures.processed, c.level-level.ensures.value, c.literal.ensures, phase, c.number.ensures.value, ← c.self.view_is) refl
