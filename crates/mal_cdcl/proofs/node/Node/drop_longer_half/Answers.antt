use Rattle.std.proofs.Common.{◌≡◌, List, length, ap, ◌∙◌, arith}
use Rattle.mal_base.specs.NumberedClause.{NumberedClause}
use Rattle.spec_node.specs.State.{Node}
use Rattle.spec_node.specs.Adding.{forgetting}
use Rattle.spec_learn.specs.Dropping.{to_drop}
use Rattle.mal_cdcl.specs.Within.{NodeWithRoom}
use Rattle.mal_cdcl.proofs.HeldCountLemmas.{within-fewer, rising-fewer}
use Rattle.mal_cdcl.proofs.node.Node.drop_longer_half.Goals as goal

pub choose_longer_half-requires : goal.choose_longer_half-requires
choose_longer_half-requires g c =
    let held : length (g.E.ClauseView.clauses c.self.inside.engine) ≡ length c.args.self.now.state.clauses = ap (λ (s : NodeWithRoom). length s.state.clauses) c.self.view_is ∙ ap (λ (m : Node). length m.clauses) c.cut.ensures.state in
    omega (arith, held, c.requires)

pub invariant_of-self : goal.invariant_of-self
invariant_of-self g c =
    let n = c.self.inside in
    let inv = c.self.invariant.0 in
    let held : List NumberedClause = g.E.ClauseView.clauses n.engine in (
      record {
        place = inv.place;
        small = inv.small;
        room = inv.room;
        assumed = inv.assumed;
        turned = inv.turned;
        ordered = inv.ordered;
        complete = inv.complete;
        phased = inv.phased;
        claused = rw c.forget.ensures.clauses (within-fewer n.variables _ held inv.claused);
        rising = rw c.forget.ensures.clauses (rising-fewer _ held inv.rising);
      },
      c.forget.ensures.fits n.trail.entries n.trail.processed c.self.invariant.1,
      c.self.invariant.2,
    )

pub returns-clause-state : goal.returns-clause-state
returns-clause-state g c =
    let same = ap (λ (s : NodeWithRoom). s.state) c.self.view_is ∙ c.cut.ensures.state in
    rw (c.forget.ensures.clauses, c.chosen_mut.ensures.value, c.choose_longer_half.ensures.chosen) (ap (λ (m : Node). record m { clauses = forgetting (to_drop m.trail m.clauses) m.clauses; conflicts_since_dropping = 0 }) same)
