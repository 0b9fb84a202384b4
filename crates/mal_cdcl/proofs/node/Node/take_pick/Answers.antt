use Rattle.std.proofs.Common.{◌≡◌, List, ap, ◌∙◌, arith}
use Rattle.mal_base.specs.NumberedClause.{NumberedClause}
use Rattle.spec_node.specs.State.{Node}
use Rattle.mal_cdcl.specs.Within.{NodeWithRoom}
use Rattle.mal_cdcl.specs.Importing.{AreNewTo}
use Rattle.mal_cdcl.proofs.ImportingLemmas.{within-new, rising-new}
use Rattle.mal_cdcl.proofs.node.Node.take_pick.Goals as goal

pub invariant_of-self : goal.invariant_of-self
invariant_of-self g c =
    let n = c.self-2.inside in
    let inv = c.self-2.invariant.0 in
    let held : List NumberedClause = g.E.ClauseView.clauses n.engine in
    let same : held ≡ c.args.self.now.state.clauses = ap (λ (s : NodeWithRoom). s.state.clauses) c.self-2.view_is ∙ ap (λ (m : Node). m.clauses) c.cut.ensures.state in
    let variables : n.variables ≡ c.args.self.now.state.variables = ap (λ (s : NodeWithRoom). s.state.variables) c.self-2.view_is ∙ ap (λ (m : Node). m.variables) c.cut.ensures.state in
    let new : AreNewTo held n.variables c.args.exported.now = rw (same, variables) c.requires.new in (
      record {
        place = inv.place;
        small = inv.small;
        room = omega (arith, inv.room, c.set_processed.ensures.room);
        assumed = inv.assumed;
        turned = inv.turned;
        ordered = inv.ordered;
        complete = inv.complete;
        phased = inv.phased;
        claused = rw c.add_imported.ensures.clauses (within-new n.variables c.args.exported.now held new inv.claused);
        rising = rw c.add_imported.ensures.clauses (rising-new n.variables c.args.exported.now held new inv.rising);
      },
      c.add_imported.ensures.fits,
      rw c.set_processed.ensures.entries c.self-2.invariant.2,
    )
