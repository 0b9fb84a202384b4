use Rattle.std.proofs.Common.{◌≡◌, ◌-◌, ◌≤◌, List, length, refl, ap, ◌∙◌, arith}
use Rattle.std.specs.Prelude.{max}
use Rattle.mal_base.specs.NumberedClause.{NumberedClause}
use Rattle.spec_node.specs.State.{Node}
use Rattle.spec_node.proofs.SoundLemmas.{loaded-numbers}
use Rattle.mal_cdcl.specs.Within.{NodeWithRoom, NodeRoom}
use Rattle.mal_cdcl.proofs.FillLemmas.{posted_parts, clauses_of_more, lits_more, order-loaded, order-long, within-loaded}
use Rattle.mal_cdcl.proofs.node.Node.load_reserved.Goals as goal

pub add_clauses-requires-clause-within : goal.add_clauses-requires-clause-within
add_clauses-requires-clause-within g c =
    let r = c.args.revision.now in
    let parts = posted_parts r c.variables-variables.ensures.form in
    let engine : g.E.Engine.room c.self-2.inside.engine ≡ c.args.self.now.spare.engine = ap (λ (s : NodeWithRoom). s.spare.engine) c.self-2.view_is ∙ ap (λ (s : NodeRoom). s.engine) c.cut.ensures.spare in
    let bound : r.variables ≤ c.args.self.now.spare.engine.variables = omega (arith, c.requires.room.variables) in
    rw (c.clauses.ensures.value, engine) (clauses_of_more r.variables c.args.self.now.spare.engine.variables r.clauses bound parts.claused)

pub invariant_of-self : goal.invariant_of-self
invariant_of-self g c =
    let r = c.args.revision.now in
    let n = c.self-2.inside in
    let inv = c.self-2.invariant.0 in
    let parts = posted_parts r c.variables-variables.ensures.form in
    let held : List NumberedClause = g.E.ClauseView.clauses n.engine in
    let same : held ≡ c.args.self.now.state.clauses = ap (λ (s : NodeWithRoom). s.state.clauses) c.self-2.view_is ∙ ap (λ (s : Node). s.clauses) c.cut.ensures.state in
    let variables : n.variables ≡ c.args.self.now.state.variables = ap (λ (s : NodeWithRoom). s.state.variables) c.self-2.view_is ∙ ap (λ (s : Node). s.variables) c.cut.ensures.state in
    let before : c.self.inside.variables ≡ c.args.self.now.state.variables = ap (λ (s : NodeWithRoom). s.state.variables) c.self.view_is in
    let trail : n.trail.room ≡ c.args.self.now.spare.trail = ap (λ (s : NodeWithRoom). s.spare.trail) c.self-2.view_is ∙ ap (λ (s : NodeRoom). s.trail) c.cut.ensures.spare in
    let added : c.saturating_sub-added.result ≡ r.variables - n.variables = omega (arith, c.saturating_sub-added.ensures, c.variables-variables.ensures.value, variables, before) in
    let most : c.max-self-inside.result ≡ max n.variables r.variables = omega (arith, c.max-self-inside.ensures, c.variables-variables.ensures.value) in (
      rw (c.replace.ensures.items, c.assumptions.ensures.value, c.add_clauses.ensures.clauses, c.clauses.ensures.value) (record {
        place = inv.place;
        small = omega (arith, most, inv.small, parts.small);
        room = omega (arith, most, c.requires.room.trail, trail, variables, c.set_processed.ensures.room);
        assumed = lits_more r.variables c.max-self-inside.result r.assumptions (omega (arith, most)) parts.assumed;
        turned = c.append_reserved.ensures.index ∙ (c.rewind.ensures.index ∙ inv.turned);
        ordered = rw (c.append_reserved.ensures.list, c.rewind.ensures.list, c.rewind.ensures.index, inv.turned, inv.complete) (order-loaded n.index n.variables c.saturating_sub-added.result c.max-self-inside.result n.order.list inv.place (omega (arith, most, added)) inv.ordered);
        complete = rw (c.append_reserved.ensures.list, c.rewind.ensures.list, c.rewind.ensures.index) (omega (arith, order-long n.order.index (length n.order.list) c.saturating_sub-added.result n.order.list (omega (arith, inv.turned, inv.place)), inv.complete, most, added));
        phased = omega (arith, c.push_phases.ensures.len, inv.phased, most, added);
        claused = within-loaded n.variables r.variables c.max-self-inside.result c.args.first held r.clauses (omega (arith, most)) (omega (arith, most)) inv.claused parts.claused;
        rising = rw same (loaded-numbers r c.args.first c.args.self.now.state c.requires.new (rw same at inv.rising));
      }),
      c.add_clauses.ensures.fits,
      record { valued = rw (c.append_reserved.ensures.passed, c.rewind.ensures.passed) refl; assumed = refl },
    )
