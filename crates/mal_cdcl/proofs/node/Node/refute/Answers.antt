use Rattle.std.proofs.Common.{◌≡◌, sym, ap, ◌∙◌, subst, arith}
use Rattle.spec_node.specs.State.{Node}
use Rattle.spec_node.specs.Adding.{with_clause}
use Rattle.spec_learn.specs.Refuting.{refuted}
use Rattle.mal_cdcl.specs.Within.{NodeWithRoom, IsNode}
use Rattle.mal_cdcl.proofs.ImageLemmas.{formed-node}
use Rattle.spec_learn.proofs.GoalLemmas.{number-new}
use Rattle.mal_cdcl.proofs.DeriveLemmas.{fit-refuted, formed-refuted}
use Rattle.mal_cdcl.proofs.node.Node.refute.Goals as goal

pub learn-requires-clause-new : goal.learn-requires-clause-new
learn-requires-clause-new g c =
    let n = c.args.self.now.state in
    let held : g.E.ClauseView.clauses c.self.inside.engine ≡ n.clauses = ap (λ (s : NodeWithRoom). s.state.clauses) c.self.view_is in
    rw (held, c.requires.number) (number-new n c.requires.sound)

pub learn-requires-clause-form : goal.learn-requires-clause-form
learn-requires-clause-form g c =
    let n = c.args.self.now.state in
    rw c.clause.ensures (fit-refuted n c.args.scratch.now.clause c.requires.kept).rising

pub invariant_of-self : goal.invariant_of-self
invariant_of-self g c =
    let n = c.args.self.now.state in
    let v = c.self.inside in
    let state : Node = record { index = v.index; profile = v.profile; variables = v.variables; serial = v.serial; conflicts_since_restart = v.conflicts_since_restart; restart_number = v.restart_number; conflicts_since_dropping = v.conflicts_since_dropping; processed = v.trail.processed; conflict = v.conflict; verdict = v.verdict; assumptions = v.assumptions.items; order = v.order.list; phases = v.phases.items; trail = v.trail.entries; clauses = g.E.ClauseView.clauses v.engine } in
    let same : state ≡ n = ap (λ (s : NodeWithRoom). s.state) c.self.view_is in
    let variables : v.variables ≡ n.variables = ap (λ (m : Node). m.variables) same in
    let form = formed-refuted n c.args.scratch.now.clause c.requires.kept c.requires.counts.serial in
    let kept : IsNode n.index n.variables v.trail.room n.assumptions v.order n.phases (with_clause (record { id = c.args.number; lits = c.clause.result.now }) n.clauses) = rw (c.clause.ensures, c.requires.number) (formed-node (refuted c.args.scratch.now.clause n) v.trail.room v.order (omega (arith, c.self.invariant.0.room, variables)) (c.self.invariant.0.turned ∙ ap (λ (m : Node). m.index) same) (ap (λ (m : Node). m.order) same) form) in
    let now : IsNode state.index state.variables v.trail.room state.assumptions v.order state.phases (with_clause (record { id = c.args.number; lits = c.clause.result.now }) state.clauses) = subst (λ (m : Node). IsNode m.index m.variables v.trail.room m.assumptions v.order m.phases (with_clause (record { id = c.args.number; lits = c.clause.result.now }) m.clauses)) (sym same) kept in
    (rw c.learn.ensures.clauses now, c.learn.ensures.fits, c.self.invariant.2)
