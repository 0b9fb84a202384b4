use Rattle.std.proofs.Common.{◌≡◌, ℕ, ◌+◌, List, [], ◌∷◌, length, None, refl, sym, ap, ◌∙◌, arith}
use Rattle.mal_base.specs.declared.trail_entry.TrailEntry.{TrailEntry}
use Rattle.spec_node.specs.State.{Node}
use Rattle.spec_node.specs.Value.{left_literal}
use Rattle.spec_node.specs.Cut.{cut, kept}
use Rattle.spec_node.specs.Adding.{with_clause}
use Rattle.spec_learn.specs.Analysis.{vars_in}
use Rattle.spec_learn.specs.Learning.{analysis, derived_id, forced_by, learned}
use Rattle.spec_learn.specs.Order.{moved_all}
use Rattle.mal_order.specs.Ordered.{Ordered}
use Rattle.mal_cdcl.specs.Within.{NodeWithRoom, IsPast}
use Rattle.mal_cdcl.proofs.ImageLemmas.{formed-node}
use Rattle.mal_cdcl.proofs.PastLemmas.{past-more}
use Rattle.spec_learn.proofs.GoalLemmas.{number-new}
use Rattle.mal_cdcl.proofs.DeriveLemmas.{fit-learned, formed-learned, processed-learned, free-learned, forced-keeps}
use Rattle.mal_cdcl.proofs.node.Node.teach.Goals as goal

pub learn-requires-clause-new : goal.learn-requires-clause-new
learn-requires-clause-new g c =
    let n = c.args.self.now.state in
    let held : g.E.ClauseView.clauses c.self.inside.engine ≡ n.clauses = ap (λ (s : NodeWithRoom). s.state.clauses) c.self.view_is ∙ ap (λ (m : Node). m.clauses) c.cut.ensures.state in
    rw (held, c.requires.number) (number-new n c.requires.sound)

pub learn-requires-clause-form : goal.learn-requires-clause-form
learn-requires-clause-form g c =
    let n = c.args.self.now.state in
    rw (c.clause.ensures, c.requires.shown.lits) (fit-learned n c.args.id c.requires.sound c.requires.conflict c.requires.level).rising

pub force-requires : goal.force-requires
force-requires g c l q =
    let n = c.args.self.now.state in
    let level : c.level.result ≡ (analysis c.args.id n).level = c.level.ensures ∙ c.requires.shown.level in
    let same = ap (λ (s : NodeWithRoom). s.state) c.self.view_is ∙ c.cut.ensures.state in
    let trail : c.self.inside.trail.entries ≡ kept (analysis c.args.id n).level n.trail = ap (λ (m : Node). m.trail) same ∙ ap (λ (j : ℕ). kept j n.trail) level in
    let variables : c.self.inside.variables ≡ n.variables = ap (λ (m : Node). m.variables) same in
    let lits : c.clause-2.result.now ≡ (analysis c.args.id n).lits = c.clause-2.ensures ∙ c.requires.shown.lits in
    let free = free-learned n c.args.id l c.requires.sound c.requires.conflict c.requires.level (rw (trail, lits) at q) in
    record { free = rw trail free.free; room = omega (arith, free.high, variables, c.self.invariant.0.room) }

pub invariant_of-self : goal.invariant_of-self
invariant_of-self g c =
    let n = c.args.self.now.state in
    let a = analysis c.args.id n in
    let v = c.self.inside in
    let same = ap (λ (s : NodeWithRoom). s.state) c.self.view_is ∙ (c.cut.ensures.state ∙ ap (λ (j : ℕ). cut j n) (c.level.ensures ∙ c.requires.shown.level)) in
    let lits : c.clause.result.now ≡ a.lits = c.clause.ensures ∙ c.requires.shown.lits in
    let held : g.E.ClauseView.clauses v.engine ≡ n.clauses = ap (λ (m : Node). m.clauses) same in
    let whole : g.E.ClauseView.clauses c.learn.new.self ≡ with_clause (record { id = derived_id n; lits = a.lits }) n.clauses = rw (c.learn.ensures.clauses, lits, c.requires.number, held) refl in
    let variables : v.variables ≡ n.variables = ap (λ (m : Node). m.variables) same in
    let form = formed-learned n c.args.id c.requires.sound c.requires.conflict c.requires.level c.requires.counts.serial in
    let order : Ordered = record { index = n.index; list = moved_all (vars_in a.lits) n.order; room = 0; passed = 0 } in
    let after = formed-node (learned c.args.id n) n.variables order (omega arith) refl refl form in
    let inv = c.self.invariant.0 in
    let handled : v.trail.processed ≡ length v.trail.entries + 1 = ap (λ (m : Node). m.processed) same ∙ (processed-learned n c.args.id c.requires.sound c.requires.conflict c.requires.level ∙ sym (ap (λ (m : Node). length m.trail + 1) same)) in
    let past : IsPast c.force.new.trail.entries v.order v.assumptions.items v.passed = rw c.force.ensures.entries (forced-keeps (λ (es : List TrailEntry). IsPast es v.order v.assumptions.items v.passed) c.args.number v.trail.entries (left_literal v.trail.entries c.clause-2.result.now) c.self.invariant.2 (λ e. past-more v.trail.entries (e ∷ []) v.order v.assumptions.items v.passed c.self.invariant.2)) in (
      record {
        place = inv.place;
        small = inv.small;
        room = omega (arith, inv.room, c.force.ensures.room);
        assumed = inv.assumed;
        turned = inv.turned;
        ordered = inv.ordered;
        complete = inv.complete;
        phased = inv.phased;
        claused = rw (whole, variables) after.claused;
        rising = rw whole after.rising;
      },
      rw (c.force.ensures.entries, c.force.ensures.processed) (forced-keeps (λ (es : List TrailEntry). g.E.Engine.fits c.learn.new.self es v.trail.processed) c.args.number v.trail.entries (left_literal v.trail.entries c.clause-2.result.now) c.learn.ensures.fits (λ e. g.met.E.Engine.fits_push c.learn.new.self v.trail.entries e v.trail.processed (omega (arith, handled)) c.learn.ensures.fits)),
      past,
    )

pub returns-clause-state : goal.returns-clause-state
returns-clause-state g c =
    let n = c.args.self.now.state in
    let a = analysis c.args.id n in
    let v = c.self.inside in
    let same = ap (λ (s : NodeWithRoom). s.state) c.self.view_is ∙ (c.cut.ensures.state ∙ ap (λ (j : ℕ). cut j n) (c.level.ensures ∙ c.requires.shown.level)) in
    let lits : c.clause.result.now ≡ a.lits = c.clause.ensures ∙ c.requires.shown.lits in
    let lits2 : c.clause-2.result.now ≡ a.lits = c.clause-2.ensures ∙ c.requires.shown.lits in
    let handled : v.trail.processed ≡ length v.trail.entries + 1 = ap (λ (m : Node). m.processed) same ∙ (processed-learned n c.args.id c.requires.sound c.requires.conflict c.requires.level ∙ sym (ap (λ (m : Node). length m.trail + 1) same)) in
    rw (c.force.ensures.entries, c.force.ensures.processed, c.learn.ensures.clauses, handled, lits, lits2, c.requires.number)
    (ap (λ (m : Node). record m {
      serial = m.serial + 1;
      processed = length m.trail + 1;
      conflict = None;
      trail = forced_by (derived_id n) m.trail (left_literal m.trail a.lits);
      clauses = with_clause (record { id = derived_id n; lits = a.lits }) m.clauses;
    }) same)
