use Rattle.std.proofs.Common.{◌≡◌, [], ◌∷◌, refl, ap, ◌∙◌, arith}
use Rattle.std.specs.Prelude.{slice_set, Some}
use Rattle.std.proofs.lemmas.Option.{slice_get_within}
use Rattle.mal_base.specs.declared.trail_entry.TrailEntry.{TrailEntry}
use Rattle.spec_node.specs.State.{Node}
use Rattle.spec_node.specs.Adding.{with_clause}
use Rattle.spec_learn.specs.Learning.{derived_id}
use Rattle.spec_learn.proofs.GoalLemmas.{number-new}
use Rattle.mal_trail.proofs.AlikeLemmas.{lits-set}
use Rattle.mal_order.specs.Ordered.{Ordered}
use Rattle.mal_cdcl.specs.Uniting.{united_at}
use Rattle.mal_cdcl.specs.Within.{NodeWithRoom}
use Rattle.mal_freeze.proofs.SoundLemmas.{sound-formed}
use Rattle.mal_cdcl.proofs.ImageLemmas.{formed-node}
use Rattle.mal_cdcl.proofs.node.Node.unite.Goals as goal

pub learn-requires-clause-new : goal.learn-requires-clause-new
learn-requires-clause-new g c =
    let n = c.args.self.now.state in
    let same = ap (λ (s : NodeWithRoom). s.state) c.self.view_is in
    let held : g.E.ClauseView.clauses c.self.inside.engine ≡ n.clauses = ap (λ (m : Node). m.clauses) same in
    let number : c.derived-number.result ≡ derived_id n = c.derived-number.ensures ∙ ap (λ (m : Node). derived_id m) same in
    rw (held, number) (number-new n c.requires.sound)

pub set_reason-requires : goal.set_reason-requires
set_reason-requires g c = slice_get_within c.self.inside.trail.entries c.args.place c.args.entry (rw (← c.self.view_is) at c.requires.there)

pub invariant_of-self : goal.invariant_of-self
invariant_of-self g c =
    let n = c.args.self.now.state in
    let e : TrailEntry = c.args.entry in
    let v = c.self.inside in
    let inv = c.self.invariant.0 in
    let same = ap (λ (s : NodeWithRoom). s.state) c.self.view_is in
    let number : c.derived-number.result ≡ derived_id n = c.derived-number.ensures ∙ ap (λ (m : Node). derived_id m) same in
    let variables : v.variables ≡ n.variables = ap (λ (m : Node). m.variables) same in
    let held : g.E.ClauseView.clauses v.engine ≡ n.clauses = ap (λ (m : Node). m.clauses) same in
    let whole : g.E.ClauseView.clauses c.learn.new.self ≡ with_clause (record { id = derived_id n; lits = e.lit ∷ [] }) n.clauses = rw (c.learn.ensures.clauses, number, held) refl in
    let order : Ordered = record { index = n.index; list = n.order; room = 0; passed = 0 } in
    let after = formed-node (united_at c.args.place e n) n.variables order (omega arith) refl refl (sound-formed (united_at c.args.place e n) c.requires.kept c.requires.counts.serial) in
    let there = rw (← c.self.view_is) at c.requires.there in
    let now : TrailEntry = record { lit = e.lit; reason = Some c.derived-number.result; level = e.level } in
    let entries : c.set_reason.new.self.entries ≡ slice_set v.trail.entries c.args.place now = c.set_reason.ensures.entries e there in (
      record {
        place = inv.place;
        small = inv.small;
        room = omega (arith, inv.room, c.set_reason.ensures.room);
        assumed = inv.assumed;
        turned = c.rewind.ensures.index ∙ inv.turned;
        ordered = rw c.rewind.ensures.list inv.ordered;
        complete = rw c.rewind.ensures.list inv.complete;
        phased = inv.phased;
        claused = rw (whole, variables) after.claused;
        rising = rw whole after.rising;
      },
      rw (entries, c.set_reason.ensures.processed) (g.met.E.Engine.fits_alike c.learn.new.self v.trail.entries (slice_set v.trail.entries c.args.place now) v.trail.processed (lits-set v.trail.entries c.args.place e now there refl) c.learn.ensures.fits),
      record { valued = rw c.rewind.ensures.passed refl; assumed = refl },
    )
