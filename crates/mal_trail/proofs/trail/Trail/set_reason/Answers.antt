use Rattle.std.proofs.Common.{◌≡◌, length, Some, refl, sym, ◌∙◌, arith, length-set}
use Rattle.std.proofs.lemmas.Option.{slice_get_read}
use Rattle.mal_base.specs.declared.trail_entry.TrailEntry.{TrailEntry}
use Rattle.mal_trail.proofs.AlikeLemmas.{entry-is, Fits-set, Stand-set}
use Rattle.mal_trail.proofs.trail.Trail.set_reason.Goals as goal

pub invariant_of-self : goal.invariant_of-self
invariant_of-self c =
    let t = c.self.inside in
    let e : TrailEntry = c.index-entry.result.now in
    let f : TrailEntry = record { lit = e.lit; reason = Some c.args.reason; level = e.level } in
    let at = slice_get_read t.entries.items (length t.entries.items) c.args.place e refl (rw (← c.self.view_is) at c.requires) c.index-entry.ensures in
    record {
      fits = Fits-set t.room t.entries.items c.args.place e f at refl refl c.self.invariant.fits;
      held = c.self.invariant.held;
      wide = c.self.invariant.wide;
      stand = Stand-set t.false_places.items t.entries.items c.args.place e f at refl c.self.invariant.stand;
      handled = omega (arith, c.self.invariant.handled, length-set t.entries.items c.args.place f);
    }

pub returns-clause-entries : goal.returns-clause-entries
returns-clause-entries c = λ e h.
    let at = slice_get_read c.self.inside.entries.items (length c.self.inside.entries.items) c.args.place c.index-entry.result.now refl (rw (← c.self.view_is) at c.requires) c.index-entry.ensures in
    let is : c.index-entry.result.now ≡ e = entry-is c.index-entry.result.now e (sym at ∙ (rw (← c.self.view_is) at h)) in
    rw (← c.self.view_is, is) refl
