use Rattle.std.proofs.Common.{◌<◌, Bool, false, bytes_eq, List, ℕ, Option, Some, None, length, sym, refl, arith}
use Rattle.std.specs.Option.{option_map_or}
use Rattle.std.proofs.lemmas.Option.{get_or_from_slice_get}
use Rattle.mal_cdcl.proofs.PickLemmas.{noted-next}
use Rattle.mal_cdcl.proofs.import_filter.note_posted.Goals as goal
use Rattle.mal_cdcl.proofs.import_filter.note_posted.Goals.{in-None, in-Some+in_ok-note_if_exported-in-Some}

pub loop-place-preserved : goal.loop-place-preserved
loop-place-preserved c = λ lits told.
    let test : Option (List ℕ) → Bool = λ o. option_map_or (bytes_eq lits) o false in
    let clauses = c.args.clauses.now in
    let below : c.loop-place.place < length clauses = omega (arith, c.len-place-end.ensures) in
    elim c.match-at.branch [
      | in-None w ↦
          rw w.seen-is (noted-next test clauses c.loop-place.place None None below (sym (get_or_from_slice_get clauses c.loop-place.place None None (rw w.in-None.is at c.at.ensures.value))) _ _ _ (c.loop-place.invariant lits told) refl)
      | in-Some+in_ok-note_if_exported-in-Some w ↦
          rw w.seen-is (noted-next test clauses c.loop-place.place (Some w.in-Some.lits.now) None below (sym (get_or_from_slice_get clauses c.loop-place.place (Some w.in-Some.lits.now) None (rw w.in-Some.is at c.at.ensures.value))) _ _ _ (c.loop-place.invariant lits told) (w.in_ok-note_if_exported-in-Some.ensures lits told))
    ]
