use Rattle.std.proofs.Common.{◌≡◌, drop, vec_len}
use Rattle.mal_trail.specs.Trailed.{cleared}
use Rattle.mal_trail.proofs.trail.clear_places.Given as goal

abbrev pub invariant-loop-entry : goal.invariant-loop-entry
invariant-loop-entry l = record {
  places : cleared (drop l.entry-index l.entries) l.places.items ≡ cleared l.entries l.fn.places.items;
  len : vec_len l.places ≡ vec_len l.fn.places;
}
