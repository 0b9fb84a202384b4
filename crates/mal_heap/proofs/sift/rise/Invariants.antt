use Rattle.std.proofs.Common.{◌≡◌, ◌<◌, ◌≤◌, length, vec_capacity}
use Rattle.mal_heap.specs.Rows.{IsRow, inside}
use Rattle.mal_heap.specs.Heaps.{IsHeapUp}
use Rattle.mal_heap.proofs.sift.rise.Given as goal

abbrev pub invariant-loop-place : goal.invariant-loop-place
invariant-loop-place l =
    record {
      row : IsRow l.row.items.items l.row.places.items;
      long : length l.row.places.items ≡ length l.fn.row.places.items;
      within : l.count ≤ length l.row.items.items;
      place : l.place < l.count;
      up : IsHeapUp l.index l.activities l.row.items.items l.count l.place;
      inside : inside l.count l.row.places.items ≡ inside l.count l.fn.row.places.items;
      items : vec_capacity l.row.items ≡ vec_capacity l.fn.row.items;
      places : vec_capacity l.row.places ≡ vec_capacity l.fn.row.places;
    }

abbrev pub decreases-loop-place : goal.decreases-loop-place
decreases-loop-place l = l.place
