use Rattle.std.proofs.Common.{◌≡◌, ◌≤◌, ◌+◌, length, take}
use Rattle.spec_script.specs.Script.{revisions_in}
use Rattle.mal_posts.proofs.cursor.number_behind.Given as goal

abbrev pub invariant-loop-at : goal.invariant-loop-at
invariant-loop-at l = record {
  number : l.number ≡ length (revisions_in (take l.at l.steps)) + 1;
  bound : l.number ≤ l.at + 1;
}
