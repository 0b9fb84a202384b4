use Rattle.std.proofs.Common.{◌≡◌, true, take}
use Rattle.std.specs.List.{list_all}
use Rattle.mal_feed.specs.Coming.{is_inside}
use Rattle.mal_feed.proofs.lines.cut.Given as goal

abbrev pub invariant-loop-index : goal.invariant-loop-index
invariant-loop-index l = list_all is_inside (take l.index l.piece) ≡ true
