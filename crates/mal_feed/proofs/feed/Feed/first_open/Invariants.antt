use Rattle.std.proofs.Common.{◌≡◌, ◌-◌, length, drop}
use Rattle.std.specs.List.{filter}
use Rattle.spec_feed.specs.Reading.{is_opened}
use Rattle.mal_feed.proofs.feed.Feed.first_open.Given as goal

abbrev pub invariant-loop-at : goal.invariant-loop-at
invariant-loop-at l = filter (is_opened l.fn.self) (drop l.from l.fn.self.begun) ≡ filter (is_opened l.fn.self) (drop l.at l.fn.self.begun)

abbrev pub decreases-loop-at : goal.decreases-loop-at
decreases-loop-at l = length l.fn.self.begun - l.at
