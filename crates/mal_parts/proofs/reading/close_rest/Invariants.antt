use Rattle.std.proofs.Common.{◌≡◌, List, ◌++◌, length}
use Rattle.spec_feed.specs.Reading.{closings}
use Rattle.spec_feed.specs.declared.post.FeedPost.{FeedPost}
use Rattle.mal_parts.proofs.reading.close_rest.Given as goal

abbrev pub invariant-loop-key : goal.invariant-loop-key
invariant-loop-key g l = let desk = g.D.LiveDesk in
    desk.is_of l.desk l.pass × (desk.numbers l.pass ≡ desk.numbers l.fn.pass)
    × ((front : List FeedPost) × (closings l.fn.feeder.feed ≡ front ++ closings l.feeder.feed) × (desk.said l.pass ≡ desk.said l.fn.pass ++ front))

abbrev pub decreases-loop-key : goal.decreases-loop-key
decreases-loop-key g l = length (closings l.feeder.feed)
