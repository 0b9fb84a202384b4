use Rattle.std.proofs.Common.{◌≡◌, ◌++◌, map, take}
use Rattle.spec_feed.specs.declared.post.FeedPost.TheVariants.{Closes}
use Rattle.mal_parts.proofs.reading.close_after.Given as goal

abbrev pub invariant-loop-key : goal.invariant-loop-key
invariant-loop-key g l = let desk = g.D.LiveDesk in
    desk.is_of l.desk l.pass × (desk.numbers l.pass ≡ desk.numbers l.fn.pass)
    × (desk.said l.pass ≡ desk.said l.fn.pass ++ map Closes (take l.key-index l.keys))
