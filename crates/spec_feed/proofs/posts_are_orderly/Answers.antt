use Rattle.spec_feed.proofs.Orders.{posts-are_orderly}
use Rattle.spec_feed.proofs.posts_are_orderly.Goals as goal

pub returns : goal.returns
returns c = posts-are_orderly
