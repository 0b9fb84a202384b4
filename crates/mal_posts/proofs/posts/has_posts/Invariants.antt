use Rattle.mal_posts.proofs.FollowLemmas.{IsLeft}
use Rattle.mal_posts.specs.Dues.{due}
use Rattle.spec_run.specs.Complete.{posts_of}
use Rattle.mal_posts.proofs.posts.has_posts.Given as goal

abbrev pub invariant-loop-event : goal.invariant-loop-event
invariant-loop-event l = IsLeft l.tenant l.events (posts_of l.tenant l.script) l.event-index (due l.cursor)
