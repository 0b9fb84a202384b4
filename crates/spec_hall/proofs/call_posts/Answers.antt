use Rattle.spec_hall.proofs.PostsLemmas.{call-posts, posts}
use Rattle.spec_hall.proofs.call_posts.Goals as goal

pub returns : goal.returns
returns c = record { posts = call-posts; examples = posts }
