-- What was posted with a pass of a service.
use Rattle.std.specs.Prelude.{List, [], ◌∷◌, flat_map, Ok, Err}
use Rattle.mal_hall.specs.declared.desk.Post.{Post}
use Rattle.mal_hall.specs.declared.desk.Post.TheVariants as posts
use Rattle.mal_service.specs.Record.{Answered, Opened, Revised, Reasked, Closed, Asked, Picked, Gave, Entry, Record}
use Rattle.mal_turn.specs.declared.view.View.{View}
use Rattle.mal_turn.specs.Numbers.{part}
use Rattle.spec_feed.specs.declared.post.FeedPost.{FeedPost}
use Rattle.spec_feed.specs.declared.post.FeedPost.TheVariants.{Opens, Takes, Closes}
use Rattle.spec_hall.specs.Dressed.{keyed}
use Rattle.spec_script.specs.declared.step.Step.TheVariants as steps

-- the post of a feed that a post of a hall is
abbrev pub fed : Post → FeedPost
fed (posts.Open tenant job ask) = Opens (keyed tenant job) ask
fed (posts.Revise tenant job r) = Takes (keyed tenant job) (steps.Revise r)
fed (posts.Reask tenant job weight) = Takes (keyed tenant job) (steps.Reask weight)
fed (posts.Close tenant job) = Closes (keyed tenant job)

-- what a call posts that was answered so: one post where it was taken, and else nothing
abbrev pub said_by : Answered → List FeedPost
said_by (Opened k ask (Ok done)) = Opens k ask ∷ []
said_by (Opened k ask (Err fault)) = []
said_by (Revised k r (Ok done)) = Takes k (steps.Revise r) ∷ []
said_by (Revised k r (Err fault)) = []
said_by (Reasked k weight (Ok done)) = Takes k (steps.Reask weight) ∷ []
said_by (Reasked k weight (Err fault)) = []
said_by (Closed k (Ok done)) = Closes k ∷ []
said_by (Closed k (Err fault)) = []
said_by (Asked k r answer) = []
said_by (Picked worker answer) = []
said_by (Gave d answer) = []

-- what the calls of entries post, one after another
abbrev pub said_in : Record → List FeedPost
said_in log = flat_map (λ e. said_by e.1.call) log

-- what was posted with a pass: by its part of the record
abbrev pub said_of : View Entry → List FeedPost
said_of v = said_in (part v.of.all v.seen)
