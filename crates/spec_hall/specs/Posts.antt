-- What a call of a hall posts.
use Rattle.std.specs.Prelude.{◌≡◌, ℕ, Bool, true, false, List, [], ◌∷◌, ◌++◌, filter, Ok, Err}
use Rattle.mal_base.specs.declared.hall_fault.CloseFault.TheVariants as closing
use Rattle.spec_job.specs.Examples.{one_of_two, weight}
use Rattle.spec_hall.specs.Calls.{Call, AnswerTo, IsCall, Opens, Revises, Reasks, Closes, Picks, Finishes, Recalls, Asks, Packs, Admits, Leaves}
use Rattle.spec_hall.specs.Events.{Event, Open, Revise, Reask, Close, Balance, Start, Finish, Exchange, Leave, Arrive}
use Rattle.spec_hall.specs.Examples.{after, key, three}

-- whether an event is a post: a job is opened, revised or closed, or its ask changes
abbrev pub is_post : Event → Bool
is_post (Open k ask) = true
is_post (Revise k number r) = true
is_post (Reask k w) = true
is_post (Close k) = true
is_post (Balance shares) = false
is_post (Start k index worker) = false
is_post (Finish k index worker outcome) = false
is_post (Exchange k) = false
is_post (Leave k) = false
is_post (Arrive k brought) = false

-- what a call posts that is answered so: one event where a post is taken, and else nothing
abbrev pub PostsBy : (c : Call) → AnswerTo c → List Event → Type 0
PostsBy (Opens k ask) (Ok done) ps = ps ≡ Open k ask ∷ []
PostsBy (Opens k ask) (Err fault) ps = ps ≡ []
PostsBy (Revises k r) (Ok done) ps = (n : ℕ) × (ps ≡ Revise k n r ∷ [])
PostsBy (Revises k r) (Err fault) ps = ps ≡ []
PostsBy (Reasks k w) (Ok done) ps = ps ≡ Reask k w ∷ []
PostsBy (Reasks k w) (Err fault) ps = ps ≡ []
PostsBy (Closes k) (Ok done) ps = ps ≡ Close k ∷ []
PostsBy (Closes k) (Err fault) ps = ps ≡ []
PostsBy (Picks worker) answer ps = ps ≡ []
PostsBy (Finishes d) answer ps = ps ≡ []
PostsBy Recalls answer ps = ps ≡ []
PostsBy (Asks k r) answer ps = ps ≡ []
PostsBy (Packs k) answer ps = ps ≡ []
PostsBy (Admits k brought) answer ps = ps ≡ []
PostsBy (Leaves k) answer ps = ps ≡ []

-- the posts among the events that a call enters are what it posts
abbrev pub CallPosts : Type 0
CallPosts =
    (workers : ℕ) (past : List Event) (c : Call) (answer : AnswerTo c) (es : List Event)
    → IsCall workers past c answer es → PostsBy c answer (filter is_post es)

-- worked examples: of a history the balancings are no posts; a revision that is taken is posted under its number, and a
-- closing that is refused is not posted
pub record HasPosts : Type 0 where
  pub posts : filter is_post after ≡ three ++ Reask (key 114) (weight 4 8) ∷ []
  pub taken : PostsBy (Revises (key 112) one_of_two) (Ok tt) (Revise (key 112) 2 one_of_two ∷ [])
  pub refused : PostsBy (Closes (key 112)) (Err closing.Closed) (Close (key 112) ∷ []) → ⊥
