use Rattle.std.specs.Prelude.{◌≡◌, ℕ, List, [], ◌∷◌, ◌++◌, map, flat_map, fold, Option, Some, None, Ok, Err}
use Rattle.spec_hall.specs.Calls.{recalled}
use Rattle.spec_hall.specs.Driven.{GrowsByTurns}
use Rattle.spec_hall.specs.Events.{Event, Open, Revise, Reask, Close}
use Rattle.spec_hall.specs.States.{lives, states, leases}
use Rattle.spec_run.specs.Complete.{job_events}
use Rattle.spec_script.specs.Script.{ScriptedJob}
use Rattle.mal_hall.specs.declared.desk.Post.{Post}
use Rattle.mal_hall.specs.declared.desk.Post.TheVariants as posts
use Rattle.mal_hall.specs.Desks as desks
use Rattle.mal_hall.specs.Desks.{DeskCall, event_of}
use Rattle.mal_posts.specs.Dues.{left_in, of_tenant}
use Rattle.mal_posts.specs.declared.cursor.Left.{Left}
use Rattle.mal_pool.specs.declared.posting.Hindered.{Hindered}
use Rattle.mal_pool.specs.declared.posting.Hindrance.{Hindrance}
use Rattle.mal_pool.specs.declared.posting.Hindrance.TheVariants as hindrances

-- the post that opens a job of a script
abbrev pub open_post : ScriptedJob → Post
open_post j = posts.Open j.tenant j.name j.ask

-- the post that enters an event, where a tenant posts it
abbrev pub posts_at : Event → List Post
posts_at (Open k ask) = posts.Open k.tenant k.job ask ∷ []
posts_at (Revise k number r) = posts.Revise k.tenant k.job r ∷ []
posts_at (Reask k weight) = posts.Reask k.tenant k.job weight ∷ []
posts_at (Close k) = posts.Close k.tenant k.job ∷ []
posts_at event = []

-- the posts that enter events
abbrev pub posts_in : List Event → List Post
posts_in events = flat_map posts_at events

-- what a tenant posts after its openings
abbrev pub behind_openings : List ℕ → List ScriptedJob → List Event
behind_openings tenant jobs = flat_map job_events (of_tenant tenant jobs)

-- calls that post, each taken
abbrev pub taken : List Post → List DeskCall
taken ps = map (λ p. desks.Posted p (Ok tt)) ps

-- the last call of a poster that is hindered before these posts: the first of them was refused; or it made none, since
-- memory ran out for a copy of that
abbrev pub IsHindered : Hindrance → List Post → List DeskCall → Type 0
IsHindered (hindrances.Refused fault) posts calls = (p : Post) × (later : List Post) × (posts ≡ p ∷ later) × (calls ≡ desks.Posted p (Err fault) ∷ [])
IsHindered (hindrances.OutOfMemory error) posts calls = calls ≡ []

-- the poster of a tenant has posted all after the openings, or it was hindered, and what was posted and what is left
-- make that
abbrev pub HasPosted : List ℕ → List ScriptedJob → Option Hindered → List DeskCall → Type 0
HasPosted tenant jobs None mine = mine ≡ taken (posts_in (behind_openings tenant jobs))
HasPosted tenant jobs (Some h) mine =
    (done : List Event) × (last : List DeskCall) × (behind_openings tenant jobs ≡ done ++ left_in jobs h.left)
    × IsHindered h.by (posts_in (left_in jobs h.left)) last × (mine ≡ taken (posts_in done) ++ last)

-- what a poster left: the rest of the job at a place, and the later jobs of its tenant
abbrev pub left_by : List ScriptedJob → Left → List Post
left_by jobs l = posts_in (left_in jobs l)

-- a history after which these were posted, each taken
abbrev pub posted_on : List Event → List Post → List Event
posted_on past ps = fold (λ now p. now ++ event_of now p ∷ []) past ps

-- a history was brought to its end: what was left was posted, what was out recalled, and the rest came by turns, until
-- no job is live and nothing is out
pub record IsSettled (workers : ℕ) (jobs : List ScriptedJob) (left : List Left) (before now : List Event) : Type 0 where
  pub posted : List Event
  pub posted_is : posted ≡ posted_on before (flat_map (left_by jobs) left)
  pub lost : List Event
  pub lost_is : lost ≡ posted ++ recalled workers posted
  pub turns : GrowsByTurns workers lost now
  pub answered : lives (states now) ≡ []
  pub home : leases now ≡ []
