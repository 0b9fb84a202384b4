-- What holds of every live history and of what is told of it, in the form in which the law functions state it.
use Rattle.std.specs.Prelude.{◌≡◌, ℕ, Bool, true, false, not, List, [], ◌∷◌, ◌++◌, All, None, is_some, Ok, Err}
use Rattle.std.specs.List.{list_any}
use Rattle.spec_job.specs.KeyedJob.{Key}
use Rattle.spec_job.specs.SoloMachine.{solo}
use Rattle.spec_hall.specs.Calls as calls
use Rattle.spec_hall.specs.Calls.{AnswerTo, Call, IsCall}
use Rattle.spec_hall.specs.Driven.{GrowsByTurns, was_lost}
use Rattle.spec_hall.specs.Events.{Event, moves}
use Rattle.spec_hall.specs.Legal.{Legal}
use Rattle.spec_hall.specs.Own.{is_key, own}
use Rattle.spec_hall.specs.States.{keys_of}
use Rattle.spec_run.specs.Losses.{NoneIsLost}
use Rattle.spec_run.specs.Run.{IsEvident}
use Rattle.spec_script.specs.declared.step.Step.TheVariants as steps
use Rattle.spec_feed.specs.declared.post.FeedPost.{FeedPost}
use Rattle.spec_feed.specs.declared.post.FeedPost.TheVariants.{Opens, Takes, Closes}
use Rattle.spec_live.specs.Live.{IsFront, Told, posts_in, reply_in, to, told_text}

-- each of these replies could be told
abbrev pub CanTell : List Event → List Told → Type 0
CanTell history told = All (λ t. is_some (reply_in history t) ≡ true) told

-- replies that could be told in a past can be told in each history that goes on legally, where no job moves since, and
-- their text is the same
abbrev pub ToldStays : Type 0
ToldStays =
    (workers : ℕ) (past later : List Event) (told : List Told) → Legal workers (past ++ later) → list_any moves later ≡ false → CanTell past told
    → CanTell (past ++ later) told × (told_text (past ++ later) told ≡ told_text past told)

-- a history has grown from a past without a post: none came, no job moved and no lease was lost that had not before
pub record GrowsUnposted (past history : List Event) : Type 0 where
  pub posts : posts_in history ≡ posts_in past
  pub moved : list_any moves history ≡ list_any moves past
  pub none_lost : NoneIsLost past → NoneIsLost history
  pub front : IsFront past history

-- turns post nothing
abbrev pub TurnsPostNothing : Type 0
TurnsPostNothing = (workers : ℕ) (past history : List Event) → GrowsByTurns workers past history → GrowsUnposted past history

-- turns leave a legal history legal
abbrev pub TurnsAreLegal : Type 0
TurnsAreLegal = (workers : ℕ) (past history : List Event) → GrowsByTurns workers past history → Legal workers past → Legal workers history

-- what a call posts that is answered so: one post where it is taken, and else nothing
abbrev pub posted_call : (c : Call) → AnswerTo c → List FeedPost
posted_call (calls.Opens k ask) (Ok done) = Opens k ask ∷ []
posted_call (calls.Opens k ask) (Err fault) = []
posted_call (calls.Revises k r) (Ok done) = Takes k (steps.Revise r) ∷ []
posted_call (calls.Revises k r) (Err fault) = []
posted_call (calls.Reasks k weight) (Ok done) = Takes k (steps.Reask weight) ∷ []
posted_call (calls.Reasks k weight) (Err fault) = []
posted_call (calls.Closes k) (Ok done) = Closes k ∷ []
posted_call (calls.Closes k) (Err fault) = []
posted_call (calls.Picks worker) answer = []
posted_call (calls.Finishes d) answer = []
posted_call calls.Recalls answer = []
posted_call (calls.Asks k r) answer = []
posted_call (calls.Packs k) answer = []
posted_call (calls.Admits k brought) answer = []
posted_call (calls.Leaves k) answer = []

-- what is posted by the events that a call enters is what it posts
abbrev pub CallPostsBy : Type 0
CallPostsBy =
    (workers : ℕ) (past : List Event) (c : Call) (answer : AnswerTo c) (es : List Event)
    → IsCall workers past c answer es → posts_in es ≡ posted_call c answer

-- whether a call is none of those by which jobs go from one hall to another
abbrev pub is_at_home : Call → Bool
is_at_home (calls.Opens k ask) = true
is_at_home (calls.Revises k r) = true
is_at_home (calls.Reasks k weight) = true
is_at_home (calls.Closes k) = true
is_at_home (calls.Picks worker) = true
is_at_home (calls.Finishes d) = true
is_at_home calls.Recalls = true
is_at_home (calls.Asks k r) = true
is_at_home (calls.Packs k) = false
is_at_home (calls.Admits k brought) = false
is_at_home (calls.Leaves k) = false

-- such a call moves no job
abbrev pub CallMovesNone : Type 0
CallMovesNone =
    (workers : ℕ) (past : List Event) (c : Call) (answer : AnswerTo c) (es : List Event)
    → is_at_home c ≡ true → IsCall workers past c answer es → list_any moves es ≡ false

-- whether a call loses no lease: what came of a lease may be its loss, and to recall loses each that is out
abbrev pub is_lossless : Call → Bool
is_lossless (calls.Opens k ask) = true
is_lossless (calls.Revises k r) = true
is_lossless (calls.Reasks k weight) = true
is_lossless (calls.Closes k) = true
is_lossless (calls.Picks worker) = true
is_lossless (calls.Finishes d) = not (was_lost d.outcome)
is_lossless calls.Recalls = false
is_lossless (calls.Asks k r) = true
is_lossless (calls.Packs k) = true
is_lossless (calls.Admits k brought) = true
is_lossless (calls.Leaves k) = true

-- by such a call none is lost
abbrev pub CallLosesNone : Type 0
CallLosesNone =
    (workers : ℕ) (past : List Event) (c : Call) (answer : AnswerTo c) (es : List Event)
    → is_lossless c ≡ true → IsCall workers past c answer es → NoneIsLost es

-- in a legal history in which no job moves, a key under which no job was opened has no revision and no reply
abbrev pub UnknownHasNoRevision : Type 0
UnknownHasNoRevision =
    (workers : ℕ) (history : List Event) (k : Key) → Legal workers history → list_any moves history ≡ false → list_any (is_key k) (keys_of history) ≡ false
    → ((solo (own k history)).revisions ≡ []) × ((r : ℕ) → reply_in history (to k r) ≡ None)

-- in a legal history the answers of each job are evidence
abbrev pub LegalIsEvident : Type 0
LegalIsEvident = (workers : ℕ) (history : List Event) → Legal workers history → (k : Key) → IsEvident (own k history)
