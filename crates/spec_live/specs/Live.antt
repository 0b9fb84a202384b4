-- A live service: what was posted in a history, which replies were told, and the texts of both.
use Rattle.std.specs.Prelude.{◌≡◌, ℕ, Bool, true, false, List, [], ◌∷◌, ◌++◌, All, length, filter, map, flat_map, is_some, Option}
use Rattle.std.specs.List.{list_any}
use Rattle.mal_base.specs.declared.key.Key.{Key}
use Rattle.mal_history.specs.Text.{event_words, header_words}
use Rattle.spec_text.specs.Lines.{line_of}
use Rattle.spec_node.specs.Load.{counted}
use Rattle.spec_job.specs.Replies.{reply}
use Rattle.spec_job.specs.SoloMachine.{solo}
use Rattle.spec_hall.specs.Events.{Event, Open, Revise, Reask, Close, Balance, Start, Finish, Exchange, Leave, Arrive, bare, moves}
use Rattle.spec_hall.specs.Legal.{Legal}
use Rattle.spec_hall.specs.Own.{is_key, own}
use Rattle.spec_hall.specs.States.{lives, states}
use Rattle.spec_run.specs.Losses.{NoneIsLost}
use Rattle.spec_run.specs.Run.{IsEvident, text_or_none}
use Rattle.spec_script.specs.declared.step.Step.TheVariants as steps
use Rattle.spec_feed.specs.declared.post.FeedPost.{FeedPost}
use Rattle.spec_feed.specs.declared.post.FeedPost.TheVariants.{Opens, Takes, Closes}

-- what a tenant posted by an event
abbrev pub posted_by : Event → List FeedPost
posted_by (Open k ask) = Opens k ask ∷ []
posted_by (Revise k number r) = Takes k (steps.Revise r) ∷ []
posted_by (Reask k weight) = Takes k (steps.Reask weight) ∷ []
posted_by (Close k) = Closes k ∷ []
posted_by (Balance shares) = []
posted_by (Start k index worker) = []
posted_by (Finish k index worker outcome) = []
posted_by (Exchange k) = []
posted_by (Leave k) = []
posted_by (Arrive k brought) = []

-- what was posted in a history, in its order
unfoldable pub posts_in : List Event → List FeedPost
posts_in history = flat_map posted_by history

-- the lines of events as a history's text has them
unfoldable pub event_lines : List Event → List ℕ
event_lines events = flat_map (λ e. line_of (event_words (bare e))) events

-- the first line of a live history: its version is 2, since what will come is not known when it is written
abbrev pub first_line : ℕ → List ℕ
first_line workers = line_of (header_words 2 workers)

-- the text of a live history
abbrev pub live_text : ℕ → List Event → List ℕ
live_text workers history = first_line workers ++ event_lines history

-- a reply that was told: that to the revision of this number of a job
pub record Told : Type 0 where
  pub key : Key
  pub revision : ℕ

-- the reply to this revision of this job
abbrev pub to : Key → ℕ → Told
to k r = record { key = k; revision = r }

-- the text of a reply: that of the job's machine run alone on the job's own events
abbrev pub reply_in : List Event → Told → Option (List ℕ)
reply_in history t = reply t.key t.revision (solo (own t.key history))

-- the texts of replies, in the order in which they were told
unfoldable pub told_text : List Event → List Told → List ℕ
told_text history told = flat_map (λ t. text_or_none (reply_in history t)) told

-- a reply is to a revision of this job
abbrev pub is_to : Key → Told → Bool
is_to k t = is_key k t.key

-- the numbers of the revisions of a job to which replies were told, in the order of the telling
abbrev pub told_to : Key → List Told → List ℕ
told_to k told = map (λ t. t.revision) (filter (is_to k) told)

-- replies that could be told were told, and those to a job in the order of its revisions, each once
pub record AreTold (history : List Event) (told : List Told) : Type 0 where
  pub answered : All (λ t. is_some (reply_in history t) ≡ true) told
  pub order : (k : Key) → told_to k told ≡ counted 1 (length (told_to k told))

-- the same, and no revision was left out
pub record AreAllTold (history : List Event) (told : List Told) : Type 0 where
  pub some : AreTold history told
  pub all : (k : Key) → length (told_to k told) ≡ length (solo (own k history)).revisions

-- a history of so many workers serves posts: it is legal, these are its posts in their order, no job came from
-- elsewhere or left, no lease was lost, and every revision is answered by evidence
pub record Serves (workers : ℕ) (posts : List FeedPost) (history : List Event) : Type 0 where
  pub legal : Legal workers history
  pub posted : posts_in history ≡ posts
  pub stay : list_any moves history ≡ false
  pub none_lost : NoneIsLost history
  pub answered : lives (states history) ≡ []
  pub evident : (k : Key) → IsEvident (own k history)

-- Posts were served, live: a history serves them, the log is its text, and the output is the replies to all revisions,
-- each once, those to a job in the order of its revisions, byte for byte those of its machine run alone.
pub record IsServing (workers : ℕ) (posts : List FeedPost) (log out : List ℕ) : Type 0 where
  pub history : List Event
  pub told : List Told
  pub serves : Serves workers posts history
  pub replies : AreAllTold history told
  pub log_text : log ≡ live_text workers history
  pub out_text : out ≡ told_text history told

-- one list is the front of another
abbrev pub IsFront : {A : Type 0} → List A → List A → Type 0
IsFront {A = A} front whole = (rest : List A) × (whole ≡ front ++ rest)

-- Posts were served in part: a legal history has the first of them, and the log and the output are fronts of its text and
-- of replies that could be told, those to a job in its order, each once.
pub record IsServingInPart (workers : ℕ) (posts : List FeedPost) (log out : List ℕ) : Type 0 where
  pub history : List Event
  pub told : List Told
  pub legal : Legal workers history
  pub posted : IsFront (posts_in history) posts
  pub replies : AreTold history told
  pub log_text : IsFront log (live_text workers history)
  pub out_text : IsFront out (told_text history told)
