use Rattle.std.specs.Prelude.{ℕ, ◌+◌, ◌-◌, ◌<◌, ◌≤◌, ◌^◌, Bool, List, ◌++◌, length, map, replicate, Option}
use Rattle.std.specs.Arc.{arc_value}
use Rattle.std.specs.declared.sync.Arc.{Arc}
use Rattle.mal_base.specs.Asks.{Terms}
use Rattle.mal_base.specs.NumberedClause.{NumberedClause, Line}
use Rattle.mal_base.specs.declared.answer.Answer.{Answer}
use Rattle.mal_base.specs.declared.profile.Profile.{Profile}
use Rattle.mal_revision.specs.Posted.{Posted}
use Rattle.spec_proof.specs.Log.{IsOrderly}
use Rattle.mal_proof.specs.Logged.{Part}
use Rattle.spec_job.specs.Journaled.{Journaled}
use Rattle.spec_job.specs.SoloMachine.{SoloMachine, NodeSlot, Lease, Slice, vacant}
use Rattle.spec_job.specs.Viewed.{JobView}

-- what is shared
abbrev pub shared : {X Z : Type 0} → List (Arc X Z) → List X
shared xs = map (λ x. arc_value x) xs

-- what was asked of a job and what was answered: the ask, whether it was closed, the revisions with their answers, and
-- how many slices the current revision has spent and how many of its starts ran out of memory
pub record QuestionsView : Type 0 where
  pub ask : Terms
  pub closed : Bool
  pub revisions : List Posted
  pub answers : List Answer
  pub spent : ℕ
  pub starved : ℕ

abbrev pub questions_of : Terms → Bool → List Posted → List Answer → ℕ → ℕ → QuestionsView
questions_of ask closed revisions answers spent starved = record { ask = ask; closed = closed; revisions = revisions; answers = answers; spent = spent; starved = starved }

-- a place of a job: the journal of its node, the start that is out, how often the node was started, and how long the
-- log was at the last exchange in which it took part
pub record PlaceView : Type 0 where
  pub journal : Journaled
  pub out : Option Lease
  pub starts : ℕ
  pub mark : ℕ

-- the tree of a job: the job's number, the profile of its solvers, the volume, the first places, as many as were ever
-- used, what was broadcast to all, and how many slices were run since the last exchange
pub record TreeView : Type 0 where
  pub number : ℕ
  pub profile : Profile
  pub volume : ℕ
  pub places : List PlaceView
  pub broadcasts : List (List NumberedClause)
  pub ran : ℕ

-- a part of a log is a slice
abbrev pub slice_of : Part → Slice
slice_of part = record { lines = part.lines; ends = part.ends }

-- the log of a job: its lines, the slices that they are of, and for how many more slices there is room
pub record LogView : Type 0 where
  pub lines : List Line
  pub slices : List Slice
  pub chunk_room : ℕ

-- these lines may stand after those of a log: there is room for them, and with those before them they can be counted
-- and have numbers of derived clauses, each once and above all its hints
pub record MayAppend (log : LogView) (lines : List Line) : Type 0 where
  pub room : 1 ≤ log.chunk_room
  pub countable : length log.lines + length lines < 2 ^ 64
  pub orderly : IsOrderly (log.lines ++ lines)

-- the three parts of a job
pub record Parts : Type 0 where
  pub asked : QuestionsView
  pub tree : TreeView
  pub log : LogView

-- a place of the machine
abbrev pub place_of : PlaceView → NodeSlot
place_of p = record { entries = p.journal.entries; out = p.out; starts = p.starts; mark = p.mark }

-- 64 places: these, and vacant ones after them
abbrev pub filled : List NodeSlot → List NodeSlot
filled places = places ++ replicate (64 - length places) vacant

-- the places of the machine, of which the first ones were ever used
abbrev pub places_of : List PlaceView → List NodeSlot
places_of ps = filled (map place_of ps)

-- the number of the last start of each of the 64 places
abbrev pub starts_of : List PlaceView → List ℕ
starts_of ps = map (λ p. p.journal.start) ps ++ replicate (64 - length ps) 0

-- the machine of a job
abbrev pub state_of : Parts → SoloMachine
state_of q = record {
  ask = q.asked.ask;
  closed = q.asked.closed;
  volume = q.tree.volume;
  revisions = q.asked.revisions;
  answers = q.asked.answers;
  places = places_of q.tree.places;
  log = q.log.lines;
  slices = q.log.slices;
  broadcasts = q.tree.broadcasts;
  ran = q.tree.ran;
  spent = q.asked.spent;
  starved = q.asked.starved;
}

-- a job of these parts
abbrev pub viewed : List ℕ → List ℕ → Parts → JobView
viewed tenant job q = record { number = q.tree.number; titled = record { key = record { tenant = tenant; job = job }; state = state_of q }; starts = starts_of q.tree.places }
