-- The bytes of a parcel: what a job's own events and its machine are written as, so that it can be moved. Numbers have
-- their greatest byte first.
use Rattle.std.specs.Prelude.{ℕ, ◌+◌, Bool, not, ◌==◌, List, [], ◌∷◌, ◌++◌, length, map, filter, flat_map, codes}
use Rattle.std.specs.Int.{w64}
use Rattle.mal_base.specs.Asks.{Terms}
use Rattle.mal_base.specs.declared.answer.Answer.{Answer}
use Rattle.mal_base.specs.declared.answer.Answer.TheVariants.{Satisfied, Refuted, Spent, OutOfStarts}
use Rattle.spec_text.specs.Lines.{line_of, text_of}
use Rattle.spec_proof.specs.Log.{added}
use Rattle.spec_lrat.specs.Written.{row_of}
use Rattle.spec_node.specs.Load.{counted}
use Rattle.spec_node.specs.State.{Node}
use Rattle.mal_freeze.specs.Spelling.{spelled, phase_code, image_bytes}
use Rattle.spec_job.specs.KeyedJob.{Key}
use Rattle.spec_job.specs.Journal.{replay}
use Rattle.spec_job.specs.SoloMachine.{Own, Opened, Revised, Reasked, Closed, Volume, Started, Finished, Exchanged, Slice, SoloMachine, unopened, solo, place_at}
use Rattle.mal_history.specs.declared.event.Event as written
use Rattle.mal_history.specs.declared.event.Event.TheVariants as event
use Rattle.mal_history.specs.Text.{event_words}
use Rattle.spec_script.specs.Script.{ScriptedJob, Scripted, spelling}
use Rattle.spec_script.specs.declared.step.Step.{Step}
use Rattle.spec_script.specs.declared.step.Step.TheVariants as step

-- bytes after their length
abbrev pub sized : List ℕ → List ℕ
sized xs = spelled w64 (length xs) ++ xs

-- how many there are, and then each of them
abbrev pub listed : {X : Type 0} → (X → List ℕ) → List X → List ℕ
listed bytes_of xs = spelled w64 (length xs) ++ flat_map bytes_of xs

-- the node of a place, by the replay of its journal
abbrev pub node_at : SoloMachine → ℕ → Node
node_at s i = (replay s.ask.profile i (place_at s i).entries).node

-- the node of a place has run: its journal has entries
abbrev pub has_run : SoloMachine → ℕ → Bool
has_run s i = not (length (place_at s i).entries == 0)

-- the places whose nodes have run, by rising index
unfoldable pub ran_indices : SoloMachine → List ℕ
ran_indices s = filter (has_run s) (counted 0 64)

-- a node that has run: its index, and the bytes of its image
pub record Placed : Type 0 where
  pub index : ℕ
  pub image : List ℕ

-- the node of a place, as it is packed
abbrev pub placed : SoloMachine → ℕ → Placed
placed s i = record { index = i; image = image_bytes (node_at s i) }

-- the bytes of a node that has run
abbrev pub placed_bytes : Placed → List ℕ
placed_bytes p = spelled w64 p.index ++ sized p.image

-- the bytes of the node of a place
abbrev pub node_bytes : SoloMachine → ℕ → List ℕ
node_bytes s i = placed_bytes (placed s i)

-- a slice: whether its verdict answered a revision, how many lines it logged, and their text
pub record Told : Type 0 where
  pub ends : Bool
  pub count : ℕ
  pub text : List ℕ

-- a slice, as it is packed
abbrev pub told : Slice → Told
told c = record { ends = c.ends; count = length c.lines; text = flat_map (λ l. line_of (row_of (added l))) c.lines }

-- the bytes of what is told of a slice
abbrev pub told_bytes : Told → List ℕ
told_bytes t = phase_code t.ends ∷ (spelled w64 t.count ++ sized t.text)

-- the bytes of a slice
abbrev pub slice_bytes : Slice → List ℕ
slice_bytes c = told_bytes (told c)

-- the bytes of an answer; a model has a value for each variable of the job by then
abbrev pub answer_bytes : Answer → List ℕ
answer_bytes (Satisfied model) = 1 ∷ map phase_code model
answer_bytes (Refuted goal) = 2 ∷ spelled w64 goal
answer_bytes (Spent slices) = 3 ∷ []
answer_bytes OutOfStarts = 4 ∷ []

-- the ask of the opening, which is the first own event
abbrev pub first_ask : List Own → Terms
first_ask (Opened ask ∷ os) = ask
first_ask os = unopened.ask

-- the steps of a script that an own event posts
abbrev pub steps_at : Own → List Step
steps_at (Revised r) = step.Revise r ∷ []
steps_at (Reasked w) = step.Reask w ∷ []
steps_at o = []

-- the job of a script with the ask of the opening and with all revisions and changes of the ask
abbrev pub scripted : Key → List Own → ScriptedJob
scripted k own = record { tenant = k.tenant; name = k.job; ask = first_ask own; steps = flat_map steps_at own }

-- the script of this one job
abbrev pub script_of : Key → List Own → Scripted
script_of k own = record { jobs = scripted k own ∷ [] }

-- an own event as a history writes it down, where so many revisions came before: worker 1, and a volume as a balancing
-- of this job alone
abbrev pub written_at : Key → ℕ → Own → written.Event
written_at k n (Opened ask) = event.Open k.tenant k.job ask
written_at k n (Revised r) = event.Revise k.tenant k.job (n + 1)
written_at k n (Reasked w) = event.Reask k.tenant k.job w
written_at k n Closed = event.Close k.tenant k.job
written_at k n (Volume v) = event.Balance (record { tenant = k.tenant; job = k.job; volume = v } ∷ [])
written_at k n (Started i) = event.Start k.tenant k.job i 1
written_at k n (Finished i outcome) = event.Finish k.tenant k.job i 1 outcome
written_at k n Exchanged = event.Exchange k.tenant k.job

-- how many revisions there are after an own event, where so many came before
abbrev pub revisions_after : ℕ → Own → ℕ
revisions_after n (Revised r) = n + 1
revisions_after n o = n

-- own events as a history writes them down, where so many revisions came before
abbrev pub written_from : Key → ℕ → List Own → List written.Event
written_from k n [] = []
written_from k n (o ∷ os) = written_at k n o ∷ written_from k (revisions_after n o) os

-- the text of own events: a line an event, with revisions numbered from 1
abbrev pub own_text : Key → List Own → List ℕ
own_text k own = text_of (map event_words (written_from k 0 own))

-- the bytes of a parcel: the script, the own events, the nodes that have run, the slices that were run, and the answers
unfoldable pub parcel_bytes : Key → List Own → List ℕ
parcel_bytes k own =
    codes "MALPACK1" ++ (sized (spelling (script_of k own)) ++ (sized (own_text k own)
    ++ (listed (node_bytes (solo own)) (ran_indices (solo own))
    ++ (listed slice_bytes (solo own).slices ++ listed answer_bytes (solo own).answers))))
