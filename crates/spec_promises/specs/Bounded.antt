-- How many starts a run has at the most.
use Rattle.std.specs.Prelude.{◌≡◌, ℕ, ◌+◌, ◌*◌, ◌≤◌, Bool, true, false, List, length, count_by, sum_by, slice_get, Some}
use Rattle.mal_base.specs.Limits.{limits}
use Rattle.spec_job.specs.KeyedJob.{Key}
use Rattle.spec_hall.specs.Events.{Event, Start}
use Rattle.spec_hall.specs.Own.{is_key}
use Rattle.spec_script.specs.Formed.{IsScript}
use Rattle.spec_script.specs.Script.{ScriptedJob, Scripted, revisions}
use Rattle.spec_run.specs.Complete.{key_of_job}
use Rattle.spec_run.specs.Losses.{NoneIsLost}
use Rattle.spec_run.specs.Run.{IsRun}

-- whether an event is a start, and one of a node of this job
abbrev pub is_start : Event → Bool
is_start (Start k index worker) = true
is_start event = false

abbrev pub is_start_of : Key → Event → Bool
is_start_of k (Start j index worker) = is_key k j
is_start_of k event = false

-- how many starts a history has, and how many of a job
abbrev pub starts_in : List Event → ℕ
starts_in history = count_by is_start history

abbrev pub starts_of : Key → List Event → ℕ
starts_of k history = count_by (is_start_of k) history

-- for each revision of a job its slices, and two starts that run out of memory: a third one answers in place of a slice
abbrev pub most_starts : ScriptedJob → ℕ
most_starts j = length (revisions j) * (j.ask.slices + 2)

-- where no start is lost, each job of a script is started no more often: late ones count, which ended after the answer
abbrev pub JobIsBounded : Type 0
JobIsBounded =
    (workers i : ℕ) (s : Scripted) (history : List Event) (log out : List ℕ) (j : ScriptedJob) → 1 ≤ workers → workers ≤ 64
    → IsScript limits s → IsRun workers s history log out → NoneIsLost history → slice_get s.jobs i ≡ Some j
    → starts_of (key_of_job j) history ≤ most_starts j

-- so a run has no more starts than these for all jobs
abbrev pub RunIsBounded : Type 0
RunIsBounded =
    (workers : ℕ) (s : Scripted) (history : List Event) (log out : List ℕ) → 1 ≤ workers → workers ≤ 64
    → IsScript limits s → IsRun workers s history log out → NoneIsLost history
    → starts_in history ≤ sum_by most_starts s.jobs
