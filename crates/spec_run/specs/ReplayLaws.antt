use Rattle.std.specs.Prelude.{◌≡◌, ◌≢◌, ℕ, ◌≤◌, List, length, map, Result, Ok, Err}
use Rattle.mal_history.specs.declared.event.Event as written
use Rattle.mal_history.specs.Formed.{IsHistory}
use Rattle.mal_history.specs.Reading.{most_events}
use Rattle.spec_hall.specs.Events.{Event, bare}
use Rattle.mal_base.specs.declared.replay_fault.ReplayFault.{ReplayFault}
use Rattle.mal_base.specs.declared.replay_fault.ReplayFault.TheVariants.{OutOfMemory}
use Rattle.spec_run.specs.Replayed.{IsReplay, IsReplied}
use Rattle.spec_run.specs.Run.{IsRun}
use Rattle.spec_script.specs.Formed.{IsScript}
use Rattle.mal_base.specs.Limits.{limits}
use Rattle.spec_script.specs.Script.{Scripted}

-- the answers exclude each other: where memory ran out neither time, the answers to one history are the same
abbrev pub ReplayIsDecided : Type 0
ReplayIsDecided =
    (workers : ℕ) (s : Scripted) (lines : List written.Event) (line_of : ℕ → ℕ) (one other : Result (List ℕ) ReplayFault)
    → IsReplay workers s lines line_of one → IsReplay workers s lines line_of other → one ≢ Err OutOfMemory → other ≢ Err OutOfMemory → one ≡ other

-- a run's own history replays to its output: where a script was run, what the log writes down is a legal history,
-- complete for the script, whose replies are the output
abbrev pub RunIsReplied : Type 0
RunIsReplied =
    (workers : ℕ) (s : Scripted) (history : List Event) (log out : List ℕ)
    → IsScript limits s → IsRun workers s history log out → IsReplied workers s (map bare history) out

-- and what a run of 1 to 64 workers writes down is in form, where it has no more events than a text may have
abbrev pub RunIsFormed : Type 0
RunIsFormed =
    (workers : ℕ) (s : Scripted) (history : List Event) (log out : List ℕ)
    → 1 ≤ workers → workers ≤ 64 → IsRun workers s history log out → length history ≤ most_events → IsHistory workers (map bare history)

-- so no replay of it answers anything else, unless memory runs out
abbrev pub RunIsReplayed : Type 0
RunIsReplayed =
    (workers : ℕ) (s : Scripted) (history : List Event) (log out : List ℕ) (line_of : ℕ → ℕ) (answer : Result (List ℕ) ReplayFault)
    → IsScript limits s → IsRun workers s history log out → IsReplay workers s (map bare history) line_of answer → answer ≢ Err OutOfMemory → answer ≡ Ok out
