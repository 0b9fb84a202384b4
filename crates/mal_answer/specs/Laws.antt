-- What holds of every run, in the form in which the law function states it.
use Rattle.std.specs.Prelude.{ℕ, ◌≤◌, List, [], ◌++◌, length, codes}
use Rattle.mal_answer.specs.Command.{IsLawful}
use Rattle.mal_answer.specs.Commands.{IsRunOf, IsStoppedRunOf, StopsSomewhere, Stops, command_of, replaying}
use Rattle.mal_history.specs.Reading.{most_events}
use Rattle.mal_answer.specs.Requests.{IsAskedBy}
use Rattle.mal_answer.specs.declared.words.request.Request.{Request}
use Rattle.spec_run.specs.Losses.{NoneIsLost}
use Rattle.spec_script.specs.Formed.{IsScript}
use Rattle.mal_base.specs.Limits.{limits}
use Rattle.spec_script.specs.Script.{Scripted, spelling}

-- what holds of each command holds of all of the program
abbrev pub AreLawful : Type 0
AreLawful = (stops : Stops) (r : Request) → IsLawful (command_of stops r)

-- a request is asked for by the words of its command
abbrev pub HaveOwnWords : Type 0
HaveOwnWords = (stops : Stops) (r : Request) → IsAskedBy (command_of stops r).words r

-- where a script was run by 1 to 64 workers, replaying the text that is the script's, the line `history` and the run's
-- log gives the run's output, unless the history is longer than a text of one may be
abbrev pub RunReplays : Type 0
RunReplays =
    (workers : ℕ) (s : Scripted) (log out : List ℕ) (run : IsRunOf workers s log out) → IsScript limits s → 1 ≤ workers → workers ≤ 64
    → length run.history ≤ most_events → replaying.Gives (spelling s ++ (codes "history\n" ++ log)) [] out

-- where no worker is stopped, no lease is lost
abbrev pub NoneStopsNoneLost : Type 0
NoneStopsNoneLost =
    (stops : Stops) (workers : ℕ) (s : Scripted) (log out : List ℕ) (run : IsStoppedRunOf stops workers s log out) → (StopsSomewhere stops → ⊥)
    → NoneIsLost run.ran.history
