-- Which leases a run loses, by where its gate stops workers.
use Rattle.std.proofs.Common.{◌≡◌, ℕ, true, false, List, sym, ◌∙◌}
use Rattle.mal_answer.specs.Commands.{IsRunOf, IsStoppedRunOf, Stops, StopsSomewhere}
use Rattle.mal_cli.specs.Stopping.{stops_of}
use Rattle.mal_pool.specs.Gates as gates
use Rattle.mal_pool.specs.Gates.{LosesByStops}
use Rattle.mal_pool.specs.declared.gate.Point.TheVariants.{Before, After}
use Rattle.spec_hall.specs.Driven.{IsDriven}
use Rattle.spec_hall.specs.Events.{Event}
use Rattle.spec_run.proofs.LossLemmas.{none-late}
use Rattle.spec_run.specs.Complete.{script_events}
use Rattle.spec_run.specs.Losses.{NoneIsLost}
use Rattle.spec_run.specs.Run.{IsRun}
use Rattle.spec_script.specs.Script.{Scripted}

somewhere : (stops : gates.Stops) → gates.StopsSomewhere stops → StopsSomewhere (stops_of stops)
somewhere stops (Before, start, worker, is) = (false, start, worker, is)
somewhere stops (After, start, worker, is) = (true, start, worker, is)

pub stopped-run : (stops : gates.Stops) (workers : ℕ) (s : Scripted) (history : List Event) (log out : List ℕ) → IsRun workers s history log out → (workers ≡ 1 → IsDriven workers (script_events s) history) → LosesByStops stops history → IsStoppedRunOf (stops_of stops) workers s log out
stopped-run stops workers s history log out run alone loses = record {
  ran = record { history = history; run = run; alone = alone };
  lost = λ some. somewhere stops (loses.stopped some);
  late = loses.late;
}

pub unstopped-run : (stops : Stops) (workers : ℕ) (s : Scripted) (history : List Event) (log out : List ℕ) → IsRun workers s history log out → IsDriven workers (script_events s) history → NoneIsLost history → IsStoppedRunOf stops workers s log out
unstopped-run stops workers s history log out run alone none = record {
  ran = record { history = history; run = run; alone = λ one. alone };
  lost = λ some. absurd (let wrong : false ≡ true = sym none ∙ some in cc);
  late = none-late history none;
}
