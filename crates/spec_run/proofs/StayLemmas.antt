-- No job moves by what a script posts, nor by turns.
use Rattle.std.proofs.Common.{◌≡◌, ℕ, ◌+◌, false, List, [], ◌∷◌, ◌++◌, flat_map, refl, ◌∙◌, ap}
use Rattle.std.specs.List.{list_any}
use Rattle.std.proofs.lemmas.Bool.{or_from}
use Rattle.std.proofs.lemmas.List.Folds.{list_any-append}
use Rattle.spec_job.specs.KeyedJob.{Key}
use Rattle.spec_hall.specs.Events.{Event, Close, moves}
use Rattle.spec_hall.specs.Driven.{Turn, Balances, Exchanges, Slices, events_in, GrowsByTurns}
use Rattle.spec_run.specs.Complete.{key_of_job, job_events, open_events, step_events, script_events}
use Rattle.spec_script.specs.Script.{ScriptedJob, Scripted}
use Rattle.spec_script.specs.declared.step.Step.{Step}
use Rattle.spec_script.specs.declared.step.Step.TheVariants as steps

-- no job moves in two parts where none does in either
parts-stay : (a b : List Event) → list_any moves a ≡ false → list_any moves b ≡ false → list_any moves (a ++ b) ≡ false
parts-stay a b x y = list_any-append moves a b ∙ or_from (list_any moves a) (list_any moves b) x y

opened-stay : (js : List ScriptedJob) → list_any moves (open_events js) ≡ false
opened-stay [] = refl
opened-stay (j ∷ js) = opened-stay js

stepped-stay : (k : Key) (n : ℕ) (ss : List Step) → list_any moves (step_events k n ss) ≡ false
stepped-stay k n [] = refl
stepped-stay k n (steps.Revise r ∷ ss) = stepped-stay k (n + 1) ss
stepped-stay k n (steps.Reask w ∷ ss) = stepped-stay k n ss

pub job-stays : (j : ScriptedJob) → list_any moves (job_events j) ≡ false
job-stays j = parts-stay (step_events (key_of_job j) 1 j.steps) (Close (key_of_job j) ∷ []) (stepped-stay (key_of_job j) 1 j.steps) refl

pub jobs-stay : (js : List ScriptedJob) → list_any moves (flat_map job_events js) ≡ false
jobs-stay [] = refl
jobs-stay (j ∷ js) = parts-stay (job_events j) (flat_map job_events js) (job-stays j) (jobs-stay js)

pub turns-stay : (ts : List Turn) → list_any moves (flat_map events_in ts) ≡ false
turns-stay [] = refl
turns-stay (Balances shares ∷ ts) = turns-stay ts
turns-stay (Exchanges k ∷ ts) = turns-stay ts
turns-stay (Slices k index outcome ∷ ts) = turns-stay ts

-- so no job moves in a history that grew by turns from a script's postings
pub grown-stays : (workers : ℕ) (s : Scripted) (h : List Event) → GrowsByTurns workers (script_events s) h → list_any moves h ≡ false
grown-stays workers s h grows =
    ap (list_any moves) grows.grown
    ∙ parts-stay (script_events s) (flat_map events_in grows.turns) (parts-stay (open_events s.jobs) (flat_map job_events s.jobs) (opened-stay s.jobs) (jobs-stay s.jobs)) (turns-stay grows.turns)
