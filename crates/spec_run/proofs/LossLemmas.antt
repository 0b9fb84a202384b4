-- Which events lose a lease, and which are starts by others than the first worker.
use Rattle.std.proofs.Common.{◌≡◌, ℕ, ◌+◌, Bool, true, false, ◌||◌, ◌&&◌, List, [], ◌∷◌, ◌++◌, flat_map, refl, sym, ◌∙◌, ap, append-nil, append_assoc, Option, Some, None}
use Rattle.std.specs.List.{list_all, list_any}
use Rattle.std.specs.Option.{option_map_or}
use Rattle.mal_base.specs.declared.verdict.Outcome.TheVariants.{Lost}
use Rattle.spec_job.specs.KeyedJob.{Key}
use Rattle.spec_hall.specs.Calls.{lost_of, recalled}
use Rattle.spec_hall.specs.Driven.{Turn, Balances, Exchanges, Slices, events_in, was_lost, AreTurns, GrowsByTurns}
use Rattle.spec_hall.specs.Events.{Event, Close, Finish}
use Rattle.spec_hall.specs.States.{LeaseOut, leases, lease_of}
use Rattle.spec_node.specs.Load.{counted}
use Rattle.spec_run.specs.Complete.{key_of_job, job_events, open_events, step_events, script_events}
use Rattle.spec_run.specs.Losses.{is_loss, NoneIsLost, is_not_by_others, LosesLate}
use Rattle.spec_script.specs.Script.{ScriptedJob, Scripted}
use Rattle.spec_script.specs.declared.step.Step.{Step}
use Rattle.spec_script.specs.declared.step.Step.TheVariants as steps

-- none is lost in two parts where none is in either
pub parts-lose-none : (a b : List Event) → NoneIsLost a → NoneIsLost b → NoneIsLost (a ++ b)
parts-lose-none [] b x y = y
parts-lose-none (e ∷ es) b x y = by_test (is_loss e) x (λ h. parts-lose-none es b h y)
  where
    by_test : (is : Bool) → (is || list_any is_loss es) ≡ false → (list_any is_loss es ≡ false → list_any is_loss (es ++ b) ≡ false) → (is || list_any is_loss (es ++ b)) ≡ false
    by_test true h rest = h
    by_test false h rest = rest h

-- nothing that is posted loses a lease
opened-lose-none : (js : List ScriptedJob) → NoneIsLost (open_events js)
opened-lose-none [] = refl
opened-lose-none (j ∷ js) = opened-lose-none js

stepped-lose-none : (k : Key) (n : ℕ) (ss : List Step) → NoneIsLost (step_events k n ss)
stepped-lose-none k n [] = refl
stepped-lose-none k n (steps.Revise r ∷ ss) = stepped-lose-none k (n + 1) ss
stepped-lose-none k n (steps.Reask w ∷ ss) = stepped-lose-none k n ss

pub job-loses-none : (j : ScriptedJob) → NoneIsLost (job_events j)
job-loses-none j = parts-lose-none (step_events (key_of_job j) 1 j.steps) (Close (key_of_job j) ∷ []) (stepped-lose-none (key_of_job j) 1 j.steps) refl

pub jobs-lose-none : (js : List ScriptedJob) → NoneIsLost (flat_map job_events js)
jobs-lose-none [] = refl
jobs-lose-none (j ∷ js) = parts-lose-none (job_events j) (flat_map job_events js) (job-loses-none j) (jobs-lose-none js)

pub script-loses-none : (s : Scripted) → NoneIsLost (script_events s)
script-loses-none s = parts-lose-none (open_events s.jobs) (flat_map job_events s.jobs) (opened-lose-none s.jobs) (jobs-lose-none s.jobs)

-- turns lose no lease
turns-lose-none : (workers : ℕ) (past : List Event) (ts : List Turn) → AreTurns workers past ts → NoneIsLost (flat_map events_in ts)
turns-lose-none workers past [] are = refl
turns-lose-none workers past (Balances shares ∷ ts) are = turns-lose-none workers (past ++ events_in (Balances shares)) ts are.3
turns-lose-none workers past (Exchanges k ∷ ts) are = turns-lose-none workers (past ++ events_in (Exchanges k)) ts are.3
turns-lose-none workers past (Slices k index outcome ∷ ts) are = by_test (was_lost outcome) are.1 (turns-lose-none workers (past ++ events_in (Slices k index outcome)) ts are.3)
  where
    by_test : (b : Bool) → b ≡ false → NoneIsLost (flat_map events_in ts) → (b || list_any is_loss (flat_map events_in ts)) ≡ false
    by_test true h rest = h
    by_test false h rest = rest

pub grown-loses-none : (workers : ℕ) (past h : List Event) → GrowsByTurns workers past h → NoneIsLost past → NoneIsLost h
grown-loses-none workers past h grows none = ap (list_any is_loss) grows.grown ∙ parts-lose-none past (flat_map events_in grows.turns) none (turns-lose-none workers past grows.turns grows.allowed)

-- and start no node by another worker than the first
turns-by-first : (ts : List Turn) → list_all is_not_by_others (flat_map events_in ts) ≡ true
turns-by-first [] = refl
turns-by-first (Balances shares ∷ ts) = turns-by-first ts
turns-by-first (Exchanges k ∷ ts) = turns-by-first ts
turns-by-first (Slices k index outcome ∷ ts) = turns-by-first ts

-- what is recalled starts none
all-parts : (a b : List Event) → list_all is_not_by_others a ≡ true → list_all is_not_by_others b ≡ true → list_all is_not_by_others (a ++ b) ≡ true
all-parts [] b x y = y
all-parts (e ∷ es) b x y = by_test (is_not_by_others e) x (all-parts es b)
  where
    by_test : (is : Bool) → (is && list_all is_not_by_others es) ≡ true → (list_all is_not_by_others es ≡ true → list_all is_not_by_others b ≡ true → list_all is_not_by_others (es ++ b) ≡ true) → (is && list_all is_not_by_others (es ++ b)) ≡ true
    by_test true h rest = rest h y
    by_test false h rest = h

lost-by-first : (worker : ℕ) (o : Option LeaseOut) → list_all is_not_by_others (option_map_or (λ l. Finish l.key l.index worker Lost ∷ []) o []) ≡ true
lost-by-first worker None = refl
lost-by-first worker (Some l) = refl

recalled-by-first : (out : List LeaseOut) (ws : List ℕ) → list_all is_not_by_others (flat_map (lost_of out) ws) ≡ true
recalled-by-first out [] = refl
recalled-by-first out (w ∷ ws) = all-parts (lost_of out w) (flat_map (lost_of out) ws) (lost-by-first w (lease_of w out)) (recalled-by-first out ws)

-- a history without a loss that was recalled and went on by turns loses leases late
pub recalled-late : (workers : ℕ) (posted lost h : List Event) → NoneIsLost posted → lost ≡ posted ++ recalled workers posted → GrowsByTurns workers lost h → LosesLate h
recalled-late workers posted lost h none is grows = record {
  before = posted;
  after = recalled workers posted ++ flat_map events_in grows.turns;
  parts = grows.grown ∙ (ap (λ (x : List Event). x ++ flat_map events_in grows.turns) is ∙ append_assoc posted (recalled workers posted) (flat_map events_in grows.turns));
  none = none;
  first = all-parts (recalled workers posted) (flat_map events_in grows.turns) (recalled-by-first (leases posted) (counted 1 workers)) (turns-by-first grows.turns);
}

-- so does one that lost none
pub none-late : (h : List Event) → NoneIsLost h → LosesLate h
none-late h none = record { before = h; after = []; parts = sym (append-nil h); none = none; first = refl }
