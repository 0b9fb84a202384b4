-- Three live jobs share eight workers, and then the priority of the last one rises.
use Rattle.std.specs.Prelude.{◌≡◌, ℕ, List, [], ◌∷◌, ◌++◌, map, Some, None}
use Rattle.std.specs.Option.{option_map}
use Rattle.mal_base.specs.declared.profile.Profile.TheVariants.{Plain}
use Rattle.mal_base.specs.Asks.{Terms}
use Rattle.mal_history.specs.declared.event.Share.{Share}
use Rattle.spec_balance.specs.Fair.{IsFair}
use Rattle.spec_job.specs.Examples.{one_of_two, weight}
use Rattle.spec_job.specs.KeyedJob.{Key, KeyedJob}
use Rattle.spec_job.specs.SoloMachine.{Opened, Revised, Reasked, Volume}
use Rattle.spec_hall.specs.Events.{Event, Open, Revise, Reask, Close, Balance}
use Rattle.spec_hall.specs.Own.{own}
use Rattle.spec_hall.specs.States.{lives, live_asks, states, balanced}
use Rattle.spec_hall.specs.Legal.{IsBalanceDue, MayReask, Legal, job_of}

-- the key of a job of the tenant `a` under a name of one letter
abbrev pub key : ℕ → Key
key letter = record { tenant = 97 ∷ []; job = letter ∷ [] }

-- an ask of this priority for eight workers
abbrev pub eight : ℕ → Terms
eight priority = record { priority = priority; demand = 8; slices = 4; profile = Plain }

-- a job is opened with this priority and gets a revision
abbrev pub posted : ℕ → ℕ → List Event
posted letter priority = Open (key letter) (eight priority) ∷ Revise (key letter) 1 one_of_two ∷ []

-- the volume of a job
abbrev pub share : ℕ → ℕ → Share
share letter volume = record { tenant = 97 ∷ []; job = letter ∷ []; volume = volume }

-- a balancing that gives the jobs p, q and r these volumes
abbrev pub shared : ℕ → ℕ → ℕ → Event
shared p q r = Balance (share 112 p ∷ share 113 q ∷ share 114 r ∷ [])

-- the jobs p, q and r of priorities 4, 2 and 1, live
abbrev pub three : List Event
three = posted 112 4 ++ posted 113 2 ++ posted 114 1

-- the same jobs with their volumes
abbrev pub before : List Event
before = three ++ shared 5 2 1 ∷ []

-- then r is as urgent as p
abbrev pub raised : List Event
raised = before ++ Reask (key 114) (weight 4 8) ∷ []

-- and has its volume
abbrev pub after : List Event
after = raised ++ shared 3 2 3 ∷ []

-- worked examples of an ask that changes: a balancing is due by it, which moves workers between the nodes of the live
-- jobs; none is due where the ask has the priority and the demand that the last balancing read, or the job is not live
pub record HasReasks : Type 0 where
  pub fair : IsFair 8 (live_asks (states three)) (5 ∷ 2 ∷ 1 ∷ [])
  pub calm : Some (lives (states before)) ≡ balanced before
  pub read : option_map (λ ls. map (λ l. l.priority) ls) (balanced raised) ≡ Some (4 ∷ 2 ∷ 1 ∷ [])
  pub now : map (λ l. l.priority) (lives (states raised)) ≡ 4 ∷ 2 ∷ 4 ∷ []
  pub due : IsBalanceDue raised
  pub fair_now : IsFair 8 (live_asks (states raised)) (3 ∷ 2 ∷ 3 ∷ [])
  pub calm_now : Some (lives (states after)) ≡ balanced after
  pub legal : Legal 8 after
  pub mine : own (key 114) after ≡ Opened (eight 1) ∷ Revised one_of_two ∷ Volume 1 ∷ Reasked (weight 4 8) ∷ Volume 3 ∷ []
  pub others : own (key 112) raised ≡ own (key 112) before
  pub same : Some (lives (states (before ++ Reask (key 114) (weight 1 8) ∷ []))) ≡ balanced before
  pub back : Some (lives (states (raised ++ Reask (key 114) (weight 1 8) ∷ []))) ≡ balanced raised
  pub idle : Some (lives (states (before ++ Open (key 115) (eight 1) ∷ Reask (key 115) (weight 4 8) ∷ []))) ≡ balanced before
  pub closed : (t : KeyedJob) → MayReask (before ++ Close (key 114) ∷ []) (key 114) (weight 4 8) t → ⊥
  pub none : job_of (key 115) (states before) ≡ None
