-- A job of three revisions that goes on to the other of two halls after each slice.
use Rattle.std.specs.Prelude.{◌≡◌, ℕ, List, [], ◌∷◌, ◌++◌, codes, Some}
use Rattle.mal_base.specs.declared.verdict.Outcome.TheVariants.{Ran}
use Rattle.mal_revision.specs.Posted.{Posted}
use Rattle.spec_job.specs.Examples.{ask, one_of_two}
use Rattle.spec_job.specs.KeyedJob.{Key}
use Rattle.spec_job.specs.SoloMachine.{Own, Opened, Revised, Closed, Volume, Started, Finished, solo}
use Rattle.spec_hall.specs.Events.{Event, Open, Revise, Close, Balance, Start, Finish, Leave, Arrive}
use Rattle.spec_hall.specs.Examples.{share}
use Rattle.spec_hall.specs.Own.{own}
use Rattle.spec_hall.specs.Examples as hall
use Rattle.spec_script.specs.Script.{Scripted}
use Rattle.spec_script.specs.declared.step.Step.TheVariants as steps
use Rattle.spec_cluster.specs.Clusters.{Cluster}
use Rattle.spec_cluster.specs.Rounds.{AreRounds}
use Rattle.spec_cluster.specs.Run.{posted, histories_text}
use Rattle.spec_cluster.specs.Visits.{Move, all_of}

abbrev pub key : Key
key = hall.key 112

-- the first of two variables is to be false, where the second is assumed false
abbrev pub second : Posted
second = record { variables = 2; clauses = Some (3 ∷ []) ∷ []; assumptions = 5 ∷ [] }

-- two variables and nothing more
abbrev pub third : Posted
third = record { variables = 2; clauses = []; assumptions = [] }

-- a script with the job p of the tenant a, in which one of two variables is to be true at first
abbrev pub script : Scripted
script = record { jobs = record { tenant = 97 ∷ []; name = 112 ∷ []; ask = ask 1 4; steps = steps.Revise one_of_two ∷ steps.Revise second ∷ steps.Revise third ∷ [] } ∷ [] }

-- what it posts
abbrev pub posts : List Event
posts = Open key (ask 1 4) ∷ Revise key 1 one_of_two ∷ Revise key 2 second ∷ Revise key 3 third ∷ Close key ∷ []

-- a turn of one slice with the balancing that is due before it
abbrev pub slice : List Event
slice = Balance (share 112 1 ∷ []) ∷ Start key 0 1 ∷ Finish key 0 1 Ran ∷ []

-- the same as an own event of the job
abbrev pub own_slice : List Own
own_slice = Volume 1 ∷ Started 0 ∷ Finished 0 Ran ∷ []

-- what the job brings after its first slice, and after its second
abbrev pub once : List Own
once = Opened (ask 1 4) ∷ Revised one_of_two ∷ Revised second ∷ Revised third ∷ Closed ∷ own_slice ++ Volume 0 ∷ []

abbrev pub twice : List Own
twice = once ++ own_slice ++ Volume 0 ∷ []

-- a move of the job to the hall at a place, which has so many events with its arrival
abbrev pub move : ℕ → ℕ → Move
move hall from = record { key = key; visit = record { hall = hall; from = from } }

-- the clusters after each round
abbrev pub after_one : Cluster
after_one = record { workers = 1; halls = (posts ++ slice ++ Leave key ∷ []) ∷ (Arrive key once ∷ []) ∷ []; moves = move 1 1 ∷ [] }

abbrev pub after_two : Cluster
after_two = record { workers = 1; halls = (posts ++ slice ++ Leave key ∷ Arrive key twice ∷ []) ∷ (Arrive key once ∷ slice ++ Leave key ∷ []) ∷ []; moves = move 1 1 ∷ move 0 10 ∷ [] }

abbrev pub after_three : Cluster
after_three = record { workers = 1; halls = (posts ++ slice ++ Leave key ∷ Arrive key twice ∷ slice) ∷ (Arrive key once ∷ slice ++ Leave key ∷ []) ∷ []; moves = move 1 1 ∷ move 0 10 ∷ [] }

-- the lines of both histories
abbrev pub lines : List ℕ
lines = codes "h mal 3 1\no a p 1 1 4\nr a p 1\nr a p 2\nr a p 3\nc a p\nb a p 1\ns a p 0 1\nf a p 0 1 ran\ng a p\nn a p\nb a p 1\ns a p 0 1\nf a p 0 1 ran\nh mal 3 1\nn a p\nb a p 1\ns a p 0 1\nf a p 0 1 ran\ng a p\n"

-- a worked example of rounds: the job moves twice, and then all is answered; its machine is run on all that it did, as it
-- would be in one hall but for the volumes
pub record HasRounds : Type 0 where
  pub rounds : AreRounds 1 (posted 2 1 script) (after_one ∷ after_two ∷ after_three ∷ []) after_three
  pub text : histories_text after_three ≡ lines
  pub did_once : all_of key after_one.halls after_one.moves ≡ once
  pub did_twice : all_of key after_two.halls after_two.moves ≡ twice
  pub did : all_of key after_three.halls after_three.moves ≡ twice ++ own_slice
  pub answers : (solo (all_of key after_three.halls after_three.moves)).answers ≡ (solo (own key (posts ++ slice ++ Start key 0 1 ∷ Finish key 0 1 Ran ∷ Start key 0 1 ∷ Finish key 0 1 Ran ∷ []))).answers
