use Rattle.std.specs.Prelude.{◌≡◌, ◌*◌, ◌≤◌, List, ◌∷◌, length}
use Rattle.mal_base.specs.Asks.{Terms}
use Rattle.spec_job.specs.Counts.{runs_of, starts_out, IsOpenedOnce}
use Rattle.spec_job.specs.SoloMachine.{Own, Opened, SoloMachine, solo}
use Rattle.mal_job.specs.Asking.{IsAsked}
use Rattle.mal_job.specs.Placing.{IsTree}
use Rattle.mal_job.specs.Viewed.{Parts, state_of}

-- the own events of a machine, which was opened once
pub record IsOwn (s : SoloMachine) : Type 0 where
  pub ask : Terms
  pub own : List Own
  pub once : IsOpenedOnce ask own
  pub is : s ≡ solo (Opened ask ∷ own)

-- what a job keeps: its machine was run alone on own events that may happen, after one opening; each of its parts
-- keeps what it has to; the tree's nodes have the profile that the job asks for; and the log has no more lines than the
-- slices may have given, and room for a chunk of each start that is out
pub record JobInvariant (q : Parts) : Type 0 where
  pub own : IsOwn (state_of q)
  pub asked : IsAsked q.asked
  pub tree : IsTree q.tree
  pub solvers : q.tree.profile ≡ q.asked.ask.profile
  pub ran : q.tree.ran ≤ runs_of (state_of q).places
  pub few_lines : length q.log.lines ≤ runs_of (state_of q).places * 1000
  pub chunks : starts_out (state_of q).places ≤ q.log.chunk_room
