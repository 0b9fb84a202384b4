-- A job that is asked revision by revision, alone in a hall of one worker.
use Rattle.std.specs.Prelude.{◌≡◌, ℕ, suc, List, [], ◌∷◌, ◌++◌, map, flat_map, Some}
use Rattle.mal_base.specs.Asks.{Terms}
use Rattle.mal_revision.specs.Posted.{Posted}
use Rattle.spec_job.specs.KeyedJob.{Key}
use Rattle.spec_job.specs.Replies.{body_of}
use Rattle.spec_job.specs.SoloMachine.{solo}
use Rattle.spec_course.specs.Course.{Asked}
use Rattle.spec_hall.specs.Driven.{Turn, AreTurns, IsIdle, events_in}
use Rattle.spec_hall.specs.Events.{Event, Open, Revise}
use Rattle.spec_hall.specs.Legal.{Allowed, MayOpen}
use Rattle.spec_hall.specs.Own.{own}

-- a round: a revision with what is told of it, and the turns that lead from the one to the other
pub record Round : Type 0 where
  pub asked : Asked
  pub turns : List Turn

-- the events of the round of this number: its revision, and the turns after it, each start with its finish
abbrev pub round_events : Key → ℕ → Round → List Event
round_events k n x = Revise k n x.asked.revision ∷ flat_map events_in x.turns

-- after a past comes the round of this number: its revision may be posted, turns of the one worker follow until no node
-- may start, and this is what the job's machine tells of the revision then
pub record IsRound (k : Key) (past : List Event) (n : ℕ) (x : Round) : Type 0 where
  pub posted : Allowed 1 past (Revise k n x.asked.revision)
  pub turned : AreTurns 1 (past ++ Revise k n x.asked.revision ∷ []) x.turns
  pub idle : IsIdle (past ++ round_events k n x)
  pub told : body_of n (solo (own k (past ++ round_events k n x))) ≡ Some x.asked.told

-- rounds, one after the other, of which the first has this number
abbrev pub AreRounds : Key → List Event → ℕ → List Round → List Event → Type 0
AreRounds k past n [] history = history ≡ past
AreRounds k past n (x ∷ xs) history = IsRound k past n x × AreRounds k (past ++ round_events k n x) (suc n) xs history

-- a job was opened in a hall of one worker and asked in these rounds, and nothing else is in the history
pub record IsInquiry (k : Key) (ask : Terms) (rounds : List Round) (history : List Event) : Type 0 where
  pub opened : MayOpen [] k ask
  pub asked : AreRounds k (Open k ask ∷ []) 1 rounds history

-- what was asked in rounds, with what was told
abbrev pub asked_in : List Round → List Asked
asked_in rounds = map (λ x. x.asked) rounds

-- and the revisions alone
abbrev pub revisions_in : List Round → List Posted
revisions_in rounds = map (λ x. x.asked.revision) rounds
