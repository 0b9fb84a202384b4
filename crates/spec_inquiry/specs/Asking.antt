-- Asking once more.
use Rattle.std.specs.Prelude.{◌+◌, ◌<◌, ◌≤◌, List, [], ◌∷◌, ◌++◌, length}
use Rattle.mal_base.specs.Limits.{limits}
use Rattle.mal_base.specs.Asks.{Terms}
use Rattle.mal_base.specs.Formulas.{literals_of}
use Rattle.mal_revision.specs.Posted.{Posted}
use Rattle.spec_job.specs.KeyedJob.{Key}
use Rattle.spec_job.specs.SoloMachine.{clauses_in, literals_in}
use Rattle.spec_course.specs.Course.{Asked}
use Rattle.spec_hall.specs.Driven.{Turn}
use Rattle.spec_hall.specs.Events.{Event}
use Rattle.spec_inquiry.specs.Evidence.{IsEvidence}
use Rattle.spec_inquiry.specs.Rounds.{Round, IsInquiry, revisions_in}

-- after these revisions there is room for one more: a job has at most 256, with 2^20 clauses and 2^24 literals
pub record MayAsk (revisions : List Posted) (revision : Posted) : Type 0 where
  pub room : length revisions < limits.revisions
  pub clause_room : clauses_in revisions + length revision.clauses ≤ limits.clauses
  pub literal_room : literals_in revisions + literals_of revision.clauses ≤ limits.literals

-- the round of a question, with these turns
abbrev pub round_of : Asked → List Turn → Round
round_of asked turns = record { asked = asked; turns = turns }

-- one question more was asked after these rounds: its round is the last of the history, and what is told has its
-- evidence
pub record HasAsked (k : Key) (ask : Terms) (rounds : List Round) (asked : Asked) (history : List Event) : Type 0 where
  pub turns : List Turn
  pub inquiry : IsInquiry k ask (rounds ++ round_of asked turns ∷ []) history
  pub evidence : IsEvidence (revisions_in rounds ++ asked.revision ∷ []) (length rounds) asked.told
