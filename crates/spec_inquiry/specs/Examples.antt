-- A job is asked twice: for a model of a clause, and then under assumptions at odds with it.
use Rattle.std.specs.Prelude.{◌≡◌, ℕ, true, false, List, [], ◌∷◌, Some}
use Rattle.mal_base.specs.declared.verdict.Outcome.TheVariants.{Ran}
use Rattle.mal_revision.specs.Posted.{Posted}
use Rattle.spec_report.specs.Replies.{Model, Proof}
use Rattle.spec_job.specs.Examples.{ask, line, one_of_two}
use Rattle.spec_job.specs.KeyedJob.{Key}
use Rattle.spec_job.specs.Replies.{body_of}
use Rattle.spec_job.specs.SoloMachine.{solo}
use Rattle.spec_hall.specs.Driven.{Turn, Balances, Slices}
use Rattle.spec_hall.specs.Events.{Event, Open, Revise, Balance, Start, Finish}
use Rattle.spec_hall.specs.Examples.{share}
use Rattle.spec_hall.specs.Examples as hall
use Rattle.spec_hall.specs.Own.{own}
use Rattle.spec_inquiry.specs.Asking.{round_of}
use Rattle.spec_inquiry.specs.Rounds.{Round, IsInquiry}

abbrev pub key : Key
key = hall.key 112

-- two variables, both assumed false, and no clauses
abbrev pub none_of_two : Posted
none_of_two = record { variables = 2; clauses = []; assumptions = 3 ∷ 5 ∷ [] }

-- the one worker is the job's while it is live, and one slice answers
abbrev pub one_slice : List Turn
one_slice = Balances (share 112 1 ∷ []) ∷ Slices key 0 Ran ∷ Balances [] ∷ []

-- one of two variables is to be true: the second is
abbrev pub first : Round
first = round_of (record { revision = one_of_two; told = Model (false ∷ true ∷ []) }) one_slice

-- both are to be false besides: both assumptions fail, by one line
abbrev pub second : Round
second = round_of (record { revision = none_of_two; told = Proof (3 ∷ 5 ∷ []) (line 2 (2 ∷ 4 ∷ []) (1 ∷ []) ∷ []) }) one_slice

-- the events of a round
abbrev pub round : ℕ → Posted → List Event → List Event
round n r later = Revise key n r ∷ Balance (share 112 1 ∷ []) ∷ Start key 0 1 ∷ Finish key 0 1 Ran ∷ Balance [] ∷ later

abbrev pub history : List Event
history = Open key (ask 1 4) ∷ round 1 one_of_two (round 2 none_of_two [])

-- a worked example of an inquiry of two rounds, with its whole history
abbrev pub HasRounds : Type 0
HasRounds = IsInquiry key (ask 1 4) (first ∷ second ∷ []) history

-- at its end the job's machine tells of both revisions what was told in their rounds
abbrev pub TellsOfBoth : Type 0
TellsOfBoth = (body_of 1 (solo (own key history)) ≡ Some first.asked.told) × (body_of 2 (solo (own key history)) ≡ Some second.asked.told)
