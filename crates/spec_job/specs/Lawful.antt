use Rattle.std.specs.Prelude.{◌≡◌, ◌+◌, ◌<◌, ◌≤◌, true, false, List, [], ◌∷◌, ◌++◌, length, is_some}
use Rattle.mal_base.specs.Asks.{Terms, Weighed, IsAsk, IsWeight}
use Rattle.mal_base.specs.Formulas.{literals_of}
use Rattle.mal_base.specs.Limits.{limits}
use Rattle.mal_revision.specs.Posted.{Posted, is_posted}
use Rattle.spec_job.specs.SoloMachine.{Own, Opened, Revised, Reasked, Closed, Volume, Started, Finished, Exchanged, SoloMachine, solo, startable, place_at, is_exchange_due, clauses_in, literals_in}
use Rattle.spec_job.specs.Counts.{IsOpenedOnce}
use Rattle.spec_job.specs.Runnable.{IsRunnable}

-- a job that is open takes its next revision, within what is served of revisions, of their clauses and of their
-- literals
pub record MayGrow (s : SoloMachine) (r : Posted) : Type 0 where
  pub open_still : s.closed ≡ false
  pub posted : is_posted r ≡ true
  pub few : length s.revisions < limits.revisions
  pub clauses : clauses_in s.revisions + length r.clauses ≤ limits.clauses
  pub literals : literals_in s.revisions + literals_of r.clauses ≤ limits.literals

-- a job that is open may change what it asks for to a priority and a demand in form
pub record MayWeigh (s : SoloMachine) (w : Weighed) : Type 0 where
  pub open_still : s.closed ≡ false
  pub weighed : IsWeight w

-- an event may come in a job's own life after its opening
abbrev pub MayPass : SoloMachine → Own → Type 0
MayPass s (Opened ask) = ⊥
MayPass s (Revised r) = MayGrow s r
MayPass s (Reasked w) = MayWeigh s w
MayPass s Closed = s.closed ≡ false
MayPass s (Volume v) = v ≤ 64
MayPass s (Started i) = startable s i ≡ true
MayPass s (Finished i outcome) = is_some (place_at s i).out ≡ true
MayPass s Exchanged = is_exchange_due s ≡ true

-- each own event may come after the past and those before it
abbrev pub AllPass : List Own → List Own → Type 0
AllPass past [] = Unit {0}
AllPass past (o ∷ os) = MayPass (solo past) o × AllPass (past ++ o ∷ []) os

-- a job's own events are lawful: it is opened first, and each other event may come after those before it
abbrev pub IsLawful : List Own → Type 0
IsLawful [] = ⊥
IsLawful (Opened ask ∷ os) = IsAsk ask × AllPass (Opened ask ∷ []) os
IsLawful (Revised r ∷ os) = ⊥
IsLawful (Reasked w ∷ os) = ⊥
IsLawful (Closed ∷ os) = ⊥
IsLawful (Volume v ∷ os) = ⊥
IsLawful (Started i ∷ os) = ⊥
IsLawful (Finished i outcome ∷ os) = ⊥
IsLawful (Exchanged ∷ os) = ⊥

-- a lawful job is opened once
abbrev pub LawfulIsOnce : Type 0
LawfulIsOnce = (ask : Terms) (own : List Own) → IsLawful (Opened ask ∷ own) → IsOpenedOnce ask own

-- lawful own events may each happen after those before them
abbrev pub LawfulIsRunnable : Type 0
LawfulIsRunnable = (own : List Own) → IsLawful own → IsRunnable [] own
