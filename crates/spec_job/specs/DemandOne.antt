use Rattle.std.specs.Prelude.{◌≡◌, ℕ, ◌≤◌, Bool, true, false, ◌==◌, nat_le, List, [], ◌∷◌, ◌++◌, slice_get, Some}
use Rattle.std.specs.List.{list_all}
use Rattle.mal_base.specs.Asks.{Terms}
use Rattle.mal_base.specs.declared.answer.Answer.{Answer}
use Rattle.mal_base.specs.declared.verdict.Outcome.{Outcome}
use Rattle.mal_base.specs.declared.verdict.Outcome.TheVariants.{Ran, Starved, Lost}
use Rattle.mal_revision.specs.Posted.{Posted}
use Rattle.spec_job.specs.SoloMachine.{Own, Opened, Revised, Reasked, Closed, Volume, Started, Finished, Exchanged, SoloMachine, solo, is_exchange_due}
use Rattle.spec_job.specs.KeyedJob.{Key}
use Rattle.spec_job.specs.Replies.{reply}
use Rattle.spec_job.specs.Runnable.{IsRunnable}

-- no exchange is due where the volume is not above 1
abbrev pub NoneIsDue : Type 0
NoneIsDue = (s : SoloMachine) → s.volume ≤ 1 → is_exchange_due s ≡ false

-- a start did not run out of memory
abbrev pub had_memory : Outcome → Bool
had_memory Ran = true
had_memory Starved = false
had_memory Lost = true

-- whether an own event leaves a job's demand at 1: an opening and an ask that changes have that demand
abbrev pub asks_for_one : Own → Bool
asks_for_one (Opened ask) = ask.demand == 1
asks_for_one (Reasked w) = w.demand == 1
asks_for_one event = true

-- an own event of a job whose demand is always 1, after its opening: an ask that changes keeps that demand, no volume
-- is above 1, so that no exchange is due, and no start runs out of memory
abbrev pub is_single : Own → Bool
is_single (Opened ask) = false
is_single (Revised r) = true
is_single (Reasked w) = w.demand == 1
is_single Closed = true
is_single (Volume v) = nat_le v 1
is_single (Started i) = true
is_single (Finished i outcome) = had_memory outcome
is_single Exchanged = false

-- a job is run by one node: it is opened once, and each of its own events may happen
pub record IsSingle (ask : Terms) (own : List Own) : Type 0 where
  pub runnable : IsRunnable [] (Opened ask ∷ own)
  pub single : list_all is_single own ≡ true

-- two lists of answers agree as far as both go
abbrev pub Agree : List Answer → List Answer → Type 0
Agree xs ys = (r : ℕ) (a b : Answer) → slice_get xs r ≡ Some a → slice_get ys r ≡ Some b → a ≡ b

-- the answers and the replies of two machines agree as far as both go
pub record AgreeAll (s t : SoloMachine) : Type 0 where
  pub answers : Agree s.answers t.answers
  pub replies : (k : Key) (r : ℕ) (a b : List ℕ) → reply k r s ≡ Some a → reply k r t ≡ Some b → a ≡ b

-- each answer and each reply of a job that one node runs is decided by its name, its budget, its solvers' profile and
-- its revisions up to that one, not by its priority, which may change: where the revisions of one run begin with those
-- of another, with the same budget and the same profile, they agree
abbrev pub SinglesAgree : Type 0
SinglesAgree =
    (ask asked : Terms) (own others : List Own) (more : List Posted) → ask.slices ≡ asked.slices → ask.profile ≡ asked.profile → IsSingle ask own → IsSingle asked others
    → (solo (Opened asked ∷ others)).revisions ≡ (solo (Opened ask ∷ own)).revisions ++ more → AgreeAll (solo (Opened ask ∷ own)) (solo (Opened asked ∷ others))
