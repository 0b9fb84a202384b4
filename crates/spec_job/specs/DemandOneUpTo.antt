-- A job that one node runs: what is asked about a revision is decided by the revisions up to it, whatever comes after.
use Rattle.std.specs.Prelude.{◌≡◌, ℕ, ◌+◌, true, false, List, [], ◌∷◌, take, slice_get, Some}
use Rattle.mal_base.specs.Asks.{Terms}
use Rattle.mal_base.specs.declared.answer.Answer.{Answer}
use Rattle.mal_base.specs.declared.answer.Answer.TheVariants.{Satisfied, Refuted}
use Rattle.mal_base.specs.declared.verdict.Outcome.TheVariants.{Ran}
use Rattle.mal_revision.specs.Posted.{Posted}
use Rattle.spec_job.specs.SoloMachine.{Own, Opened, Revised, Closed, Volume, Started, Finished, SoloMachine, solo}
use Rattle.spec_job.specs.KeyedJob.{Key}
use Rattle.spec_job.specs.Replies.{reply}
use Rattle.spec_job.specs.DemandOne.{IsSingle}
use Rattle.spec_job.specs.Examples.{ask, one_of_two, third_true}
use Rattle.spec_search.specs.Examples.{at_odds}

-- two machines agree on a revision, counted from 0: on its answer and on its reply, where both have them
pub record AgreeOn (r : ℕ) (s t : SoloMachine) : Type 0 where
  pub answers : (a b : Answer) → slice_get s.answers r ≡ Some a → slice_get t.answers r ≡ Some b → a ≡ b
  pub replies : (k : Key) (a b : List ℕ) → reply k (r + 1) s ≡ Some a → reply k (r + 1) t ≡ Some b → a ≡ b

-- the answer and the reply to a revision of a job that one node runs are decided by its name, its budget, its solvers'
-- profile and its revisions up to that one: where two runs have these alike, they agree on it, whatever revisions come
-- after
abbrev pub SinglesAgreeUpTo : Type 0
SinglesAgreeUpTo =
    (ask asked : Terms) (own others : List Own) (r : ℕ) → ask.slices ≡ asked.slices → ask.profile ≡ asked.profile → IsSingle ask own → IsSingle asked others
    → take (r + 1) (solo (Opened ask ∷ own)).revisions ≡ take (r + 1) (solo (Opened asked ∷ others)).revisions → AgreeOn r (solo (Opened ask ∷ own)) (solo (Opened asked ∷ others))

-- a run of a first revision, after which another one stands from the start, and which is run after the first
abbrev pub first_with : Posted → List Own
first_with later = Revised one_of_two ∷ Revised later ∷ Closed ∷ Volume 1 ∷ Started 0 ∷ Finished 0 Ran ∷ Started 0 ∷ Finished 0 Ran ∷ []

-- a worked example: two runs that agree on their first revision, and not on their second
pub record HasUpTo : Type 0 where
  pub one : IsSingle (ask 1 4) (first_with third_true)
  pub other : IsSingle (ask 1 4) (first_with at_odds)
  pub alike : take 1 (solo (Opened (ask 1 4) ∷ first_with third_true)).revisions ≡ take 1 (solo (Opened (ask 1 4) ∷ first_with at_odds)).revisions
  pub first : slice_get (solo (Opened (ask 1 4) ∷ first_with third_true)).answers 0 ≡ Some (Satisfied (false ∷ true ∷ []))
  pub same : slice_get (solo (Opened (ask 1 4) ∷ first_with at_odds)).answers 0 ≡ Some (Satisfied (false ∷ true ∷ []))
  pub second : slice_get (solo (Opened (ask 1 4) ∷ first_with third_true)).answers 1 ≡ Some (Satisfied (false ∷ true ∷ true ∷ []))
  pub not_same : slice_get (solo (Opened (ask 1 4) ∷ first_with at_odds)).answers 1 ≡ Some (Refuted 4294967296)
