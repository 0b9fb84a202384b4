-- A course of questions to one job: which revision follows what was told of the one before.
use Rattle.std.specs.Prelude.{◌≡◌, ℕ, List, [], ◌∷◌}
use Rattle.mal_revision.specs.Posted.{Posted}
use Rattle.spec_report.specs.Replies.{ReplyBody, AllSpent, AllStarved}

-- what follows: a revision is asked in this state, or an outcome is reached
pub data Next (S O : Type 0) : Type 0 where
  Asks : S → Posted → Next S O
  Ends : O → Next S O

-- a revision that was asked, and what was told of it
pub record Asked : Type 0 where
  pub revision : Posted
  pub told : ReplyBody

-- questions lead from one to the other, each by what was told of it
abbrev pub Leads : {S O : Type 0} → (S → ReplyBody → Next S O) → Next S O → List Asked → Next S O → Type 0
Leads step now [] end = now ≡ end
Leads step (Ends o) (x ∷ xs) end = ⊥
Leads step (Asks s r) (x ∷ xs) end = (x.revision ≡ r) × Leads step (step s x.told) xs end

-- why what is told is unknown: so many slices are spent, or three starts wanted memory
pub data Cause : Type 0 where
  Spent : ℕ → Cause
  Starved : Cause

-- what tells it
abbrev pub unknown : Cause → ReplyBody
unknown (Spent n) = AllSpent n
unknown Starved = AllStarved
