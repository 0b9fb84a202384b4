use Rattle.std.specs.Prelude.{ℕ, ◌+◌, ◌-◌, List, [], ◌∷◌, length, take, drop}
use Rattle.mal_revision.specs.Posted.{Posted}
use Rattle.spec_job.specs.SoloMachine.{clauses_in}
use Rattle.mal_job.specs.Viewed.{QuestionsView}

-- revisions, each with the number of its first clause, where the first clause of them all has this number
abbrev pub paired : ℕ → List Posted → List (Posted × ℕ)
paired first [] = []
paired first (r ∷ rs) = (r, first) ∷ paired (first + length r.clauses) rs

-- the revisions that a node lacks up to the current one, where it has loaded so many
abbrev pub lacking : ℕ → QuestionsView → List (Posted × ℕ)
lacking loaded q = paired (clauses_in (take loaded q.revisions) + 1) (take (length q.answers + 1 - loaded) (drop loaded q.revisions))
