-- The answer at the front of bytes.
use Rattle.std.specs.Prelude.{ℕ, ◌==◌, Bool, List, [], ◌∷◌, map, Option, Some, None, option_map, option_and_then, if◌then◌else◌}
use Rattle.mal_base.specs.declared.answer.Answer.{Answer}
use Rattle.mal_base.specs.declared.answer.Answer.TheVariants.{Satisfied, Refuted}
use Rattle.mal_parcel.specs.Taking.{front_at, number_at}

-- a model, with a byte for each of so many variables
abbrev pub model_at : ℕ → List ℕ → Option (Option Answer × List ℕ)
model_at variables bytes = option_map (λ m. (Some (Satisfied (map (λ b. b == 1) m.0)), m.1)) (front_at variables bytes)

-- a goal, which is the number of a clause and so not 0
abbrev pub goal_at : List ℕ → Option (Option Answer × List ℕ)
goal_at bytes = option_and_then (λ n. if n.0 == 0 then None else Some (Some (Refuted n.0), n.1)) (number_at bytes)

-- the answer at the front, where it is a verdict, of a job of so many variables by then, and what is after it; none
-- where no answer stands there
abbrev pub answer_at : ℕ → List ℕ → Option (Option Answer × List ℕ)
answer_at variables [] = None
answer_at variables (kind ∷ bytes) =
    if kind == 1 then model_at variables bytes else
    if kind == 2 then goal_at bytes else
    if kind == 3 then Some (None, bytes) else
    if kind == 4 then Some (None, bytes) else
    None

-- what comes of a slice: the next answer where it ends a revision, and none otherwise
abbrev pub given_at : Bool → ℕ → List ℕ → Option (Option Answer)
given_at ends variables bytes = if ends then option_map (λ a. a.0) (answer_at variables bytes) else Some None
