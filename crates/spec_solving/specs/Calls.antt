-- What the calls of an incremental solver do to its value.
use Rattle.std.specs.Prelude.{◌≡◌, ◌≢◌, ℕ, ◌⊎◌, true, false, List, [], ◌∷◌, Option, None}
use Rattle.mal_base.specs.Clauses.{HaveSame}
use Rattle.mal_base.specs.Literals.{literal}
use Rattle.spec_solving.specs.Solving.{Answer, Solving, reopened, IsClauseOf, with_clause}
use Rattle.spec_solving.specs.Solving.Answer.{Unknown, Core}

-- an input was refused: for good, and for the first cause
pub record IsRefusal (old new : Solving) : Type 0 where
  pub refused : new.refused ≢ None
  pub first : old.refused ≢ None → new.refused ≡ old.refused

-- an input was taken as it is wanted, or refused
abbrev pub IsTaken : Solving → Solving → Solving → Type 0
IsTaken old wanted new = (new ≡ wanted) ⊎ IsRefusal old new

-- the open clause was ended
abbrev pub IsEnded : Solving → Solving → Type 0
IsEnded old new = ((clause : Option (List ℕ)) × IsClauseOf old.open_clause clause × (new ≡ with_clause clause (reopened old))) ⊎ IsRefusal old new

-- an answer was asked for under the assumptions since the last one, in rising order and each once: it is not known yet,
-- or they have both signs of a variable, which failed
pub record IsAsked (old new : Solving) : Type 0 where
  pub assumed : List ℕ
  pub same : HaveSame (reopened old).assumed assumed
  pub answer : Answer
  pub next : new ≡ record (reopened old) { assumed = assumed; answer = answer }
  pub known : (answer ≡ Unknown) ⊎ ((var : ℕ) × (answer ≡ Core (literal var true ∷ literal var false ∷ []) []))

abbrev pub IsBegun : Solving → Solving → Type 0
IsBegun old new = IsAsked old new ⊎ IsRefusal old new

-- slices were run: all but the answer is as before, unless it was refused
pub record IsRun (old new : Solving) : Type 0 where
  pub kept : new.refused ≡ None → new ≡ record old { answer = new.answer }
  pub first : old.refused ≢ None → new.refused ≡ old.refused
