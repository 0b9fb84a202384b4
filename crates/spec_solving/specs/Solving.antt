-- An incremental solver as a value: its inputs, its last answer, and what an answer promises.
use Rattle.std.specs.Prelude.{◌≡◌, ℕ, ◌⊎◌, Bool, true, false, Contains, All, List, [], ◌∷◌, ◌++◌, Option, None, MatchOption}
use Rattle.mal_base.specs.Literals.{literal}
use Rattle.mal_base.specs.Clauses.{rises, IsTautology, HaveSame}
use Rattle.mal_base.specs.NumberedClause.{Line}
use Rattle.spec_logic.specs.Logic.{satisfies_with}
use Rattle.spec_logic.specs.Refutation.{IsRefutation}
use Rattle.spec_proof.specs.Log.{proof_of}
use Rattle.spec_solving.specs.declared.refusal.Refusal.{Refusal}

-- what was answered: nothing since the last input; a question whose answer is not known yet; a model, a value for each
-- variable; failed assumptions, with the lines of a refutation where proofs are kept
pub data Answer : Type 0 where
  Open : Answer
  Unknown : Answer
  Model : (values : List Bool) → Answer
  Core : (failed : List ℕ) → (lines : List Line) → Answer

-- the clauses that were ended, in their order (none stands for a tautology), the literals of the clause that is open,
-- the assumptions, of the last answer or of the next, why an input was refused, whether proofs are kept, and the answer
pub record Solving : Type 0 where
  pub clauses : List (Option (List ℕ))
  pub open_clause : List ℕ
  pub assumed : List ℕ
  pub refused : Option Refusal
  pub proving : Bool
  pub answer : Answer

-- a solver that was given nothing
abbrev pub fresh : Bool → Solving
fresh proving = record { clauses = []; open_clause = []; assumed = []; refused = None; proving = proving; answer = Open }

-- with an input the answer is over, and so are its assumptions
abbrev pub reopened_by : Answer → Solving → Solving
reopened_by Open s = s
reopened_by Unknown s = record s { assumed = []; answer = Open }
reopened_by (Model values) s = record s { assumed = []; answer = Open }
reopened_by (Core failed lines) s = record s { assumed = []; answer = Open }

abbrev pub reopened : Solving → Solving
reopened s = reopened_by s.answer s

-- the clause of literals in any order and with repeats: none where they are a tautology
abbrev pub IsClauseOf : List ℕ → Option (List ℕ) → Type 0
IsClauseOf lits clause = MatchOption clause (IsTautology lits) (λ c. (rises c ≡ true) × HaveSame lits c)

-- a literal goes after those of the open clause
abbrev pub with_literal : ℕ → Solving → Solving
with_literal lit s = record s { open_clause = s.open_clause ++ lit ∷ [] }

-- a clause is put after the others, and the next one is begun
abbrev pub with_clause : Option (List ℕ) → Solving → Solving
with_clause clause s = record s { clauses = s.clauses ++ clause ∷ []; open_clause = [] }

abbrev pub with_assumption : ℕ → Solving → Solving
with_assumption lit s = record s { assumed = s.assumed ++ lit ∷ [] }

-- what failed assumptions promise: each was assumed, and they are both signs of a variable, or lines refute the clauses
-- under them alone; where proofs are kept these are the lines of the answer
pub record IsCore (proving : Bool) (clauses : List (Option (List ℕ))) (assumed failed : List ℕ) (lines : List Line) : Type 0 where
  pub among : All (Contains assumed) failed
  pub cause : ((var : ℕ) × (failed ≡ literal var true ∷ literal var false ∷ []))
      ⊎ ((proof : List Line) × (proving ≡ true → lines ≡ proof) × IsRefutation clauses failed (proof_of proof))

-- what an answer promises of clauses under assumptions: a model satisfies all of both
abbrev pub Promises : Bool → List (Option (List ℕ)) → List ℕ → Answer → Type 0
Promises proving clauses assumed Open = Unit {0}
Promises proving clauses assumed Unknown = Unit {0}
Promises proving clauses assumed (Model values) = satisfies_with values clauses assumed ≡ true
Promises proving clauses assumed (Core failed lines) = IsCore proving clauses assumed failed lines
