-- Proofs, and the refutation of clauses under assumptions.
use Rattle.std.specs.Prelude.{◌≡◌, ℕ, ◌-◌, Bool, true, false, ◌==◌, List, [], ◌∷◌, slice_get, Option, Some, None, if◌then◌else◌, flat_map}
use Rattle.std.specs.List.{list_any, list_all}
use Rattle.mal_base.specs.Literals.{negated}
use Rattle.spec_logic.specs.Derivation.{Holding, Derivation, derivation}
use Rattle.spec_logic.specs.Derivation.Derivation.{Derived, Unknown, NotUnit, Unfinished}

-- a line of a proof adds a clause under an id, with the hints that it is derived along, or deletes the clauses of some
-- ids
pub data ProofLine : Type 0 where
  Add : (id : ℕ) → (clause : Option (List ℕ)) → (hints : List ℕ) → ProofLine
  Delete : (ids : List ℕ) → ProofLine

-- original clauses carry the numbers 1, 2, ..
abbrev pub numbered : List (Option (List ℕ)) → Holding
numbered clauses id = if id == 0 then None else slice_get clauses (id - 1)

-- the clauses held with one more, and without some
abbrev pub with_clause : Holding → ℕ → Option (List ℕ) → Holding
with_clause held new clause id = if id == new then Some clause else held id

abbrev pub without : Holding → List ℕ → Holding
without held ids id = if list_any (λ i. i == id) ids then None else held id

abbrev pub after_line : Holding → ProofLine → Holding
after_line held (Add id clause hints) = with_clause held id clause
after_line held (Delete ids) = without held ids

-- why a line is refused: its id is held, a hint is not held, a hint has two literals left or more, or its hints end
-- first
pub data Refusal : Type 0 where
  IdUsed : (id : ℕ) → Refusal
  UnknownHint : (id : ℕ) → Refusal
  HintNotUnit : (id : ℕ) → Refusal
  NoContradiction : Refusal

abbrev pub refusal_by : Derivation → Option Refusal
refusal_by Derived = None
refusal_by (Unknown id) = Some (UnknownHint id)
refusal_by (NotUnit id) = Some (HintNotUnit id)
refusal_by Unfinished = Some NoContradiction

-- a clause held under the line's id refuses before the hints do
abbrev pub refusal_unless_held : Option (Option (List ℕ)) → ℕ → Derivation → Option Refusal
refusal_unless_held (Some clause) id end = Some (IdUsed id)
refusal_unless_held None id end = refusal_by end

abbrev pub refusal : Holding → ProofLine → Option Refusal
refusal held (Add id clause hints) = refusal_unless_held (held id) id (derivation held clause hints)
refusal held (Delete ids) = None

-- the lines are accepted one after another
abbrev pub IsProof : Holding → List ProofLine → Type 0
IsProof held [] = Unit {0}
IsProof held (line ∷ lines) = (refusal held line ≡ None) × IsProof (after_line held line) lines

-- what is held after the lines
abbrev pub after_lines : Holding → List ProofLine → Holding
after_lines held [] = held
after_lines held (line ∷ lines) = after_lines (after_line held line) lines

-- the clauses that lines add, whether or not they are deleted later
abbrev pub added_in : ProofLine → List (Option (List ℕ))
added_in (Add id clause hints) = clause ∷ []
added_in (Delete ids) = []

abbrev pub added_by : List ProofLine → List (Option (List ℕ))
added_by lines = flat_map added_in lines

-- a clause contradicts assumptions where its literals are negations of assumptions alone, as those of the empty clause
-- are; a tautology never does
abbrev pub contradicts : List ℕ → Option (List ℕ) → Bool
contradicts assumptions None = false
contradicts assumptions (Some lits) = list_all (λ l. list_any (λ a. a == negated l) assumptions) lits

-- lines refute clauses under assumptions: they are a proof from the clauses, and a clause that they add contradicts the
-- assumptions
pub record IsRefutation (clauses : List (Option (List ℕ))) (assumptions : List ℕ) (lines : List ProofLine) : Type 0 where
  pub proof : IsProof (numbered clauses) lines
  pub goal : list_any (contradicts assumptions) (added_by lines) ≡ true
