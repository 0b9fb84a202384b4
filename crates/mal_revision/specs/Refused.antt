use Rattle.std.specs.Prelude.{◌≡◌, ℕ, ◌/◌, true, nat_lt, List, [], ◌∷◌, length, Option, Some, None, if◌then◌else◌, ⊤}
use Rattle.mal_base.specs.Limits.{limits}
use Rattle.mal_base.specs.Clauses.{rises, HaveSame, IsTautology, IsLeastOpposite}
use Rattle.mal_base.specs.declared.limit_kind.LimitKind.{LimitKind}
use Rattle.mal_base.specs.declared.limit_kind.LimitKind.TheVariants.{Variables, Clauses, Literals}
use Rattle.mal_base.specs.Formulas.{literals_of}
use Rattle.mal_revision.specs.Posted.{Posted}
use Rattle.mal_revision.specs.declared.fault.RevisionFault.{RevisionFault}
use Rattle.mal_revision.specs.declared.fault.RevisionFault.TheVariants.{Opposite, VarTooLarge, Limit, OutOfMemory}

-- the first, or the second where there is no first
abbrev pub or_else : Option ℕ → Option ℕ → Option ℕ
or_else None second = second
or_else (Some var) second = Some var

-- the variable of the first literal that is above this one
abbrev pub above : ℕ → List ℕ → Option ℕ
above variables [] = None
above variables (l ∷ ls) = if nat_lt variables (l / 2) then Some (l / 2) else above variables ls

-- the same of a clause; a tautology needs one variable
abbrev pub above_in : ℕ → Option (List ℕ) → Option ℕ
above_in variables None = if nat_lt variables 1 then Some 1 else None
above_in variables (Some lits) = above variables lits

-- the same of clauses, in their order
abbrev pub first_above : ℕ → List (Option (List ℕ)) → Option ℕ
first_above variables [] = None
first_above variables (c ∷ cs) = or_else (above_in variables c) (first_above variables cs)

-- the first limit that is passed: of the variables, the clauses, the literals
abbrev pub limit_passed : ℕ → List (Option (List ℕ)) → Option LimitKind
limit_passed variables clauses =
    if nat_lt limits.variables variables then Some Variables else
    if nat_lt limits.clauses (length clauses) then Some Clauses else
    if nat_lt limits.literals (literals_of clauses) then Some Literals else None

-- no variable is assumed with both signs
abbrev pub AreConsistent : List ℕ → Type 0
AreConsistent assumptions = IsTautology assumptions → ⊥

-- the revision has these variables and clauses, and the assumptions by rising variable
pub record IsMadeOf (variables : ℕ) (clauses : List (Option (List ℕ))) (assumptions : List ℕ) (r : Posted) : Type 0 where
  pub consistent : AreConsistent assumptions
  pub within : or_else (first_above variables clauses) (above variables assumptions) ≡ None
  pub limited : limit_passed variables clauses ≡ None
  pub same_variables : r.variables ≡ variables
  pub same_clauses : r.clauses ≡ clauses
  pub rising : rises r.assumptions ≡ true
  pub same_assumptions : HaveSame assumptions r.assumptions

-- the first literal above the variables is of this one, and no earlier cause holds
pub record IsTooLarge (variables : ℕ) (clauses : List (Option (List ℕ))) (assumptions : List ℕ) (var : ℕ) : Type 0 where
  pub consistent : AreConsistent assumptions
  pub first : or_else (first_above variables clauses) (above variables assumptions) ≡ Some var

-- this is the first limit that is passed, and no earlier cause holds
pub record IsOverLimit (variables : ℕ) (clauses : List (Option (List ℕ))) (assumptions : List ℕ) (which : LimitKind) : Type 0 where
  pub consistent : AreConsistent assumptions
  pub within : or_else (first_above variables clauses) (above variables assumptions) ≡ None
  pub first : limit_passed variables clauses ≡ Some which

-- why a revision of these parts is refused
abbrev pub IsRefused : ℕ → List (Option (List ℕ)) → List ℕ → RevisionFault → Type 0
IsRefused variables clauses assumptions (Opposite var) = IsLeastOpposite assumptions var
IsRefused variables clauses assumptions (VarTooLarge var) = IsTooLarge variables clauses assumptions var
IsRefused variables clauses assumptions (Limit which) = IsOverLimit variables clauses assumptions which
IsRefused variables clauses assumptions OutOfMemory = ⊤
