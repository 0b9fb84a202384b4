-- What holds of derived lines, proofs and refutations, in the form in which the law functions state it.
use Rattle.std.specs.Prelude.{◌≡◌, ℕ, Bool, true, List, Option, Some, All}
use Rattle.spec_logic.specs.Logic.{satisfies_clause, Entails, IsUnsatisfiable}
use Rattle.spec_logic.specs.Derivation.{Holding, derivation}
use Rattle.spec_logic.specs.Derivation.Derivation.{Derived}
use Rattle.spec_logic.specs.Refutation.{ProofLine, numbered, IsProof, after_lines, added_by, IsRefutation}

-- each clause held is entailed by these clauses
abbrev pub IsEntailed : List (Option (List ℕ)) → Holding → Type 0
IsEntailed clauses held = (id : ℕ) (clause : Option (List ℕ)) → held id ≡ Some clause → Entails clauses clause

-- a derived line is entailed by whatever entails the clauses held
abbrev pub DerivedIsEntailed : Type 0
DerivedIsEntailed =
    (clauses : List (Option (List ℕ))) (held : Holding) (clause : Option (List ℕ)) (hints : List ℕ)
    → IsEntailed clauses held → derivation held clause hints ≡ Derived → Entails clauses clause

-- an assignment that satisfies each clause held satisfies a derived line
abbrev pub DerivedIsSatisfied : Type 0
DerivedIsSatisfied =
    (assignment : List Bool) (held : Holding) (clause : Option (List ℕ)) (hints : List ℕ)
    → ((id : ℕ) (c : Option (List ℕ)) → held id ≡ Some c → satisfies_clause assignment c ≡ true)
    → derivation held clause hints ≡ Derived → satisfies_clause assignment clause ≡ true

-- what a proof adds is entailed by the original clauses, and so is what is held after it
abbrev pub ProofIsEntailed : Type 0
ProofIsEntailed =
    (clauses : List (Option (List ℕ))) (lines : List ProofLine) → IsProof (numbered clauses) lines
    → All (Entails clauses) (added_by lines) × IsEntailed clauses (after_lines (numbered clauses) lines)

-- where there is a refutation, no assignment satisfies the clauses and the assumptions
abbrev pub RefutedIsUnsatisfiable : Type 0
RefutedIsUnsatisfiable =
    (clauses : List (Option (List ℕ))) (assumptions : List ℕ) (lines : List ProofLine)
    → IsRefutation clauses assumptions lines → IsUnsatisfiable clauses assumptions
