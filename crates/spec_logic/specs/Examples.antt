use Rattle.std.specs.Prelude.{◌≡◌, ℕ, true, false, List, [], ◌∷◌, Option, Some, None}
use Rattle.spec_logic.specs.Logic.{satisfies, satisfies_with, value_of}
use Rattle.spec_logic.specs.Derivation.{derivation}
use Rattle.spec_logic.specs.Derivation.Derivation.{Derived, Unknown, NotUnit, Unfinished}
use Rattle.spec_logic.specs.Refutation.{numbered, without, refusal, contradicts, ProofLine, IsRefutation}
use Rattle.spec_logic.specs.Refutation.ProofLine.{Add, Delete}
use Rattle.spec_logic.specs.Refutation.Refusal.{IdUsed, UnknownHint, HintNotUnit, NoContradiction}

-- worked examples: the clause 1 2 under two assignments, a variable past the end, a tautology, an assumption
pub record HasExamples : Type 0 where
  pub second_true : satisfies (false ∷ true ∷ []) (Some (2 ∷ 4 ∷ []) ∷ []) ≡ true
  pub both_false : satisfies (false ∷ false ∷ []) (Some (2 ∷ 4 ∷ []) ∷ []) ≡ false
  pub past_end : value_of (true ∷ []) 7 ≡ false
  pub tautology : satisfies [] (None ∷ []) ≡ true
  pub empty_clause : satisfies (true ∷ []) (Some [] ∷ []) ≡ false
  pub assumed : satisfies_with (true ∷ []) (Some (2 ∷ []) ∷ []) (2 ∷ []) ≡ true
  pub contradicted : satisfies_with (true ∷ []) (Some (2 ∷ []) ∷ []) (3 ∷ []) ≡ false

-- the clauses 1 2, 1 -2, -1 2 and -1 -2
abbrev pub four : List (Option (List ℕ))
four = Some (2 ∷ 4 ∷ []) ∷ Some (2 ∷ 5 ∷ []) ∷ Some (3 ∷ 4 ∷ []) ∷ Some (3 ∷ 5 ∷ []) ∷ []

-- derived lines from these four: 1 along hints 1 and 2, whatever hints follow; a hint that is not held, one with two
-- literals left, hints that end first, a hint with a true literal; a tautology, and a tautology as a hint
pub record HasDerivations : Type 0 where
  pub unit : derivation (numbered four) (Some (2 ∷ [])) (1 ∷ 2 ∷ []) ≡ Derived
  pub behind : derivation (numbered four) (Some (2 ∷ [])) (1 ∷ 2 ∷ 9 ∷ []) ≡ Derived
  pub missing : derivation (numbered four) (Some (2 ∷ [])) (9 ∷ 1 ∷ 2 ∷ []) ≡ Unknown 9
  pub two_left : derivation (numbered four) (Some []) (1 ∷ []) ≡ NotUnit 1
  pub passed_over : derivation (numbered four) (Some (2 ∷ [])) (3 ∷ []) ≡ Unfinished
  pub no_hints : derivation (numbered four) (Some (2 ∷ [])) [] ≡ Unfinished
  pub tautology : derivation (numbered four) None [] ≡ Derived
  pub tautology_hint : derivation (numbered (None ∷ Some (2 ∷ []) ∷ [])) (Some (2 ∷ [])) (1 ∷ 2 ∷ []) ≡ Derived

-- lines that are refused, and one that is not: an id that is held, a hint that was deleted, a deletion of what is not
-- held
pub record HasRefusals : Type 0 where
  pub id_used : refusal (numbered four) (Add 4 None []) ≡ Some (IdUsed 4)
  pub unknown : refusal (numbered four) (Add 5 (Some (2 ∷ [])) (1 ∷ 9 ∷ [])) ≡ Some (UnknownHint 9)
  pub not_unit : refusal (numbered four) (Add 5 (Some []) (1 ∷ [])) ≡ Some (HintNotUnit 1)
  pub no_contradiction : refusal (numbered four) (Add 5 (Some (2 ∷ [])) (3 ∷ [])) ≡ Some NoContradiction
  pub deleted : refusal (without (numbered four) (2 ∷ [])) (Add 5 (Some (2 ∷ [])) (1 ∷ 2 ∷ [])) ≡ Some (UnknownHint 2)
  pub not_held : refusal (numbered four) (Delete (9 ∷ [])) ≡ None

-- clauses that contradict assumptions, and some that do not
pub record HasGoals : Type 0 where
  pub empty_clause : contradicts [] (Some []) ≡ true
  pub negated : contradicts (2 ∷ 4 ∷ []) (Some (3 ∷ 5 ∷ [])) ≡ true
  pub same_sign : contradicts (2 ∷ []) (Some (2 ∷ [])) ≡ false
  pub one_other : contradicts (2 ∷ []) (Some (3 ∷ 5 ∷ [])) ≡ false
  pub tautology : contradicts [] None ≡ false

-- the four clauses are refuted, also where the first line is deleted before the end; under the assumption -1 its first
-- line is enough
abbrev pub refutation : List ProofLine
refutation = Add 5 (Some (2 ∷ [])) (1 ∷ 2 ∷ []) ∷ Add 6 (Some []) (5 ∷ 3 ∷ 4 ∷ []) ∷ Delete (5 ∷ 6 ∷ []) ∷ []

pub record HasRefutations : Type 0 where
  pub empty : IsRefutation four [] refutation
  pub assumed : IsRefutation four (3 ∷ []) (Add 5 (Some (2 ∷ [])) (1 ∷ 2 ∷ []) ∷ Delete (5 ∷ []) ∷ [])
