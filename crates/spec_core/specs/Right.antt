-- What is right of an instance and of its minimal core.
use Rattle.std.specs.Prelude.{◌≡◌, ℕ, ◌<◌, ◌≤◌, true, false, Bool, List, [], length, get_or, remove, All, Contains}
use Rattle.mal_base.specs.Limits.{limits}
use Rattle.mal_base.specs.Clauses.{rises}
use Rattle.mal_base.specs.Formulas.{is_formula, is_within}
use Rattle.spec_logic.specs.Logic.{is_true_in, satisfies_with, IsUnsatisfiable}
use Rattle.spec_logic.specs.Refutation.{IsRefutation}
use Rattle.spec_proof.specs.Log.{proof_of}
use Rattle.spec_course.specs.Supported.{IsModel}
use Rattle.spec_core.specs.Core.{Instance, Narrowed, Minimal, Core, Satisfiable, Unknown}

-- an instance that is served: a formula, and at most 255 assumptions of its variables, which rise
pub record IsServed (w : Instance) : Type 0 where
  pub formed : is_formula w.formula ≡ true
  pub rising : rises w.assumptions ≡ true
  pub within : is_within w.formula.variables w.assumptions ≡ true
  pub few : length w.assumptions ≤ limits.assumptions

-- a model has a value for each variable, satisfies the formula and these literals, and not this one
pub record IsWitness (w : Instance) (others : List ℕ) (lit : ℕ) (model : List Bool) : Type 0 where
  pub solves : IsModel w.formula.variables w.formula.clauses others model
  pub fails : is_true_in model lit ≡ false

-- a core so far: given assumptions that rise, under which the lines refute the formula, with a witness for each of the
-- first of them
pub record IsNarrowed (w : Instance) (c : Narrowed) : Type 0 where
  pub rising : rises c.core ≡ true
  pub given : All (Contains w.assumptions) c.core
  pub refuted : IsRefutation w.formula.clauses c.core (proof_of c.lines)
  pub few : length c.models ≤ length c.core
  pub witnessed : (i : ℕ) → i < length c.models → IsWitness w (remove c.core i) (get_or c.core i 0) (get_or c.models i [])

-- some of a list's members, and not all
pub record IsPart (some all : List ℕ) : Type 0 where
  pub there : (l : ℕ) → Contains some l → Contains all l
  pub left_out : (l : ℕ) × Contains all l × (Contains some l → ⊥)

-- a minimal core: each literal has its witness; so the formula is unsatisfiable under them, and satisfiable under each
-- part of them
pub record IsMinimal (w : Instance) (c : Narrowed) : Type 0 where
  pub narrowed : IsNarrowed w c
  pub each : length c.models ≡ length c.core
  pub unsatisfiable : IsUnsatisfiable w.formula.clauses c.core
  pub minimal : (some : List ℕ) → IsPart some c.core → (model : List Bool) × (satisfies_with model w.formula.clauses some ≡ true)

-- what a search ends with is right
abbrev pub IsRight : Instance → Minimal → Type 0
IsRight w (Core c) = IsMinimal w c
IsRight w (Satisfiable model) = IsModel w.formula.variables w.formula.clauses w.assumptions model
IsRight w (Unknown cause) = Unit {0}
