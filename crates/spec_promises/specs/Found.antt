-- What is written of an optimum, and of what a search for a minimal core comes to, tells it.
use Rattle.std.specs.Prelude.{◌≡◌, ◌<◌, ◌≤◌, ◌^◌, length, Option, Some, None}
use Rattle.std.specs.List.{AllByRecursion}
use Rattle.mal_base.specs.Limits.{greatest_variable}
use Rattle.mal_base.specs.Literals.{IsLiteral}
use Rattle.spec_report.specs.Replies.{Model}
use Rattle.spec_course.specs.Course.{unknown}
use Rattle.spec_max.specs.Optimum.{Solution, Optimum, Best, NoModel, Unknown}
use Rattle.mal_max.specs.Texts.{optimum_text}
use Rattle.spec_core.specs.Core as core
use Rattle.mal_core.specs.Texts.{minimal_text}
use Rattle.spec_promises.specs.Tells.{IsWritable, CanBeTold}

-- a solution has values of variables that there are, and a cost of 64 bits
pub record IsSolution (found : Solution) : Type 0 where
  pub cost : found.cost < 2 ^ 64
  pub model : CanBeTold (Model found.model)

-- so has the best so far, where there is one
abbrev pub IsBest : Option Solution → Type 0
IsBest None = Unit {0}
IsBest (Some found) = IsSolution found

-- an optimum whose solution, lines and cause can be written
abbrev pub IsOptimum : Optimum → Type 0
IsOptimum (Best found lines) = IsSolution found × AllByRecursion IsWritable lines
IsOptimum (NoModel lines) = AllByRecursion IsWritable lines
IsOptimum (Unknown best cause) = IsBest best × CanBeTold (unknown cause)

-- two optima with one text are equal
abbrev pub OptimumIsTold : Type 0
OptimumIsTold = (a b : Optimum) → IsOptimum a → IsOptimum b → optimum_text a ≡ optimum_text b → a ≡ b

-- a core whose literals, lines and models can be written, with no more models than literals
pub record IsCore (c : core.Narrowed) : Type 0 where
  pub lits : AllByRecursion IsLiteral c.core
  pub lines : AllByRecursion IsWritable c.lines
  pub models : AllByRecursion (λ m. length m ≤ greatest_variable) c.models
  pub few : length c.models ≤ length c.core

-- what a search comes to, where it can be written
abbrev pub IsMinimal : core.Minimal → Type 0
IsMinimal (core.Core c) = IsCore c
IsMinimal (core.Satisfiable model) = CanBeTold (Model model)
IsMinimal (core.Unknown cause) = CanBeTold (unknown cause)

-- two of these with one text are equal
abbrev pub MinimalIsTold : Type 0
MinimalIsTold = (a b : core.Minimal) → IsMinimal a → IsMinimal b → minimal_text a ≡ minimal_text b → a ≡ b
