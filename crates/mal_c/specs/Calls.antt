-- What the calls of C do to the solver that a handle has.
use Rattle.std.specs.Prelude.{◌≡◌, ◌≢◌, ◌+◌, ◌≤◌, ℕ, ℤ, pos, nat_abs, true, List, Bool, Option, Some, None, MatchOption, IsSomeAnd, IfSome}
use Rattle.mal_base.specs.Limits.{limits}
use Rattle.mal_base.specs.NumberedClause.{Line}
use Rattle.spec_logic.specs.Logic.{satisfies_with}
use Rattle.spec_solving.specs.declared.refusal.Refusal.TheVariants.{NoLiteral}
use Rattle.spec_solving.specs.Solving.{Solving, IsCore, reopened, with_literal, with_assumption}
use Rattle.spec_solving.specs.Solving.Answer.{Model, Core}
use Rattle.spec_solving.specs.Calls.{IsRefusal, IsTaken, IsEnded}
use Rattle.mal_c.specs.Numbers.{literal_of}

-- a solver stays one and goes a step; where there was none, there is none
abbrev pub Goes : (Solving → Solving → Type 0) → Option Solving → Option Solving → Type 0
Goes step old new = MatchOption old (new ≡ None) (λ s. IsSomeAnd new (λ t. step s t))

-- what is no literal was refused, for that cause where none was before
pub record IsNoLiteral (old new : Solving) : Type 0 where
  pub refusal : IsRefusal old new
  pub cause : old.refused ≡ None → new.refused ≡ Some NoLiteral

-- a number was added: 0 ends the clause, a literal goes into it, and all else is refused, as literals beyond the limits are
pub record IsAdded (number : ℤ) (old new : Solving) : Type 0 where
  pub ended : number ≡ pos 0 → IsEnded old new
  pub taken : IfSome (literal_of number) (λ lit. IsTaken old (with_literal lit (reopened old)) new)
  pub none : number ≢ pos 0 → literal_of number ≡ None → IsNoLiteral old new
  pub beyond : limits.variables + 1 ≤ nat_abs number → IsRefusal old new

-- a number was assumed: a literal for the next answer; 0 and all else is refused, as literals beyond the limits are
pub record IsAssumed (number : ℤ) (old new : Solving) : Type 0 where
  pub taken : IfSome (literal_of number) (λ lit. IsTaken old (with_assumption lit (reopened old)) new)
  pub none : literal_of number ≡ None → IsNoLiteral old new
  pub beyond : limits.variables + 1 ≤ nat_abs number → IsRefusal old new

-- it answered with a model of all clauses and all assumptions
pub record HasModel (s : Solving) : Type 0 where
  pub values : List Bool
  pub answer : s.answer ≡ Model values
  pub satisfied : satisfies_with values s.clauses s.assumed ≡ true

-- it answered with assumptions under which the clauses have no model
pub record HasCore (s : Solving) : Type 0 where
  pub failed : List ℕ
  pub lines : List Line
  pub answer : s.answer ≡ Core failed lines
  pub core : IsCore s.proving s.clauses s.assumed failed lines
