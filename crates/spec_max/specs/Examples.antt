-- Worked examples of counters, costs and a refutation of what is cheaper.
use Rattle.std.specs.Prelude.{◌≡◌, true, false, List, [], ◌∷◌, ◌++◌, ℕ, Option, Some}
use Rattle.spec_logic.specs.Refutation.{IsRefutation}
use Rattle.spec_logic.specs.Refutation.ProofLine.{Add}
use Rattle.spec_max.specs.Counter.{counter}
use Rattle.spec_max.specs.Cost.{cost, cost_below}

-- counters of no literal, of one, of -1 and -2, of 1 twice and of 1 and -1
pub record HasCounters : Type 0 where
  pub none : counter 2 [] ≡ []
  pub one : counter 1 (3 ∷ []) ≡ Some (3 ∷ 4 ∷ []) ∷ []
  pub two : counter 2 (3 ∷ 5 ∷ []) ≡ Some (3 ∷ 6 ∷ []) ∷ Some (5 ∷ 10 ∷ []) ∷ Some (7 ∷ 10 ∷ []) ∷ Some (9 ∷ 12 ∷ []) ∷ Some (5 ∷ 7 ∷ 12 ∷ []) ∷ []
  pub twice : counter 1 (2 ∷ 2 ∷ []) ≡ Some (2 ∷ 4 ∷ []) ∷ Some (2 ∷ 8 ∷ []) ∷ Some (5 ∷ 8 ∷ []) ∷ Some (7 ∷ 10 ∷ []) ∷ Some (2 ∷ 5 ∷ 10 ∷ []) ∷ []
  pub opposite : counter 1 (2 ∷ 3 ∷ []) ≡ Some (2 ∷ 4 ∷ []) ∷ Some (3 ∷ 8 ∷ []) ∷ Some (5 ∷ 8 ∷ []) ∷ Some (7 ∷ 10 ∷ []) ∷ Some (3 ∷ 5 ∷ 10 ∷ []) ∷ []

-- costs: of no soft literal, of -1 and -2 where 2 alone is true, of 1 twice where it is false, of 1 and -1, of a
-- variable past the end; the assumptions that -1 and -2 cost less than 1, and less than 2
pub record HasCosts : Type 0 where
  pub none : cost [] (false ∷ []) ≡ 0
  pub one : cost (3 ∷ 5 ∷ []) (false ∷ true ∷ []) ≡ 1
  pub twice : cost (2 ∷ 2 ∷ []) (false ∷ []) ≡ 2
  pub opposite : cost (2 ∷ 3 ∷ []) (true ∷ []) ≡ 1
  pub past_end : cost (2 ∷ 3 ∷ []) [] ≡ 1
  pub below_one : cost_below 2 (3 ∷ 5 ∷ []) 1 ≡ 11
  pub below_two : cost_below 2 (3 ∷ 5 ∷ []) 2 ≡ 13

-- the clause 1 2 with the counter of -1 and -2
abbrev pub clause_with_counter : List (Option (List ℕ))
clause_with_counter = (Some (2 ∷ 4 ∷ []) ∷ []) ++ counter 2 (3 ∷ 5 ∷ [])

-- nothing that satisfies 1 2 costs less than 1: two lines refute the clauses under -s(2, 1), the first along clauses 3
-- and 4 of the counter, the clause 1 2 and clause 2
pub record HasRefutation : Type 0 where
  pub cheaper : IsRefutation clause_with_counter (11 ∷ []) (Add 7 (Some (10 ∷ [])) (3 ∷ 4 ∷ 1 ∷ 2 ∷ []) ∷ Add 8 (Some (10 ∷ [])) (7 ∷ []) ∷ [])
