-- What an assignment costs.
use Rattle.std.specs.Prelude.{ℕ, Bool, not, false, List, length, count_by}
use Rattle.mal_base.specs.Literals.{literal}
use Rattle.spec_logic.specs.Logic.{is_true_in}
use Rattle.spec_max.specs.Counter.{counted}

-- the cost of an assignment: the number of soft literals that it makes false, each as often as it stands
abbrev pub cost : List ℕ → List Bool → ℕ
cost softs assignment = count_by (λ l. not (is_true_in assignment l)) softs

-- the literal -s(n, c) of a counter of n soft literals: that the cost is below c
abbrev pub cost_below : ℕ → List ℕ → ℕ → ℕ
cost_below variables softs c = literal (counted variables (length softs) (length softs) c) false
