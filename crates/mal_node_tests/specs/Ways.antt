use Rattle.std.specs.Prelude.{◌≡◌, [], ◌∷◌, reverse}
use Rattle.spec_learn.specs.FirstPoint.{three_clauses, after_not_one, four_clauses, after_one}
use Rattle.mal_learn.specs.Ways.{way}

-- worked examples in which the first implication point is not the decision: the clauses resolved with, the conflict
-- first, and the variables that are seen in them
pub record HasWays : Type 0 where
  pub not_decision : 3 ∷ reverse (way three_clauses after_not_one 3).hints ≡ 3 ∷ 2 ∷ []
  pub not_decision_seen : (way three_clauses after_not_one 3).seen ≡ 2 ∷ 3 ∷ 2 ∷ 3 ∷ []
  pub joined : 4 ∷ reverse (way four_clauses after_one 4).hints ≡ 4 ∷ 3 ∷ 2 ∷ []
  pub joined_seen : (way four_clauses after_one 4).seen ≡ 2 ∷ 3 ∷ 2 ∷ 4 ∷ 3 ∷ 4 ∷ []
