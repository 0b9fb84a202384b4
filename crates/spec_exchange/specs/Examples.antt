use Rattle.std.specs.Prelude.{◌≡◌, ℕ, List, [], ◌∷◌}
use Rattle.mal_base.specs.NumberedClause.{NumberedClause}
use Rattle.spec_exchange.specs.Exchange.{union, prefix}

-- an entry
abbrev pub entry : ℕ → List ℕ → NumberedClause
entry id lits = record { id = id; lits = lits }

-- worked examples: a clause that two nodes export stands once with the lesser number, shorter clauses come first,
-- clauses of one length stand by their literals, and the first clause that does not fit ends a prefix
pub record HasExamples : Type 0 where
  pub once : union (entry 4294967299 (2 ∷ 5 ∷ []) ∷ entry 4294967297 (2 ∷ 5 ∷ []) ∷ []) ≡ entry 4294967297 (2 ∷ 5 ∷ []) ∷ []
  pub shorter_first : union (entry 1 (2 ∷ 5 ∷ []) ∷ entry 2 (9 ∷ []) ∷ entry 3 [] ∷ []) ≡ entry 3 [] ∷ entry 2 (9 ∷ []) ∷ entry 1 (2 ∷ 5 ∷ []) ∷ []
  pub by_literals : union (entry 1 (2 ∷ 7 ∷ []) ∷ entry 2 (2 ∷ 5 ∷ []) ∷ []) ≡ entry 2 (2 ∷ 5 ∷ []) ∷ entry 1 (2 ∷ 7 ∷ []) ∷ []
  pub fits_exactly : prefix 3 (entry 1 (2 ∷ []) ∷ entry 2 (2 ∷ 5 ∷ []) ∷ entry 3 (4 ∷ 6 ∷ []) ∷ []) ≡ entry 1 (2 ∷ []) ∷ entry 2 (2 ∷ 5 ∷ []) ∷ []
  pub one_too_many : prefix 2 (entry 1 (2 ∷ []) ∷ entry 2 (2 ∷ 5 ∷ []) ∷ []) ≡ entry 1 (2 ∷ []) ∷ []
