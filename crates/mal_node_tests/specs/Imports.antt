use Rattle.std.specs.Prelude.{◌≡◌, ℕ, [], ◌∷◌, Some}
use Rattle.mal_base.specs.NumberedClause.{NumberedClause}
use Rattle.mal_revision.specs.Posted.{Posted}
use Rattle.spec_node.specs.State.{Node, fresh}
use Rattle.spec_node.specs.Load.{loaded}
use Rattle.spec_search.specs.Slice.{steps}
use Rattle.mal_cdcl.specs.Importing.{all_imported}

-- the clause 1 2, and the clause 1 -2 under a number
abbrev pub one_of_two : Posted
one_of_two = record { variables = 2; clauses = Some (2 ∷ 4 ∷ []) ∷ []; assumptions = [] }

abbrev pub exported : ℕ → NumberedClause
exported number = record { id = number; lits = 2 ∷ 5 ∷ [] }

-- node 0 that has loaded the one and imports the other under the number 4294967363 and then under 4294967298
abbrev pub imported_twice : Node
imported_twice = all_imported ((exported 4294967363 ∷ []) ∷ (exported 4294967298 ∷ []) ∷ []) (loaded one_of_two 1 (fresh 0))

-- of one clause under two numbers the first imported stays; the line that the node derives next has a number above it,
-- and names it
pub record HasImports : Type 0 where
  pub held : imported_twice.clauses ≡ record { id = 1; lits = 2 ∷ 4 ∷ [] } ∷ exported 4294967363 ∷ []
  pub serial : imported_twice.serial ≡ 2
  pub line : (steps 1000 imported_twice).lines ≡ record { id = 4294967424; lits = 2 ∷ []; hints = 1 ∷ 4294967363 ∷ [] } ∷ []
