-- The questions of a search may be posted.
use Rattle.std.proofs.Common.{◌≡◌, ℕ, ◌+◌, ◌*◌, true, List, [], Option, ap₂, ◌∙◌}
use Rattle.mal_revision.specs.Posted.{Posted, is_posted}
use Rattle.spec_max.specs.Optimum.{Instance, clauses_in, variables_in}
use Rattle.spec_max.specs.Right.{IsServed}
use Rattle.spec_max.proofs.SolutionLemmas.{opening-posted}

abbrev pub revision : ℕ → List (Option (List ℕ)) → Posted
revision variables clauses = record { variables = variables; clauses = clauses; assumptions = [] }

pub opening-may : (w : Instance) (variables : ℕ) (clauses : List (Option (List ℕ))) → IsServed w → variables ≡ variables_in w → clauses ≡ clauses_in w → is_posted (revision variables clauses) ≡ true
opening-may w variables clauses s e f = ap₂ (λ (v : ℕ) (cs : List (Option (List ℕ))). is_posted (revision v cs)) e f ∙ opening-posted w s

-- the variables of formula and counter
pub last-is : (last before count variables softs : ℕ) → last ≡ before + count * count → before ≡ variables → count ≡ softs → last ≡ variables + softs * softs
last-is last before count variables softs e f g = e ∙ ap₂ (λ (x y : ℕ). x + y * y) f g
