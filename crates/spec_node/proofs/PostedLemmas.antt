use Rattle.std.proofs.Common.{◌≡◌, ℕ, ◌/◌, true, ◌&&◌, List, [], ◌∷◌, Some, None, Option, refl}
use Rattle.std.specs.Prelude.{nat_le}
use Rattle.std.specs.List.{list_all}
use Rattle.std.specs.Option.{option_map_or}
use Rattle.std.proofs.lemmas.Bool.{and_parts}
use Rattle.mal_base.specs.Clauses.{rises}
use Rattle.mal_base.proofs.Sorting.{and-both}
use Rattle.mal_base.specs.Formulas.{is_within, is_clause_of, is_within_limits}
use Rattle.mal_revision.specs.Posted.{Posted, is_posted}
use Rattle.spec_node.specs.Laws.{has_variables, has_literals}

-- literals of variables from 1 to this one have variables from 1 on
variables-from_within : (v : ℕ) (lits : List ℕ) → is_within v lits ≡ true → has_variables lits ≡ true
variables-from_within v [] w = refl
variables-from_within v (l ∷ ls) w =
    let a = and_parts (nat_le 1 (l / 2) && nat_le (l / 2) v) (is_within v ls) w in
    let b = and_parts (nat_le 1 (l / 2)) (nat_le (l / 2) v) a.0 in
    and-both (nat_le 1 (l / 2)) (has_variables ls) b.0 (variables-from_within v ls a.1)

variables-from_clauses : (v : ℕ) (cs : List (Option (List ℕ))) → list_all (is_clause_of v) cs ≡ true → list_all (λ c. option_map_or has_variables c true) cs ≡ true
variables-from_clauses v [] p = refl
variables-from_clauses v (None ∷ cs) p = variables-from_clauses v cs (and_parts (nat_le 1 v) (list_all (is_clause_of v) cs) p).1
variables-from_clauses v (Some lits ∷ cs) p =
    let a = and_parts (rises lits && is_within v lits) (list_all (is_clause_of v) cs) p in
    let b = and_parts (rises lits) (is_within v lits) a.0 in
    and-both (has_variables lits) (list_all (λ c. option_map_or has_variables c true) cs) (variables-from_within v lits b.1) (variables-from_clauses v cs a.1)

-- each literal of what is posted has a variable from 1 on
pub posted-literals : (r : Posted) → is_posted r ≡ true → has_literals r ≡ true
posted-literals r p =
    let a = and_parts (is_within_limits r.variables r.clauses && list_all (is_clause_of r.variables) r.clauses) (rises r.assumptions && is_within r.variables r.assumptions) p in
    let b = and_parts (is_within_limits r.variables r.clauses) (list_all (is_clause_of r.variables) r.clauses) a.0 in
    let c = and_parts (rises r.assumptions) (is_within r.variables r.assumptions) a.1 in
    and-both (list_all (λ c. option_map_or has_variables c true) r.clauses) (has_variables r.assumptions) (variables-from_clauses r.variables r.clauses b.1) (variables-from_within r.variables r.assumptions c.1)
