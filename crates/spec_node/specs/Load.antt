use Rattle.std.specs.Prelude.{ℕ, zero, suc, ◌+◌, ◌-◌, ◌*◌, ◌/◌, ◌%◌, ◌^◌, max, Bool, ◌==◌, nat_lt, nat_le, List, [], ◌∷◌, ◌++◌, take, drop, filter, replicate, Option, Some, None}
use Rattle.mal_revision.specs.Posted.{Posted}
use Rattle.mal_base.specs.NumberedClause.{NumberedClause}
use Rattle.spec_node.specs.State.{Node}
use Rattle.spec_node.specs.Cut.{cut}

-- clauses under rising numbers from the first on; a tautology keeps its number and is not held
abbrev pub numbered : ℕ → List (Option (List ℕ)) → List NumberedClause
numbered first [] = []
numbered first (None ∷ cs) = numbered (first + 1) cs
numbered first (Some lits ∷ cs) = record { id = first; lits = lits } ∷ numbered (first + 1) cs

-- n numbers from the first on
abbrev pub counted : ℕ → ℕ → List ℕ
counted first zero = []
counted first (suc n) = first ∷ counted (first + 1) n

-- a list turned left by k places
abbrev pub rotated : ℕ → List ℕ → List ℕ
rotated k xs = drop k xs ++ take k xs

-- new variables in rising order, turned left by the node's share of a turn
abbrev pub new_order : ℕ → ℕ → ℕ → List ℕ
new_order index variables n = rotated (index * n / 64) (counted (variables + 1) n)

-- the first phase of a node's variables: true for an odd index
abbrev pub first_phase : ℕ → Bool
first_phase index = index % 2 == 1

-- original clauses are numbered below 2^32, derived ones from there on
abbrev pub is_derived : NumberedClause → Bool
is_derived c = nat_le (2 ^ 32) c.id

-- new original clauses stand after the originals held and before the derived clauses
abbrev pub with_originals : List NumberedClause → List NumberedClause → List NumberedClause
with_originals held new = filter (λ c. nat_lt c.id (2 ^ 32)) held ++ (new ++ filter is_derived held)

-- how many variables a revision adds
abbrev pub added : Posted → Node → ℕ
added r n = r.variables - n.variables

-- a node after loading a revision whose first clause has this number: cut to level 0, with the new variables, the
-- clauses and the assumptions of the revision, and nothing handled
abbrev pub loaded : Posted → ℕ → Node → Node
loaded r first n =
    let c = cut 0 n in
    record c {
      variables = max n.variables r.variables;
      order = c.order ++ new_order n.index n.variables (added r n);
      phases = c.phases ++ replicate (added r n) (first_phase n.index);
      clauses = with_originals c.clauses (numbered first r.clauses);
      assumptions = r.assumptions;
      processed = 0;
      conflict = None;
      verdict = None;
    }
