-- Clauses of some variables, and more of them.
use Rattle.std.proofs.Common.{◌≡◌, ◌≤◌, ◌/◌, ℕ, Bool, true, false, ◌&&◌, cond, List, [], ◌∷◌, refl, arith}
use Rattle.std.specs.Prelude.{nat_le, nat_lt}
use Rattle.std.proofs.lemmas.Bool.{false≢true}
use Rattle.std.proofs.lemmas.Bool.Decides.{nat_tests}
use Rattle.mal_base.specs.Formulas.{is_within}
use Rattle.mal_base.specs.NumberedClause.{NumberedClause}
use Rattle.mal_trail.specs.Rooms.{are_within}
use Rattle.spec_node.specs.Adding.{with_clause}

and_true : (a b : Bool) → (a && b) ≡ true → (a ≡ true) × (b ≡ true)
and_true true b h = (refl, h)
and_true false b h = absurd (false≢true h)

true_and : (a b : Bool) → a ≡ true → b ≡ true → (a && b) ≡ true
true_and true b h k = k
true_and false b h k = absurd (false≢true h)

le-more : (a b c : ℕ) → nat_le a b ≡ true → b ≤ c → nat_le a c ≡ true
le-more a b c = grind (arith, nat_tests)

-- literals of some variables are of more
pub within-more : (a b : ℕ) (lits : List ℕ) → a ≤ b → is_within a lits ≡ true → is_within b lits ≡ true
within-more a b [] l w = refl
within-more a b (x ∷ xs) l w =
    let parts = and_true (nat_le 1 (x / 2) && nat_le (x / 2) a) (is_within a xs) w in
    let here = and_true (nat_le 1 (x / 2)) (nat_le (x / 2) a) parts.0 in
    true_and (nat_le 1 (x / 2) && nat_le (x / 2) b) (is_within b xs) (true_and (nat_le 1 (x / 2)) (nat_le (x / 2) b) here.0 (le-more (x / 2) a b here.1 l)) (within-more a b xs l parts.1)

-- clauses of some variables are so with one more
pub within-with : (room : ℕ) (c : NumberedClause) (cs : List NumberedClause) → is_within room c.lits ≡ true → are_within room cs ≡ true → are_within room (with_clause c cs) ≡ true
within-with room c [] h w = true_and (is_within room c.lits) true h refl
within-with room c (d ∷ ds) h w = by_order (nat_lt c.id d.id) (within-with room c ds h (and_true (is_within room d.lits) (are_within room ds) w).1)
  where
    by_order : (b : Bool) → are_within room (with_clause c ds) ≡ true → are_within room (cond b (c ∷ (d ∷ ds)) (d ∷ with_clause c ds)) ≡ true
    by_order true rest = true_and (is_within room c.lits) (are_within room (d ∷ ds)) h w
    by_order false rest = true_and (is_within room d.lits) (are_within room (with_clause c ds)) (and_true (is_within room d.lits) (are_within room ds) w).0 rest
