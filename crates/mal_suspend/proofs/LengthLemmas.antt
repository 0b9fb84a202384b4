-- How long the image of a node is at least.
use Rattle.std.proofs.Common.{◌≡◌, ℕ, ◌+◌, ◌*◌, ◌/◌, ◌<◌, ◌≤◌, Bool, List, [], ◌∷◌, ◌++◌, length, flat_map, refl, arith, length-append}
use Rattle.std.specs.Int.{w32, w64}
use Rattle.mal_base.specs.NumberedClause.{NumberedClause}
use Rattle.spec_node.specs.State.{Node}
use Rattle.mal_freeze.specs.Forms.{form_of}
use Rattle.mal_freeze.specs.Imaged.{IsImage}
use Rattle.mal_freeze.specs.Spelling.{spelled, counted, phase_bytes, entry_bytes, clause_bytes, list_bytes, image_bytes, head_bytes, search_bytes, verdict_bytes}
use Rattle.std.proofs.lemmas.Bool.{and_parts, eqb-true}

spelled-4 : (n : ℕ) → length (spelled w32 n) ≡ 4
unfolding spelled
spelled-4 n = refl

spelled-8 : (n : ℕ) → length (spelled w64 n) ≡ 8
unfolding spelled
spelled-8 n = refl

-- so many bytes for each variable of an order, for each phase, and for each clause
order-long : (vs : List ℕ) → 4 * length vs ≤ length (flat_map (spelled w32) vs)
order-long [] = omega arith
order-long (v ∷ vs) = omega (arith, order-long vs, spelled-4 v, length-append (spelled w32 v) (flat_map (spelled w32) vs))

phases-long : (ps : List Bool) → length ps ≤ length (flat_map phase_bytes ps)
phases-long [] = omega arith
phases-long (p ∷ ps) = omega (arith, phases-long ps)

clause-long : (c : NumberedClause) → 12 ≤ length (clause_bytes c)
clause-long c = omega (arith, spelled-8 c.id, spelled-4 (length c.lits), length-append (spelled w64 c.id) (counted (spelled w32) c.lits), length-append (spelled w32 (length c.lits)) (flat_map (spelled w32) c.lits))

each-long : (cs : List NumberedClause) → 12 * length cs ≤ length (flat_map clause_bytes cs)
each-long [] = omega arith
each-long (c ∷ cs) = omega (arith, each-long cs, clause-long c, length-append (clause_bytes c) (flat_map clause_bytes cs))

counted-long : (n : ℕ) (bytes : List ℕ) → length bytes ≤ length (spelled w32 n ++ bytes)
counted-long n bytes = omega (arith, length-append (spelled w32 n) bytes)

-- bytes after others
behind : (a b c d e : List ℕ) → length e ≤ length (a ++ (b ++ (c ++ (d ++ e))))
behind a b c d e = omega (arith, length-append a (b ++ (c ++ (d ++ e))), length-append b (c ++ (d ++ e)), length-append c (d ++ e), length-append d e)

between : (a b c d e : List ℕ) → length b + length c ≤ length (a ++ (b ++ (c ++ (d ++ e))))
between a b c d e = omega (arith, length-append a (b ++ (c ++ (d ++ e))), length-append b (c ++ (d ++ e)), length-append c (d ++ e))

lists-long : (n : Node) → length (list_bytes n) ≤ length (image_bytes n)
lists-long n = behind (spelled w64 (form_of n.profile).magic) (head_bytes n) (search_bytes n) (verdict_bytes n.verdict) (list_bytes n)

-- 5 bytes for each variable, 12 for each clause
pub variables-long : (n : Node) → IsImage n → 5 * n.variables ≤ length (image_bytes n)
variables-long n is =
    let order : length n.order ≡ n.variables = eqb-true (length n.order) n.variables (and_parts _ _ is.form.order).0 in
    let both = between (counted (spelled w32) n.assumptions) (flat_map (spelled w32) n.order) (flat_map phase_bytes n.phases) (counted entry_bytes n.trail) (counted clause_bytes n.clauses) in
    omega (arith, lists-long n, both, order-long n.order, phases-long n.phases, order, is.form.ranges.phases)

pub clauses-long : (n : Node) → 12 * length n.clauses ≤ length (image_bytes n)
clauses-long n =
    let last = behind (counted (spelled w32) n.assumptions) (flat_map (spelled w32) n.order) (flat_map phase_bytes n.phases) (counted entry_bytes n.trail) (counted clause_bytes n.clauses) in
    omega (arith, lists-long n, last, each-long n.clauses, counted-long (length n.clauses) (flat_map clause_bytes n.clauses))

-- so more than that many of them make it longer
pub beyond-5 : (most v variables size : ℕ) → v ≡ variables → most / 5 < v → 5 * variables ≤ size → most < size
beyond-5 most v variables size same more long = omega (arith, same, more, long)

pub beyond-12 : (most c clauses size : ℕ) → c ≡ clauses → most / 12 < c → 12 * clauses ≤ size → most < size
beyond-12 most c clauses size same more long = omega (arith, same, more, long)
