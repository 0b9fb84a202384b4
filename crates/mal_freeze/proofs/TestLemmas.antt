-- The form of an image, as a test and as what it says.
use Rattle.std.proofs.Common.{◌≡◌, ℕ, ◌+◌, ◌<◌, ◌^◌, true, false, ◌&&◌, eqb, nat_lt, nat_le, List, [], ◌∷◌, length, refl, sym, ◌∙◌, arith}
use Rattle.std.specs.List.{list_all}
use Rattle.std.proofs.lemmas.Bool.{false≢true, and_parts, and_from, false_from_ne_true, leb-true, ltb-true, eqb-true, le-leb, lt-ltb, eq-eqb}
use Rattle.mal_base.specs.Limits.{limits}
use Rattle.mal_base.specs.Clauses.{rises}
use Rattle.mal_base.specs.Formulas.{is_within}
use Rattle.mal_base.specs.NumberedClause.{NumberedClause}
use Rattle.spec_node.specs.State.{Node, has_profile}
use Rattle.mal_freeze.specs.Imaged.{IsFormed, IsImage, HasRanges, is_image, has_ranges, has_order, are_literals, is_order, all_follow, are_clauses, numbers_rise}
use Rattle.mal_freeze.specs.Holding.{can_hold}

ranges-are : (n : Node) → has_ranges n ≡ true → HasRanges n
ranges-are n h =
    let a = and_parts (nat_le n.index 63 && (nat_le n.variables limits.variables && (nat_lt n.serial (2 ^ 57) && nat_le 1 n.restart_number))) (nat_le n.processed (length n.trail + 1) && eqb (length n.phases) n.variables) h in
    let b = and_parts (nat_le n.index 63) (nat_le n.variables limits.variables && (nat_lt n.serial (2 ^ 57) && nat_le 1 n.restart_number)) a.0 in
    let d = and_parts (nat_le n.variables limits.variables) (nat_lt n.serial (2 ^ 57) && nat_le 1 n.restart_number) b.1 in
    let e = and_parts (nat_lt n.serial (2 ^ 57)) (nat_le 1 n.restart_number) d.1 in
    let f = and_parts (nat_le n.processed (length n.trail + 1)) (eqb (length n.phases) n.variables) a.1 in
    record {
      index = leb-true n.index 63 b.0;
      variables = leb-true n.variables limits.variables d.0;
      serial = ltb-true n.serial (2 ^ 57) e.0;
      restart_number = leb-true 1 n.restart_number e.1;
      processed = leb-true n.processed (length n.trail + 1) f.0;
      phases = eqb-true (length n.phases) n.variables f.1;
    }

has-ranges : (n : Node) → HasRanges n → has_ranges n ≡ true
has-ranges n r =
    rw (le-leb n.index 63 r.index, le-leb n.variables limits.variables r.variables, lt-ltb n.serial (2 ^ 57) r.serial, le-leb 1 n.restart_number r.restart_number, le-leb n.processed (length n.trail + 1) r.processed, eq-eqb (length n.phases) n.variables r.phases) refl

-- a node that passes the test is an image
pub image-is : (n : Node) → is_image n ≡ true → IsImage n
image-is n h =
    let p = and_parts (has_profile n) (has_ranges n && has_order n) h in
    let a = and_parts (has_ranges n) (has_order n) p.1 in
    let b = and_parts (are_literals n.variables n.assumptions && is_order n.variables n.order) (all_follow n.variables [] n.trail && (are_clauses n.variables n.clauses && numbers_rise 0 n.clauses)) a.1 in
    let d = and_parts (are_literals n.variables n.assumptions) (is_order n.variables n.order) b.0 in
    let e = and_parts (all_follow n.variables [] n.trail) (are_clauses n.variables n.clauses && numbers_rise 0 n.clauses) b.1 in
    let f = and_parts (are_clauses n.variables n.clauses) (numbers_rise 0 n.clauses) e.1 in
    record { form = record { ranges = ranges-are n a.0; assumptions = d.0; order = d.1; trail = e.0; clauses = f.0; numbers = f.1 }; profile = p.0 }

-- a node in form passes the tests of its ranges and lists
is-formed : (n : Node) → IsFormed n → (has_ranges n && has_order n) ≡ true
is-formed n i =
    and_from (has_ranges n) (has_order n) (has-ranges n i.ranges)
    (and_from (are_literals n.variables n.assumptions && is_order n.variables n.order) (all_follow n.variables [] n.trail && (are_clauses n.variables n.clauses && numbers_rise 0 n.clauses))
    (and_from (are_literals n.variables n.assumptions) (is_order n.variables n.order) i.assumptions i.order)
    (and_from (all_follow n.variables [] n.trail) (are_clauses n.variables n.clauses && numbers_rise 0 n.clauses) i.trail
    (and_from (are_clauses n.variables n.clauses) (numbers_rise 0 n.clauses) i.clauses i.numbers)))

-- an image passes the test
pub is-image : (n : Node) → IsImage n → is_image n ≡ true
is-image n i =
    and_from (has_profile n) (has_ranges n && has_order n) i.profile (is-formed n i.form)

-- clauses in form can be held
all-hold : (greatest last : ℕ) (cs : List NumberedClause) → are_clauses greatest cs ≡ true → numbers_rise last cs ≡ true → list_all can_hold cs ≡ true
all-hold greatest last [] h k = refl
all-hold greatest last (c ∷ cs) h k =
    let a = and_parts (are_literals greatest c.lits) (are_clauses greatest cs) h in
    let b = and_parts (rises c.lits) (is_within greatest c.lits) a.0 in
    let d = and_parts (nat_lt last c.id) (numbers_rise c.id cs) k in
    let low : last < c.id = ltb-true last c.id d.0 in
    and_from (can_hold c) (list_all can_hold cs) (and_from (nat_lt 0 c.id) (rises c.lits) (lt-ltb 0 c.id (omega arith)) b.0) (all-hold greatest c.id cs a.1 d.1)

pub not-held : (n : Node) → list_all can_hold n.clauses ≡ false → is_image n ≡ false
not-held n h = false_from_ne_true (is_image n) (λ k. let i = image-is n k in false≢true (sym h ∙ all-hold n.variables 0 n.clauses i.form.clauses i.form.numbers))

pub not-image : (n : Node) → (IsImage n → ⊥) → is_image n ≡ false
not-image n h = false_from_ne_true (is_image n) (λ k. h (image-is n k))
