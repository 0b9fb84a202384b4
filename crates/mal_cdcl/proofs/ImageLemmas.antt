use Rattle.std.proofs.Common.{◌≡◌, ℕ, zero, suc, ◌+◌, ◌<◌, ◌≤◌, Bool, true, false, not, ◌&&◌, ◌==◌, ◌≢◌, eqb, nat_lt, nat_le, nat_eq, List, [], ◌∷◌, ◌++◌, length, take, drop, get_or, Option, Some, None, sym, refl, ap, ◌∙◌, subst, arith}
use Rattle.std.specs.Prelude.{◌||◌}
use Rattle.std.specs.List.{slice_get, list_any}
use Rattle.std.proofs.lemmas.Bool.{and_parts, and_from, eqb-true, eq-eqb, false≢true}
use Rattle.std.proofs.lemmas.List.Folds.{list_any-append}
use Rattle.std.proofs.lemmas.Bool.Decides.{nat_tests}
use Rattle.mal_base.specs.Clauses.{rises}
use Rattle.mal_base.specs.Formulas.{is_within}
use Rattle.mal_base.specs.NumberedClause.{NumberedClause, lits_under}
use Rattle.spec_node.specs.Adding.{with_clause}
use Rattle.spec_node.specs.State.{Node}
use Rattle.spec_node.specs.Sound.{NumbersRise}
use Rattle.mal_order.specs.Ordered.{Ordered}
use Rattle.mal_order.specs.Rings.{IsApart, AreOnce, ArePlaced, IsTurned}
use Rattle.mal_trail.specs.Rooms.{are_within}
use Rattle.mal_freeze.specs.Imaged.{IsFormed, are_new, is_new, are_clauses, are_literals, numbers_rise}
use Rattle.mal_freeze.proofs.ListLemmas.{take-at}
use Rattle.mal_cdcl.specs.Within.{IsNode, is_order_of}
use Rattle.mal_cdcl.specs.Rising.{all_rise}
use Rattle.mal_cdcl.specs.ImportSizes.{lits_in}
use Rattle.mal_cdcl.proofs.StepLemmas.{test_le}

test_lt : (a b : ℕ) → nat_lt a b ≡ true → a < b
test_lt a b = grind (arith, nat_tests)

not_lt : (a b : ℕ) → b ≤ a → nat_lt a b ≡ false
not_lt a b = grind (arith, nat_tests)

not_same : (a b : ℕ) → a < b → nat_eq a b ≡ false
not_same a b = grind (arith, nat_tests)

-- clauses of rising numbers have numbers above the start
above-start : (cs : List NumberedClause) (i : ℕ) (c d : NumberedClause) (last : ℕ) → numbers_rise last cs ≡ true → i < length cs → c ≡ get_or cs i d → last < c.id
above-start [] i c d last h l e = absurd (omega arith)
above-start (x ∷ xs) zero c d last h l e =
    let a = and_parts (nat_lt last x.id) (numbers_rise x.id xs) h in
    rw e (test_lt last x.id a.0)
above-start (x ∷ xs) (suc i) c d last h l e =
    let a = and_parts (nat_lt last x.id) (numbers_rise x.id xs) h in
    omega (arith, test_lt last x.id a.0, above-start xs i c d x.id a.1 (omega arith) e)

-- the next clause is not among those before it
pub not_before : (cs : List NumberedClause) (i : ℕ) (c d : NumberedClause) (last : ℕ) → numbers_rise last cs ≡ true → i < length cs → c ≡ get_or cs i d → lits_under c.id (take i cs) ≡ None
not_before [] i c d last h l e = absurd (omega arith)
not_before (x ∷ xs) zero c d last h l e = refl
not_before (x ∷ xs) (suc i) c d last h l e =
    let a = and_parts (nat_lt last x.id) (numbers_rise x.id xs) h in
    let other : nat_eq x.id c.id ≡ false = not_same x.id c.id (above-start xs i c d x.id a.1 (omega arith) e) in
    rw other (not_before xs i c d x.id a.1 (omega arith) e)

-- it stands after them
behind : (cs : List NumberedClause) (i : ℕ) (c d : NumberedClause) (last : ℕ) → numbers_rise last cs ≡ true → i < length cs → c ≡ get_or cs i d → with_clause c (take i cs) ≡ take i cs ++ c ∷ []
behind [] i c d last h l e = absurd (omega arith)
behind (x ∷ xs) zero c d last h l e = refl
behind (x ∷ xs) (suc i) c d last h l e =
    let a = and_parts (nat_lt last x.id) (numbers_rise x.id xs) h in
    let b = above-start xs i c d x.id a.1 (omega arith) e in
    let other : nat_lt c.id x.id ≡ false = not_lt c.id x.id (omega arith) in
    rw other (ap (λ (ys : List NumberedClause). x ∷ ys) (behind xs i c d x.id a.1 (omega arith) e))

pub one_more : (cs : List NumberedClause) (i : ℕ) (c d : NumberedClause) → numbers_rise 0 cs ≡ true → i < length cs → c ≡ get_or cs i d → with_clause c (take i cs) ≡ take (i + 1) cs
one_more cs i c d h l e = rw (take-at cs i c d l e) (behind cs i c d 0 h l e)

none_some : {X : Type 0} (x : X) → ◌≡◌ {A = Option X} None (Some x) → ⊥
none_some x e = cc

some_one : {X : Type 0} (x y : X) → Some x ≡ Some y → x ≡ y
some_one x y e = cc

-- what a place has
pub got : {X : Type 0} (xs : List X) (i : ℕ) (x d : X) → slice_get xs i ≡ Some x → x ≡ get_or xs i d
got {X} [] zero x d h = absurd (none_some x h)
got {X} [] (suc i) x d h = absurd (none_some x h)
got {X} (y ∷ ys) zero x d h = sym (some_one y x h)
got {X} (y ∷ ys) (suc i) x d h = got ys i x d h

-- a clause of a list in form is within
pub within-at : (variables : ℕ) (cs : List NumberedClause) (i : ℕ) (c d : NumberedClause) → are_clauses variables cs ≡ true → i < length cs → c ≡ get_or cs i d → is_within variables c.lits ≡ true
within-at variables [] i c d h l e = absurd (omega arith)
within-at variables (x ∷ xs) zero c d h l e =
    let a = and_parts (are_literals variables x.lits) (are_clauses variables xs) h in
    rw e (and_parts (rises x.lits) (is_within variables x.lits) a.0).1
within-at variables (x ∷ xs) (suc i) c d h l e =
    let a = and_parts (are_literals variables x.lits) (are_clauses variables xs) h in
    within-at variables xs i c d a.1 (omega arith) e

-- the literals of a clause of clauses that rise do
pub rises-at : (cs : List NumberedClause) (i : ℕ) (c d : NumberedClause) → all_rise cs ≡ true → i < length cs → c ≡ get_or cs i d → rises c.lits ≡ true
rises-at [] i c d h l e = absurd (omega arith)
rises-at (x ∷ xs) zero c d h l e = rw e (and_parts (rises x.lits) (all_rise xs) h).0
rises-at (x ∷ xs) (suc i) c d h l e = rises-at xs i c d (and_parts (rises x.lits) (all_rise xs) h).1 (omega arith) e

pub all_rise-clauses : (variables : ℕ) (cs : List NumberedClause) → are_clauses variables cs ≡ true → all_rise cs ≡ true
all_rise-clauses variables [] h = refl
all_rise-clauses variables (c ∷ cs) h =
    let a = and_parts (are_literals variables c.lits) (are_clauses variables cs) h in
    and_from _ _ (and_parts (rises c.lits) (is_within variables c.lits) a.0).0 (all_rise-clauses variables cs a.1)

within-clauses : (variables : ℕ) (cs : List NumberedClause) → are_clauses variables cs ≡ true → are_within variables cs ≡ true
within-clauses variables [] h = refl
within-clauses variables (c ∷ cs) h =
    let a = and_parts (are_literals variables c.lits) (are_clauses variables cs) h in
    and_from _ _ (and_parts (rises c.lits) (is_within variables c.lits) a.0).1 (within-clauses variables cs a.1)

order-of : (variables : ℕ) (before order : List ℕ) → are_new variables before order ≡ true → is_order_of variables order ≡ true
order-of variables before [] h = refl
order-of variables before (v ∷ vs) h =
    let a = and_parts (is_new variables before v) (are_new variables (before ++ v ∷ []) vs) h in
    let b = and_parts (nat_le 1 v && nat_le v variables) _ a.0 in
    and_from _ _ (and_parts (nat_le 1 v) (nat_le v variables) b.0).1 (order-of variables (before ++ v ∷ []) vs a.1)

rise-from : (last : ℕ) (cs : List NumberedClause) → numbers_rise last cs ≡ true → NumbersRise (last + 1) cs
rise-from last [] h = tt
rise-from last (c ∷ cs) h =
    let a = and_parts (nat_lt last c.id) (numbers_rise c.id cs) h in
    let b = test_lt last c.id a.0 in
    (omega arith, rise-from c.id cs a.1)

-- what is in form keeps what a node keeps
pub formed-node : (n : Node) (most : ℕ) (o : Ordered) → n.variables ≤ most → o.index ≡ n.index → o.list ≡ n.order → IsFormed n → IsNode n.index n.variables most n.assumptions o n.phases n.clauses
formed-node n most o room turned listed i =
    let parts = and_parts (length n.order == n.variables) (are_new n.variables [] n.order) i.order in
    record {
      place = i.ranges.index;
      small = i.ranges.variables;
      room = room;
      assumed = (and_parts (rises n.assumptions) (is_within n.variables n.assumptions) i.assumptions).1;
      turned = turned;
      ordered = rw listed (order-of n.variables [] n.order parts.1);
      complete = rw listed (eqb-true (length n.order) n.variables parts.0);
      phased = i.ranges.phases;
      claused = within-clauses n.variables n.clauses i.clauses;
      rising = rise-from 0 n.clauses i.numbers;
    }

or-true : (b : Bool) → (b || true) ≡ true
or-true true = refl
or-true false = refl

-- new numbers are apart from those before, and stand once
apart-new : (g u : ℕ) (before vs : List ℕ) → list_any (eqb u) before ≡ true → are_new g before vs ≡ true → IsApart u vs
apart-new g u before [] h w = tt
apart-new g u before (v ∷ vs) h w =
    let a = and_parts (is_new g before v) (are_new g (before ++ v ∷ []) vs) w in
    let b = and_parts (nat_le 1 v && nat_le v g) (not (list_any (eqb v) before)) a.0 in
    let other : v ≢ u = λ q. false≢true (sym (ap not (subst (λ (x : ℕ). list_any (eqb x) before ≡ true) (sym q) h)) ∙ b.1) in
    let more : list_any (eqb u) (before ++ v ∷ []) ≡ true = rw (list_any-append (eqb u) before (v ∷ []), h) refl in
    (other, apart-new g u (before ++ v ∷ []) vs more a.1)

once-new : (g : ℕ) (before vs : List ℕ) → are_new g before vs ≡ true → AreOnce vs
once-new g before [] w = tt
once-new g before (v ∷ vs) w =
    let a = and_parts (is_new g before v) (are_new g (before ++ v ∷ []) vs) w in
    let here : list_any (eqb v) (before ++ v ∷ []) ≡ true = rw (list_any-append (eqb v) before (v ∷ []), eq-eqb v v refl) (or-true (list_any (eqb v) before)) in
    (apart-new g v (before ++ v ∷ []) vs here a.1, once-new g (before ++ v ∷ []) vs a.1)

placed-new : (g : ℕ) (before vs : List ℕ) → are_new g before vs ≡ true → ArePlaced (g + 1) vs
placed-new g before [] w = tt
placed-new g before (v ∷ vs) w =
    let a = and_parts (is_new g before v) (are_new g (before ++ v ∷ []) vs) w in
    let b = and_parts (nat_le 1 v && nat_le v g) (not (list_any (eqb v) before)) a.0 in
    let c = and_parts (nat_le 1 v) (nat_le v g) b.0 in
    let low : v ≤ g = test_le v g c.1 in
    (test_le 1 v c.0, omega (arith, low), placed-new g (before ++ v ∷ []) vs a.1)

-- the order of a node in form has the variables 1 to their number, each once
pub formed-turned : (n : Node) → IsFormed n → IsTurned n.order
formed-turned n i =
    let parts = and_parts (length n.order == n.variables) (are_new n.variables [] n.order) i.order in
    let same : length n.order ≡ n.variables = eqb-true (length n.order) n.variables parts.0 in
    record { once = once-new n.variables [] n.order parts.1; placed = rw same (placed-new n.variables [] n.order parts.1) }

-- the literals of the clauses from one on are its own and those of the clauses after it
pub lits-next : (cs : List NumberedClause) (i : ℕ) (c d : NumberedClause) → i < length cs → c ≡ get_or cs i d → lits_in (drop i cs) ≡ length c.lits + lits_in (drop (suc i) cs)
lits-next [] i c d l e = absurd (omega arith)
lits-next (x ∷ xs) zero c d l e = rw e refl
lits-next (x ∷ xs) (suc i) c d l e = lits-next xs i c d (omega arith) e

pub lits-after : (cs : List NumberedClause) (i : ℕ) (c d : NumberedClause) → i < length cs → c ≡ get_or cs i d → lits_in (drop i cs) ≡ length c.lits + lits_in (drop (i + 1) cs)
lits-after cs i c d l e = let q : i + 1 ≡ suc i = omega arith in rw q (lits-next cs i c d l e)
