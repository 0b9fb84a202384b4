use Rattle.std.proofs.Common.{◌≡◌, ℕ, zero, suc, ◌+◌, ◌-◌, ◌*◌, ◌/◌, ◌<◌, ◌≤◌, Bool, true, false, ◌&&◌, cond, nat_le, List, [], ◌∷◌, ◌++◌, length, take, replicate, get_or, Option, Some, None, refl, sym, ap, ◌∙◌, arith, append_assoc}
use Rattle.std.specs.List.{list_all, find}
use Rattle.std.proofs.lemmas.List.{length-append}
use Rattle.std.specs.Prelude.{filter, nat_lt, slice_set, ◌^◌}
use Rattle.std.proofs.lemmas.Bool.Decides.{nat_tests}
use Rattle.std.proofs.lemmas.List.Folds.{list_all-append}
use Rattle.mal_base.specs.Limits.{limits}
use Rattle.mal_base.specs.Clauses.{rises}
use Rattle.mal_base.specs.Literals.{var_of, has_plus}
use Rattle.mal_base.specs.declared.trail_entry.TrailEntry.{TrailEntry}
use Rattle.spec_node.specs.Cut.{saved}
use Rattle.mal_base.specs.Formulas.{is_within_limits, is_clause_of, is_within, literals_of}
use Rattle.mal_revision.specs.Posted.{Posted, is_posted}
use Rattle.mal_base.specs.NumberedClause.{NumberedClause}
use Rattle.spec_node.specs.Load.{counted, numbered, new_order, with_originals, is_derived}
use Rattle.mal_order.proofs.CountedLemmas.{turn-le, new_order-runs}
use Rattle.mal_trail.proofs.FoundLemmas.{and_true, some_one, none_some}
use Rattle.mal_trail.specs.Rooms.{are_within}
use Rattle.mal_cdcl.specs.Within.{is_order_of}

-- the one found passes
pub found_holds : {X : Type 0} (p : X → Bool) (xs : List X) (x : X) → find p xs ≡ Some x → p x ≡ true
found_holds {X} p [] x e = absurd (none_some x e)
found_holds {X} p (y ∷ ys) x e = by_test (p y) refl (λ f. found_holds p ys x f) e
  where
    by_test : (b : Bool) → p y ≡ b → (find p ys ≡ Some x → p x ≡ true) → cond b (Some y) (find p ys) ≡ Some x → p x ≡ true
    by_test true t rest f = rw (← some_one y x f) t
    by_test false t rest f = rest f

le_test : (a b : ℕ) → a ≤ b → nat_le a b ≡ true
le_test a b = grind (arith, nat_tests)

test_le : (a b : ℕ) → nat_le a b ≡ true → a ≤ b
test_le a b = grind (arith, nat_tests)

pub order_of-counted : (m n a : ℕ) → a + n ≤ m + 1 → is_order_of m (counted a n) ≡ true
order_of-counted m zero a h = refl
order_of-counted m (suc n) a h =
    let t : nat_le a m ≡ true = le_test a m (omega arith) in
    rw t (order_of-counted m n (a + 1) (omega arith))

pub order_of-new : (index variables n m : ℕ) → index ≤ 63 → variables + n ≤ m → is_order_of m (new_order index variables n) ≡ true
order_of-new index variables n m h l =
    let t : index * n / 64 ≤ n = turn-le index n h in
    rw (new_order-runs index variables n h, list_all-append, order_of-counted m (n - index * n / 64) (variables + 1 + index * n / 64) (omega arith)) (order_of-counted m (index * n / 64) (variables + 1) (omega arith))

-- an order of some variables is one of more
pub order_more : (n m : ℕ) (order : List ℕ) → n ≤ m → is_order_of n order ≡ true → is_order_of m order ≡ true
order_more n m [] h w = refl
order_more n m (v ∷ vs) h w =
    let a = and_true (nat_le v n) (is_order_of n vs) w in
    let t : nat_le v m ≡ true = le_test v m (omega (arith, test_le v n a.0)) in
    rw t (order_more n m vs h a.1)

-- the decision order of a node that gets variables
pub order-loaded : (index variables n m : ℕ) (order : List ℕ) → index ≤ 63 → variables + n ≤ m → is_order_of variables order ≡ true → is_order_of m (order ++ new_order index variables n) ≡ true
order-loaded index variables n m order h l w = rw (list_all-append, order_more variables m order (omega arith) w) (order_of-new index variables n m h l)

long-counted : (n first : ℕ) → length (counted first n) ≡ n
long-counted zero first = refl
long-counted (suc n) first = omega (arith, long-counted n (first + 1))

-- as many variables are new as were added
pub order-long : (index variables n : ℕ) (order : List ℕ) → index ≤ 63 → length (order ++ new_order index variables n) ≡ length order + n
order-long index variables n order h =
    let t : index * n / 64 ≤ n = turn-le index n h in
    rw (new_order-runs index variables n h, length-append, length-append, long-counted, long-counted) (omega arith)

all-filter : (q p : NumberedClause → Bool) (cs : List NumberedClause) → list_all q cs ≡ true → list_all q (filter p cs) ≡ true
all-filter q p [] w = refl
all-filter q p (c ∷ cs) w = by_test (p c) (all-filter q p cs (and_true (q c) (list_all q cs) w).1)
  where
    by_test : (b : Bool) → list_all q (filter p cs) ≡ true → list_all q (cond b (c ∷ filter p cs) (filter p cs)) ≡ true
    by_test true r = rw ((and_true (q c) (list_all q cs) w).0) r
    by_test false r = r

pub within-numbered : (n first : ℕ) (clauses : List (Option (List ℕ))) → list_all (is_clause_of n) clauses ≡ true → are_within n (numbered first clauses) ≡ true
within-numbered n first [] h = refl
within-numbered n first (None ∷ cs) h = within-numbered n (first + 1) cs (and_true (is_clause_of n None) (list_all (is_clause_of n) cs) h).1
within-numbered n first (Some lits ∷ cs) h =
    let here = and_true (rises lits) (is_within n lits) (and_true (is_clause_of n (Some lits)) (list_all (is_clause_of n) cs) h).0 in
    let rest = within-numbered n (first + 1) cs (and_true (is_clause_of n (Some lits)) (list_all (is_clause_of n) cs) h).1 in
    rw here.1 rest

-- the parts of a revision are of its own variables, which are at most those that are served
pub record PostedParts (r : Posted) : Type 0 where
  pub small : r.variables ≤ limits.variables
  pub claused : list_all (is_clause_of r.variables) r.clauses ≡ true
  pub assumed : is_within r.variables r.assumptions ≡ true

pub posted_parts : (r : Posted) → is_posted r ≡ true → PostedParts r
posted_parts r h =
    let w = and_true (is_within_limits r.variables r.clauses && list_all (is_clause_of r.variables) r.clauses) (rises r.assumptions && is_within r.variables r.assumptions) h in
    let a = and_true (is_within_limits r.variables r.clauses) (list_all (is_clause_of r.variables) r.clauses) w.0 in
    let b = and_true (nat_le r.variables limits.variables && nat_le (length r.clauses) limits.clauses) (nat_le (literals_of r.clauses) limits.literals) a.0 in
    let d = and_true (nat_le r.variables limits.variables) (nat_le (length r.clauses) limits.clauses) b.0 in
    record { small = test_le r.variables limits.variables d.0; claused = a.1; assumed = (and_true (rises r.assumptions) (is_within r.variables r.assumptions) w.1).1 }

-- what is of some variables is of more
pub lits_more : (n m : ℕ) (lits : List ℕ) → n ≤ m → is_within n lits ≡ true → is_within m lits ≡ true
lits_more n m [] h w = refl
lits_more n m (l ∷ ls) h w =
    let a = and_true (nat_le 1 (l / 2) && nat_le (l / 2) n) (is_within n ls) w in
    let b = and_true (nat_le 1 (l / 2)) (nat_le (l / 2) n) a.0 in
    let t : nat_le (l / 2) m ≡ true = le_test (l / 2) m (omega (arith, test_le (l / 2) n b.1)) in
    rw (b.0, t) (lits_more n m ls h a.1)

pub clauses_more : (n m : ℕ) (clauses : List NumberedClause) → n ≤ m → are_within n clauses ≡ true → are_within m clauses ≡ true
clauses_more n m [] h w = refl
clauses_more n m (c ∷ cs) h w =
    let a = and_true (is_within n c.lits) (are_within n cs) w in
    rw (lits_more n m c.lits h a.0) (clauses_more n m cs h a.1)

-- clauses of a node that gets clauses of more variables
pub within-loaded : (v n m first : ℕ) (held : List NumberedClause) (clauses : List (Option (List ℕ))) → v ≤ m → n ≤ m → are_within v held ≡ true → list_all (is_clause_of n) clauses ≡ true → are_within m (with_originals held (numbered first clauses)) ≡ true
within-loaded v n m first held clauses h k w c =
    let old = clauses_more v m held h w in
    let new = clauses_more n m (numbered first clauses) k (within-numbered n first clauses c) in
    rw (list_all-append, all-filter (λ (x : NumberedClause). is_within m x.lits) (λ (x : NumberedClause). nat_lt x.id (2 ^ 32)) held old, list_all-append, new) (all-filter (λ (x : NumberedClause). is_within m x.lits) is_derived held old)

-- one entry more is saved before those in front of it
pub saved-push : (phases : List Bool) (es : List TrailEntry) (e : TrailEntry) → saved phases (es ++ e ∷ []) ≡ saved (slice_set phases (var_of e.lit - 1) (has_plus e.lit)) es
saved-push phases [] e = refl
saved-push phases (x ∷ xs) e = ap (λ (ps : List Bool). slice_set ps (var_of x.lit - 1) (has_plus x.lit)) (saved-push phases xs e)

take-next : (es : List TrailEntry) (k : ℕ) (e d : TrailEntry) → k < length es → e ≡ get_or es k d → take (suc k) es ≡ take k es ++ e ∷ []
take-next [] k e d l is = absurd (omega arith)
take-next (x ∷ xs) zero e d l is = rw is refl
take-next (x ∷ xs) (suc k) e d l is = ap (λ (ys : List TrailEntry). x ∷ ys) (take-next xs k e d (omega arith) is)

-- the entry after those that are left is saved next
pub saved-next : (phases : List Bool) (es : List TrailEntry) (made : ℕ) (d : TrailEntry) → made < length es → saved (slice_set phases (var_of (get_or es (length es - 1 - made) d).lit - 1) (has_plus (get_or es (length es - 1 - made) d).lit)) (take (length es - (made + 1)) es) ≡ saved phases (take (length es - made) es)
saved-next phases es made d l =
    let k : length es - 1 - made ≡ length es - (made + 1) = omega arith in
    let n : length es - made ≡ suc (length es - (made + 1)) = omega arith in
    rw (k, n) (sym (ap (saved phases) (take-next es (length es - (made + 1)) (get_or es (length es - (made + 1)) d) d (omega arith) refl) ∙ saved-push phases (take (length es - (made + 1)) es) (get_or es (length es - (made + 1)) d)))

pub phases-next : (items : List Bool) (phase : Bool) (n p : ℕ) → p < n → (items ++ phase ∷ []) ++ replicate (n - (p + 1)) phase ≡ items ++ replicate (n - p) phase
phases-next items phase n p h =
    let k : n - p ≡ suc (n - (p + 1)) = omega arith in
    rw (append_assoc, k) refl

-- clauses of some variables are clauses of more
pub clauses_of_more : (n m : ℕ) (clauses : List (Option (List ℕ))) → n ≤ m → list_all (is_clause_of n) clauses ≡ true → list_all (is_clause_of m) clauses ≡ true
clauses_of_more n m [] h w = refl
clauses_of_more n m (None ∷ cs) h w =
    let a = and_true (nat_le 1 n) (list_all (is_clause_of n) cs) w in
    let t : nat_le 1 m ≡ true = le_test 1 m (omega (arith, test_le 1 n a.0)) in
    rw t (clauses_of_more n m cs h a.1)
clauses_of_more n m (Some lits ∷ cs) h w =
    let a = and_true (rises lits && is_within n lits) (list_all (is_clause_of n) cs) w in
    let b = and_true (rises lits) (is_within n lits) a.0 in
    rw (b.0, lits_more n m lits h b.1) (clauses_of_more n m cs h a.1)
