use Rattle.std.proofs.Common.{◌≡◌, ◌≢◌, ℕ, ◌+◌, ◌-◌, ◌≤◌, ◌⊎◌, inl, inr, Bool, true, false, ◌&&◌, cond, eqb, ltb, List, [], ◌∷◌, length, take, refl, sym, ap, ◌∙◌, arith}
use Rattle.std.specs.Prelude.{count_by}
use Rattle.std.proofs.lemmas.Bool.{cases_eq}
use Rattle.std.proofs.lemmas.Bool.Decides.{nat_tests}
use Rattle.std.proofs.lemmas.List.{length-take-le, take-take}
use Rattle.std.proofs.lemmas.List.Sums.{sum_by-cons}
use Rattle.mal_base.specs.NumberedClause.{NumberedClause}
use Rattle.mal_base.specs.declared.trail_entry.TrailEntry.{TrailEntry}
use Rattle.spec_node.specs.Value.{open_count}
use Rattle.spec_node.specs.Batch.{is_in_batch}
use Rattle.mal_watch.specs.WatchLists.{Has, AreOnce}
use Rattle.mal_watch.proofs.HasLemmas.{has-none, has-head, has-tail, has-cases}

count-cons : (p : ℕ → Bool) (x : ℕ) (xs : List ℕ) → count_by p (x ∷ xs) ≡ cond (p x) 1 0 + count_by p xs
count-cons p x xs = sum_by-cons (λ y. cond (p y) 1 0) x xs

count-yes : (p : ℕ → Bool) (x : ℕ) (xs : List ℕ) → p x ≡ true → count_by p (x ∷ xs) ≡ 1 + count_by p xs
count-yes p x xs h = count-cons p x xs ∙ ap (λ (b : Bool). cond b 1 0 + count_by p xs) h

count-no : (p : ℕ → Bool) (x : ℕ) (xs : List ℕ) → p x ≡ false → count_by p (x ∷ xs) ≡ count_by p xs
count-no p x xs h = let e : count_by p (x ∷ xs) ≡ 0 + count_by p xs = count-cons p x xs ∙ ap (λ (b : Bool). cond b 1 0 + count_by p xs) h in omega arith

count-more : (p : ℕ → Bool) (x : ℕ) (xs : List ℕ) → count_by p xs ≤ count_by p (x ∷ xs)
count-more p x xs = by_test (p x) refl
  where
    by_test : (b : Bool) → p x ≡ b → count_by p xs ≤ count_by p (x ∷ xs)
    by_test true e = omega (arith, count-yes p x xs e)
    by_test false e = omega (arith, count-no p x xs e)

-- a number that passes counts
pub count-one : (p : ℕ → Bool) (xs : List ℕ) (x : ℕ) → Has xs x → p x ≡ true → 1 ≤ count_by p xs
count-one p [] x h t = absurd (has-none x h)
count-one p (y ∷ ys) x h t = by_side (λ m. count-one p ys x m t) (has-cases x y ys h)
  where
    by_side : (Has ys x → 1 ≤ count_by p ys) → (x ≡ y) ⊎ Has ys x → 1 ≤ count_by p (y ∷ ys)
    by_side rest (inl e) = omega (arith, count-yes p y ys (rw (← e) t))
    by_side rest (inr m) = omega (arith, count-more p y ys, rest m)

-- two different ones count twice
pub count-two : (p : ℕ → Bool) (xs : List ℕ) (x y : ℕ) → Has xs x → Has xs y → x ≢ y → p x ≡ true → p y ≡ true → 2 ≤ count_by p xs
count-two p [] x y h k d t u = absurd (has-none x h)
count-two p (z ∷ zs) x y h k d t u = by_sides (λ m n. count-two p zs x y m n d t u) (has-cases x z zs h) (has-cases y z zs k)
  where
    by_sides : (Has zs x → Has zs y → 2 ≤ count_by p zs) → (x ≡ z) ⊎ Has zs x → (y ≡ z) ⊎ Has zs y → 2 ≤ count_by p (z ∷ zs)
    by_sides rest (inl e) (inl f) = absurd (d (e ∙ sym f))
    by_sides rest (inl e) (inr n) = omega (arith, count-yes p z zs (rw (← e) t), count-one p zs y n u)
    by_sides rest (inr m) (inl f) = omega (arith, count-yes p z zs (rw (← f) u), count-one p zs x m t)
    by_sides rest (inr m) (inr n) = omega (arith, count-more p z zs, rest m n)

-- where none passes the count is 0
pub count-none : (p : ℕ → Bool) (xs : List ℕ) → ((x : ℕ) → Has xs x → p x ≡ false) → count_by p xs ≡ 0
count-none p [] h = refl
count-none p (x ∷ xs) h = count-no p x xs (h x (has-head x x xs refl)) ∙ count-none p xs (λ y m. h y (has-tail y x xs m))

-- where none passes but this one, which stands once, at most one counts
pub count-most : (p : ℕ → Bool) (xs : List ℕ) (o : ℕ) → AreOnce xs → ((x : ℕ) → Has xs x → x ≢ o → p x ≡ false) → count_by p xs ≤ 1
count-most p [] o a h = omega arith
count-most p (x ∷ xs) o a h = by_side (count-most p xs o a.1 (λ y m d. h y (has-tail y x xs m) d)) (cases_eq x o)
  where
    by_test : count_by p xs ≡ 0 → (b : Bool) → p x ≡ b → count_by p (x ∷ xs) ≤ 1
    by_test z true e = omega (arith, count-yes p x xs e)
    by_test z false e = omega (arith, count-no p x xs e)

    by_side : count_by p xs ≤ 1 → (x ≡ o) ⊎ (x ≡ o → ⊥) → count_by p (x ∷ xs) ≤ 1
    by_side rest (inl e) = by_test (count-none p xs (λ y m. h y (has-tail y x xs m) (λ f. a.0 (rw (f ∙ sym e) at m)))) (p x) refl
    by_side rest (inr d) = omega (arith, count-no p x xs (h x (has-head x x xs refl) d), rest)

-- tests that agree count the same
pub count-same : (p q : ℕ → Bool) → ((x : ℕ) → p x ≡ q x) → (xs : List ℕ) → count_by p xs ≡ count_by q xs
count-same p q h [] = refl
count-same p q h (x ∷ xs) = count-cons p x xs ∙ (rw (h x, count-same p q h xs) (sym (count-cons q x xs)))

not_zero : (n : ℕ) → 1 ≤ n → eqb n 0 ≡ false
not_zero n = grind (arith, nat_tests)

not_one : (n : ℕ) → (n ≡ 1 → ⊥) → eqb n 1 ≡ false
not_one n = grind (arith, nat_tests)

is_one : (n : ℕ) → n ≡ 1 → eqb n 1 ≡ true
is_one n = grind (arith, nat_tests)

more_one : (n : ℕ) → 2 ≤ n → ltb 1 n ≡ true
more_one n = grind (arith, nat_tests)

most_one : (n : ℕ) → n ≤ 1 → ltb 1 n ≡ false
most_one n = grind (arith, nat_tests)

and-false : (a : Bool) → (a && false) ≡ false
and-false true = refl
and-false false = refl

-- whether a clause is in the batch of the first entries
pub batch-test : (es : List TrailEntry) (q : ℕ) (c : NumberedClause) → 1 ≤ q → q ≤ length es → is_in_batch (take q es) c ≡ (eqb (open_count (take q es) c.lits) 1 && ltb 1 (open_count (take (q - 1) es) c.lits))
batch-test es q c s l =
    let fits : q - 1 ≤ q = omega arith in
    rw (length-take-le q es l, not_zero q s, take-take (q - 1) q es fits) refl

pub batch-yes : (es : List TrailEntry) (q : ℕ) (c : NumberedClause) → 1 ≤ q → q ≤ length es → open_count (take q es) c.lits ≡ 1 → 2 ≤ open_count (take (q - 1) es) c.lits → is_in_batch (take q es) c ≡ true
batch-yes es q c s l o m = batch-test es q c s l ∙ rw (is_one (open_count (take q es) c.lits) o, more_one (open_count (take (q - 1) es) c.lits) m) refl

pub batch-no : (es : List TrailEntry) (q : ℕ) (c : NumberedClause) → 1 ≤ q → q ≤ length es → (open_count (take q es) c.lits ≡ 1 → ⊥) → is_in_batch (take q es) c ≡ false
batch-no es q c s l o = batch-test es q c s l ∙ rw (not_one (open_count (take q es) c.lits) o) refl

pub batch-before : (es : List TrailEntry) (q : ℕ) (c : NumberedClause) → 1 ≤ q → q ≤ length es → open_count (take (q - 1) es) c.lits ≤ 1 → is_in_batch (take q es) c ≡ false
batch-before es q c s l m = batch-test es q c s l ∙ rw (most_one (open_count (take (q - 1) es) c.lits) m) (and-false (eqb (open_count (take q es) c.lits) 1))
