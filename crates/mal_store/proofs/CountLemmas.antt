use Rattle.std.proofs.Common.{◌≡◌, ℕ, ◌+◌, ◌*◌, ◌<◌, ◌≤◌, inl, inr, Bool, true, false, nat_lt, cond, eqb, List, [], ◌∷◌, ◌++◌, length, refl, sym, ◌∙◌, ap, arith}
use Rattle.std.specs.Prelude.{filter, sum_by}
use Rattle.std.proofs.lemmas.Bool.{eqb-true, eq-eqb, ltb-false}
use Rattle.std.proofs.lemmas.List.Sums.{sum_by-cons, sum_by_push, sum_by-le-sum_by}
use Rattle.mal_base.specs.NumberedClause.{NumberedClause}
use Rattle.spec_node.specs.Adding.{with_clause, forgetting}
use Rattle.mal_store.specs.declared.entry.Entry.{Entry}
use Rattle.mal_store.specs.Indexed.{EntriesRise}
use Rattle.mal_store.specs.Arena.{is_left, listed_len, listed_count}
use Rattle.mal_store.specs.Stored.{Among, entry_clause, held_in, literal_count, is_long, if_long, with_long, AreLong}

-- a clause more
sum-with : (f : NumberedClause → ℕ) (c : NumberedClause) (cs : List NumberedClause) → sum_by f (with_clause c cs) ≡ f c + sum_by f cs
sum-with f c [] = sum_by-cons f c []
sum-with f c (d ∷ ds) = by_test (nat_lt c.id d.id) (sum-with f c ds)
  where
    by_test : (b : Bool) → sum_by f (with_clause c ds) ≡ f c + sum_by f ds → sum_by f (cond b (c ∷ (d ∷ ds)) (d ∷ with_clause c ds)) ≡ f c + sum_by f (d ∷ ds)
    by_test true r = sum_by-cons f c (d ∷ ds)
    by_test false r = omega (arith, sum_by-cons f d (with_clause c ds), sum_by-cons f d ds, r)

pub count-with : (c : NumberedClause) (cs : List NumberedClause) → literal_count (with_clause c cs) ≡ length c.lits + literal_count cs
count-with c cs = sum-with (λ (d : NumberedClause). length d.lits) c cs

pub long-with : (c : NumberedClause) (long cs : List NumberedClause) → AreLong long cs → AreLong (with_long c long) (with_clause c cs)
long-with c long cs h f = by_test (is_long c) refl
  where
    by_test : (b : Bool) → is_long c ≡ b → sum_by f (cond b (long ++ c ∷ []) long) ≡ sum_by (if_long f) (with_clause c cs)
    by_test true t =
        let one : if_long f c ≡ f c = rw t refl in
        omega (arith, sum_by_push f long c, sum-with (if_long f) c cs, one, h f)
    by_test false t =
        let one : if_long f c ≡ 0 = rw t refl in
        omega (arith, sum-with (if_long f) c cs, one, h f)

-- fewer clauses

sum-filter : (test : NumberedClause → Bool) (f : NumberedClause → ℕ) (cs : List NumberedClause) → sum_by f (filter test cs) ≡ sum_by (λ (c : NumberedClause). cond (test c) (f c) 0) cs
sum-filter test f [] = refl
sum-filter test f (c ∷ cs) = by_test (test c) refl (sum-filter test f cs)
  where
    by_test : (b : Bool) → test c ≡ b → sum_by f (filter test cs) ≡ sum_by (λ (d : NumberedClause). cond (test d) (f d) 0) cs → sum_by f (cond b (c ∷ filter test cs) (filter test cs)) ≡ sum_by (λ (d : NumberedClause). cond (test d) (f d) 0) (c ∷ cs)
    by_test true t r =
        let one : cond (test c) (f c) 0 ≡ f c = rw t refl in
        omega (arith, sum_by-cons f c (filter test cs), sum_by-cons (λ (d : NumberedClause). cond (test d) (f d) 0) c cs, one, r)
    by_test false t r =
        let one : cond (test c) (f c) 0 ≡ 0 = rw t refl in
        omega (arith, sum_by-cons (λ (d : NumberedClause). cond (test d) (f d) 0) c cs, one, r)

sum-same : (f g : NumberedClause → ℕ) → ((c : NumberedClause) → f c ≡ g c) → (cs : List NumberedClause) → sum_by f cs ≡ sum_by g cs
sum-same f g h [] = refl
sum-same f g h (c ∷ cs) = omega (arith, sum_by-cons f c cs, sum_by-cons g c cs, h c, sum-same f g h cs)

pub count-fewer : (ids : List ℕ) (cs : List NumberedClause) → literal_count (forgetting ids cs) ≤ literal_count cs
count-fewer ids [] = omega arith
count-fewer ids (c ∷ cs) = by_test (is_left ids c) (count-fewer ids cs)
  where
    by_test : (b : Bool) → literal_count (forgetting ids cs) ≤ literal_count cs → literal_count (cond b (c ∷ forgetting ids cs) (forgetting ids cs)) ≤ literal_count (c ∷ cs)
    by_test true r = omega (arith, sum_by-cons (λ (d : NumberedClause). length d.lits) c (forgetting ids cs), sum_by-cons (λ (d : NumberedClause). length d.lits) c cs, r)
    by_test false r = omega (arith, sum_by-cons (λ (d : NumberedClause). length d.lits) c cs, r)

pub long-fewer : (ids : List ℕ) (long cs : List NumberedClause) → AreLong long cs → AreLong (forgetting ids long) (forgetting ids cs)
long-fewer ids long cs h f = sum-filter (is_left ids) f long ∙ (h (λ (c : NumberedClause). cond (is_left ids c) (f c) 0) ∙ (sum-same (if_long (λ (c : NumberedClause). cond (is_left ids c) (f c) 0)) (λ (c : NumberedClause). cond (is_left ids c) (if_long f c) 0) (λ c. swapped (is_long c) (is_left ids c) (f c)) cs ∙ sym (sum-filter (is_left ids) (if_long f) cs)))
  where
    swapped : (a b : Bool) (n : ℕ) → cond a (cond b n 0) 0 ≡ cond b (cond a n 0) 0
    swapped true true n = refl
    swapped true false n = refl
    swapped false true n = refl
    swapped false false n = refl

-- literals that stand in the list of all are literals of clauses
pub listed-fewer : (long cs : List NumberedClause) → AreLong long cs → listed_count long ≤ literal_count cs
listed-fewer long cs h = omega (arith, h listed_len, sum_by-le-sum_by (if_long listed_len) (λ (c : NumberedClause). length c.lits) cs (λ c. less (is_long c) (eqb (length c.lits) 3) (length c.lits)))
  where
    less : (a b : Bool) (n : ℕ) → cond a (cond b 0 n) 0 ≤ n
    less true true n = omega arith
    less true false n = omega arith
    less false b n = omega arith

-- and no clause has more than three others
beside : (n : ℕ) (a b : Bool) → nat_lt 1 n ≡ a → eqb n 3 ≡ b → n ≤ cond a (cond b 0 n) 0 + 3
beside n true true p q = omega (arith, eqb-true n 3 q)
beside n true false p q = omega arith
beside n false b p q = omega (arith, ltb-false 1 n p)

count-most : (cs : List NumberedClause) → literal_count cs ≤ sum_by (if_long listed_len) cs + 3 * length cs
count-most [] = omega arith
count-most (c ∷ cs) = omega (arith, sum_by-cons (λ (d : NumberedClause). length d.lits) c cs, sum_by-cons (if_long listed_len) c cs, beside (length c.lits) (is_long c) (eqb (length c.lits) 3) refl refl, count-most cs)

pub count-listed : (long cs : List NumberedClause) → AreLong long cs → literal_count cs ≤ listed_count long + 3 * length cs
count-listed long cs h = omega (arith, h listed_len, count-most cs)

-- how many clauses have a number
abbrev pub has_number : ℕ → NumberedClause → ℕ
has_number k c = cond (eqb k c.id) 1 0

rise-single : (long : List NumberedClause) (low : ℕ) (es : List Entry) → EntriesRise low es → (k : ℕ) → (k < low → sum_by (has_number k) (held_in long es) ≡ 0) × (sum_by (has_number k) (held_in long es) ≤ 1)
rise-single long low [] h k = (λ l. refl, omega arith)
rise-single long low (e ∷ es) h k = by_here (eqb k e.id) refl (rise-single long (e.id + 1) es h.1 k) (sum_by-cons (has_number k) (entry_clause long e) (held_in long es))
  where
    by_here : (b : Bool) → eqb k e.id ≡ b → (k < e.id + 1 → sum_by (has_number k) (held_in long es) ≡ 0) × (sum_by (has_number k) (held_in long es) ≤ 1) → sum_by (has_number k) (held_in long (e ∷ es)) ≡ cond (eqb k e.id) 1 0 + sum_by (has_number k) (held_in long es) → (k < low → sum_by (has_number k) (held_in long (e ∷ es)) ≡ 0) × (sum_by (has_number k) (held_in long (e ∷ es)) ≤ 1)
    by_here true q r m =
        let same : k ≡ e.id = eqb-true k e.id q in
        let now : sum_by (has_number k) (held_in long (e ∷ es)) ≡ 1 + sum_by (has_number k) (held_in long es) = m ∙ ap (λ (b : Bool). cond b 1 0 + sum_by (has_number k) (held_in long es)) q in
        (λ l. absurd (omega (arith, h.0, same, l)), omega (arith, now, r.0 (omega (arith, same))))
    by_here false q r m =
        let now : sum_by (has_number k) (held_in long (e ∷ es)) ≡ 0 + sum_by (has_number k) (held_in long es) = m ∙ ap (λ (b : Bool). cond b 1 0 + sum_by (has_number k) (held_in long es)) q in
        (λ l. omega (arith, now, r.0 (omega (arith, h.0, l))), omega (arith, now, r.1))

-- no number stands twice among the long clauses
pub long-single : (long : List NumberedClause) (es : List Entry) → EntriesRise 1 es → AreLong long (held_in long es) → (k : ℕ) → sum_by (has_number k) long ≤ 1
long-single long es r h k = omega (arith, h (has_number k), sum_by-le-sum_by (if_long (has_number k)) (has_number k) (held_in long es) (λ c. less (is_long c) (has_number k c)), (rise-single long 1 es r k).1)
  where
    less : (a : Bool) (n : ℕ) → cond a n 0 ≤ n
    less true n = omega arith
    less false n = omega arith

counted : (c : NumberedClause) (cs : List NumberedClause) → Among c cs → 1 ≤ sum_by (has_number c.id) cs
counted c [] h = absurd h
counted c (d ∷ ds) (inl e) =
    let one : has_number c.id d ≡ 1 = rw (eq-eqb c.id d.id (ap (λ (x : NumberedClause). x.id) e)) refl in
    omega (arith, sum_by-cons (has_number c.id) d ds, one)
counted c (d ∷ ds) (inr m) = omega (arith, sum_by-cons (has_number c.id) d ds, counted c ds m)

pub same-number : (cs : List NumberedClause) (c d : NumberedClause) → ((k : ℕ) → sum_by (has_number k) cs ≤ 1) → Among c cs → Among d cs → c.id ≡ d.id → c ≡ d
same-number [] c d h a b e = absurd a
same-number (x ∷ xs) c d h (inl a) (inl b) e = a ∙ sym b
same-number (x ∷ xs) c d h (inl a) (inr b) e =
    let one : has_number d.id x ≡ 1 = rw (eq-eqb d.id x.id (sym e ∙ ap (λ (y : NumberedClause). y.id) a)) refl in
    absurd (omega (arith, h d.id, sum_by-cons (has_number d.id) x xs, one, counted d xs b))
same-number (x ∷ xs) c d h (inr a) (inl b) e =
    let one : has_number c.id x ≡ 1 = rw (eq-eqb c.id x.id (e ∙ ap (λ (y : NumberedClause). y.id) b)) refl in
    absurd (omega (arith, h c.id, sum_by-cons (has_number c.id) x xs, one, counted c xs a))
same-number (x ∷ xs) c d h (inr a) (inr b) e = same-number xs c d (λ k. omega (arith, h k, sum_by-cons (has_number k) x xs)) a b e
