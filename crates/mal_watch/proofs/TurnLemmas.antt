use Rattle.std.proofs.Common.{◌≡◌, ◌≢◌, ℕ, ◌+◌, ◌-◌, ◌/◌, ◌%◌, ◌<◌, ◌≤◌, ◌↔◌, ◌⊎◌, inl, inr, Bool, true, false, not, ◌||◌, cond, List, [], ◌∷◌, ◌++◌, length, take, set, get_or, Some, refl, sym, ap, subst, ◌∙◌, arith}
use Rattle.std.specs.Prelude.{nat_eq}
use Rattle.std.proofs.lemmas.Bool.{false≢true, cases_eq}
use Rattle.std.proofs.lemmas.Bool.Decides.{nat_tests}
use Rattle.std.proofs.lemmas.List.{length-set, get_or-set_same, get_or-set_other, set-get_or, take_more, take_all}
use Rattle.mal_base.specs.Literals.{negated}
use Rattle.mal_base.specs.NumberedClause.{NumberedClause}
use Rattle.mal_base.specs.declared.trail_entry.TrailEntry.{TrailEntry}
use Rattle.spec_node.specs.Value.{is_true, is_false, open_count, left_literal}
use Rattle.spec_node.specs.Batch.{is_in_batch}
use Rattle.mal_watch.specs.WatchLists.{Has, AreOnce, IsAt}
use Rattle.mal_store.specs.Arena.{no_clause}
use Rattle.mal_watch.specs.Watching.{clause_of, partner, from_open, IsOther, AreOthersFalse, IsSettled, other_key, IsWatching, IsWatchKept}
use Rattle.mal_watch.specs.Going.{Turns, Goes}
use Rattle.mal_watch.specs.Finding.{is_pending, found_at, found_in}
use Rattle.mal_watch.specs.declared.found.Found.{Found}
use Rattle.mal_watch.proofs.HasLemmas.{has-none, has-head, has-tail, has-cases, has-other}
use Rattle.mal_watch.proofs.FalseLemmas.{true-more, false-more, open-less}
use Rattle.mal_watch.proofs.WalkLemmas.{watching-set, partner-below}
use Rattle.mal_watch.proofs.CountLemmas.{count-one, count-two, count-none, count-most, batch-yes, batch-no, batch-before}

eq_true : (a b : ℕ) → nat_eq a b ≡ true → a ≡ b
eq_true a b = grind (arith, nat_tests)

eq_yes : (a : ℕ) → nat_eq a a ≡ true
eq_yes a = grind (arith, nat_tests)

parity : (a : ℕ) → (a % 2 ≡ 0) ⊎ (a % 2 ≡ 1)
parity a = by_case (nat_eq (a % 2) 0) refl
  where
    odd : nat_eq (a % 2) 0 ≡ false → a % 2 ≡ 1
    odd e = let n : a % 2 ≡ 0 → ⊥ = grind (arith, nat_tests) in omega arith

    by_case : (b : Bool) → nat_eq (a % 2) 0 ≡ b → (a % 2 ≡ 0) ⊎ (a % 2 ≡ 1)
    by_case true e = inl (eq_true (a % 2) 0 e)
    by_case false e = inr (odd e)

test_zero : (n : ℕ) → n ≡ 0 → nat_eq n 0 ≡ true
test_zero n = grind (arith, nat_tests)

test_one : (n : ℕ) → n ≡ 1 → nat_eq n 0 ≡ false
test_one n = grind (arith, nat_tests)

-- the partner of an even watch is the next, that of an odd one the one before
pub partner-even : (k : ℕ) → k % 2 ≡ 0 → partner k ≡ k + 1
partner-even k e = rw (test_zero (k % 2) e) refl

pub partner-odd : (k : ℕ) → k % 2 ≡ 1 → partner k ≡ k - 1
partner-odd k e = rw (test_one (k % 2) e) refl

pub partner-other : (k : ℕ) → partner k ≢ k
partner-other k = by_side (parity k)
  where
    by_side : (k % 2 ≡ 0) ⊎ (k % 2 ≡ 1) → partner k ≢ k
    by_side (inl e) = λ s. let p = partner-even k e in omega arith
    by_side (inr e) = λ s. let p = partner-odd k e in omega arith

pub partner-half : (k : ℕ) → partner k / 2 ≡ k / 2
partner-half k = by_side (parity k)
  where
    by_side : (k % 2 ≡ 0) ⊎ (k % 2 ≡ 1) → partner k / 2 ≡ k / 2
    by_side (inl e) = let p = partner-even k e in omega arith
    by_side (inr e) = let p = partner-odd k e in omega arith

pub partner-back : (k : ℕ) → partner (partner k) ≡ k
partner-back k = by_side (parity k)
  where
    by_side : (k % 2 ≡ 0) ⊎ (k % 2 ≡ 1) → partner (partner k) ≡ k
    by_side (inl e) =
        let p = partner-even k e in
        let odd : partner k % 2 ≡ 1 = omega arith in
        let b = partner-odd (partner k) odd in
        omega arith
    by_side (inr e) =
        let p = partner-odd k e in
        let even : partner k % 2 ≡ 0 = omega arith in
        let b = partner-even (partner k) even in
        omega arith

pub negated-back : (l : ℕ) → negated (negated l) ≡ l
negated-back l = partner-back l

pub same-clause : (watched : List NumberedClause) (k : ℕ) → clause_of watched (partner k) ≡ clause_of watched k
same-clause watched k = ap (λ (i : ℕ). get_or watched i no_clause) (partner-half k)

-- what is true under one entry more is its literal or was true before
push-cases : (es : List TrailEntry) (e : TrailEntry) (l : ℕ) → is_true (es ++ e ∷ []) l ≡ true → (e.lit ≡ l) ⊎ (is_true es l ≡ true)
push-cases [] e l h = by_test (nat_eq e.lit l) refl h
  where
    by_test : (b : Bool) → nat_eq e.lit l ≡ b → (b || false) ≡ true → (e.lit ≡ l) ⊎ (is_true [] l ≡ true)
    by_test true q t = inl (eq_true e.lit l q)
    by_test false q t = inr t
push-cases (d ∷ ds) e l h = by_test (nat_eq d.lit l) (push-cases ds e l) h
  where
    by_test : (b : Bool) → (is_true (ds ++ e ∷ []) l ≡ true → (e.lit ≡ l) ⊎ (is_true ds l ≡ true)) → (b || is_true (ds ++ e ∷ []) l) ≡ true → (e.lit ≡ l) ⊎ ((b || is_true ds l) ≡ true)
    by_test true rest t = inr refl
    by_test false rest t = rest t

push-here : (es : List TrailEntry) (e : TrailEntry) → is_true (es ++ e ∷ []) e.lit ≡ true
push-here [] e = by_test (nat_eq e.lit e.lit) (eq_yes e.lit)
  where
    by_test : (b : Bool) → b ≡ true → (b || false) ≡ true
    by_test true t = refl
    by_test false t = t
push-here (d ∷ ds) e = by_test (nat_eq d.lit e.lit) (push-here ds e)
  where
    by_test : (b : Bool) → is_true (ds ++ e ∷ []) e.lit ≡ true → (b || is_true (ds ++ e ∷ []) e.lit) ≡ true
    by_test true rest = refl
    by_test false rest = rest

-- one entry makes one literal false
pub only-last : (es : List TrailEntry) (q : ℕ) (e : TrailEntry) → 1 ≤ q → q ≤ length es → e ≡ get_or es (q - 1) e → (x : ℕ) → is_false (take q es) x ≡ true → x ≢ negated e.lit → is_false (take (q - 1) es) x ≡ true
only-last es q e s l is x f d =
    let one : q - 1 + 1 ≡ q = omega arith in
    let more : take q es ≡ take (q - 1) es ++ e ∷ [] = rw one at (take_more es (q - 1) e (omega arith)) ∙ ap (λ (y : TrailEntry). take (q - 1) es ++ y ∷ []) (sym is) in
    by_side (push-cases (take (q - 1) es) e (negated x) (rw more at f))
  where
    by_side : (e.lit ≡ negated x) ⊎ (is_true (take (q - 1) es) (negated x) ≡ true) → is_false (take (q - 1) es) x ≡ true
    by_side (inl s) = absurd (d (sym (negated-back x) ∙ ap negated (sym s)))
    by_side (inr t) = t

-- what is true under the first entries is true under all, and what all leave open the first do
true-all : (q : ℕ) (es : List TrailEntry) (x : ℕ) → is_true (take q es) x ≡ true → is_true es x ≡ true
true-all q es x t = rw (take_all (q + length es) es (omega arith)) at (true-more q (q + length es) es x (omega arith) t)

open-front : (q : ℕ) (es : List TrailEntry) (x : ℕ) → is_false es x ≡ false → is_false (take q es) x ≡ false
open-front q es x o = open-less q (q + length es) es x (omega arith) (rw (take_all (q + length es) es (omega arith)) o)

pub turns-is : (es : List TrailEntry) (q : ℕ) (e : TrailEntry) → 1 ≤ q → q ≤ length es → e ≡ get_or es (q - 1) e → is_false (take (q - 1) es) (negated e.lit) ≡ false → ((x : ℕ) → is_true es x ≡ true → is_false es x ≡ false) → Turns es q (negated e.lit)
turns-is es q e s l is fresh clear =
    let one : q - 1 + 1 ≡ q = omega arith in
    let more : take q es ≡ take (q - 1) es ++ e ∷ [] = rw one at (take_more es (q - 1) e (omega arith)) ∙ ap (λ (y : TrailEntry). take (q - 1) es ++ y ∷ []) (sym is) in
    record {
      some = s;
      within = l;
      now = rw (more, negated-back e.lit) (push-here (take (q - 1) es) e);
      fresh = fresh;
      others = only-last es q e s l is;
      clear = λ x t. open-front q es x (clear x (true-all q es x t));
    }

-- a test that is not passed is failed
none-of : (b : Bool) → (b ≡ true → ⊥) → b ≡ false
none-of true h = absurd (h refl)
none-of false h = refl

not-false : (b : Bool) → b ≡ false → not b ≡ true
not-false true h = absurd (false≢true (sym h))
not-false false h = refl

not-true : (b : Bool) → b ≡ true → not b ≡ false
not-true true h = refl
not-true false h = absurd (false≢true h)

-- a watch keeps what holds of it where it and its partner watch what they did
kept-same : (prefix : List TrailEntry) (watched : List NumberedClause) (keys now : List ℕ) (k : ℕ) → get_or now k 0 ≡ get_or keys k 0 → other_key now k ≡ other_key keys k → IsWatchKept prefix watched keys k → IsWatchKept prefix watched now k
kept-same prefix watched keys now k a b h = rw (a, b) h

-- a watch whose literal is not false keeps it
kept-open : (prefix : List TrailEntry) (watched : List NumberedClause) (keys : List ℕ) (k : ℕ) → is_false prefix (get_or keys k 0) ≡ false → IsWatchKept prefix watched keys k
kept-open prefix watched keys k o = λ f. absurd (false≢true (sym o ∙ f))

-- what is left of the watches once the first is done
pub record Goes-next (es : List TrailEntry) (q f lists : ℕ) (watched : List NumberedClause) (keys now rest : List ℕ) (k : ℕ) (found : Bool) : Type 0 where
  pub goes : Goes es q f lists watched now rest
  pub batch : is_in_batch (take q es) (clause_of watched k) ≡ found

other-has : (lists : ℕ) (watched : List NumberedClause) (keys : List ℕ) (k : ℕ) → IsWatching lists watched keys → k < length keys → Has (clause_of watched k).lits (other_key keys k)
other-has lists watched keys k w l = subst (λ (c : NumberedClause). Has c.lits (other_key keys k)) (same-clause watched k) (w.own (partner k) (partner-below lists watched keys k w l))

-- the partner of the first watch that is left is not left
partner-done : (es : List TrailEntry) (q f lists : ℕ) (watched : List NumberedClause) (keys rest : List ℕ) (k : ℕ) → Goes es q f lists watched keys (k ∷ rest) → Has (k ∷ rest) (partner k) → ⊥
partner-done es q f lists watched keys rest k g h =
    let here = g.left_is k (has-head k k rest refl) in
    let there = g.left_is (partner k) h in
    g.apart k here.0 (here.1 ∙ sym there.1)

-- a clause that another literal of is open
pub goes-moved : (es : List TrailEntry) (q f lists : ℕ) (watched : List NumberedClause) (keys rest : List ℕ) (k r : ℕ) → Turns es q f → Goes es q f lists watched keys (k ∷ rest) → IsOther (take q es) (other_key keys k) (clause_of watched k).lits r → Goes-next es q f lists watched keys (set keys k r) rest k false
goes-moved es q f lists watched keys rest k r t g found =
    let j = partner k in
    let lits = (clause_of watched k).lits in
    let o = other_key keys k in
    let now = set keys k r in
    let here = g.left_is k (has-head k k rest refl) in
    let below : j < length keys = partner-below lists watched keys k g.watching here.0 in
    let back : other_key keys j ≡ f = ap (λ (i : ℕ). get_or keys i 0) (partner-back k) ∙ here.1 in
    let r_other : r ≢ f = λ s. false≢true (sym found.free ∙ rw (sym s) at t.now) in
    let kept_o : IsWatchKept (take q es) watched keys j = g.done j below (partner-done es q f lists watched keys rest k g) in
    let free_o : is_false (take q es) o ≡ false = none-of (is_false (take q es) o) (λ h. elim (kept_o h) [
      | inl closed ↦ false≢true (sym found.free ∙ closed r (subst (λ (c : NumberedClause). Has c.lits r) (sym (same-clause watched k)) found.there) (λ s. r_other (s ∙ back)))
      | inr true_f ↦ false≢true (sym (t.clear f (rw back at true_f)) ∙ t.now)
    ]) in
    let long : length now ≡ length keys = length-set keys k r in
    let key_k : get_or now k 0 ≡ r = get_or-set_same keys k r 0 here.0 in
    let key_other : (m : ℕ) → m ≢ k → get_or now m 0 ≡ get_or keys m 0 = λ m d. get_or-set_other keys k m r 0 d in
    let key_j : get_or now j 0 ≡ o = key_other j (partner-other k) in
    let other_k : other_key now k ≡ o = key_j in
    let other_j : other_key now j ≡ r = ap (λ (i : ℕ). get_or now i 0) (partner-back k) ∙ key_k in
    let other_m : (m : ℕ) → m ≢ j → other_key now m ≡ other_key keys m = λ m d. key_other (partner m) (λ s. d (sym (partner-back m) ∙ ap partner s)) in
    let open_k : (n : ℕ) → n ≤ q → is_false (take n es) (get_or now k 0) ≡ false = λ n h. rw key_k (open-less n q es r h found.free) in
    let open_j : (n : ℕ) → n ≤ q → is_false (take n es) (get_or now j 0) ≡ false = λ n h. rw key_j (open-less n q es o h free_o) in
    record {
      goes = record {
        watching = watching-set lists watched keys k r g.watching here.0 found.there;
        apart = λ m l. elim (cases_eq m k) [
          | inl s ↦ rw (s, key_k, other_k) found.apart
          | inr d ↦ elim (cases_eq m j) [
            | inl s ↦ rw (s, key_j, other_j) (λ x. found.apart (sym x))
            | inr n ↦ rw (key_other m d, other_m m n) (g.apart m (omega (arith, l, long)))
          ]
        ];
        form = g.form;
        left_is = λ m h.
            let d : m ≢ k = λ s. g.once.0 (rw s at h) in
            let was = g.left_is m (has-tail m k rest h) in
            (omega (arith, was.0, long), key_other m d ∙ was.1);
        once = g.once.1;
        kept = λ n m h l. elim (cases_eq m k) [
          | inl s ↦ rw s (kept-open (take n es) watched now k (open_k n (omega (arith, h))))
          | inr d ↦ elim (cases_eq m j) [
            | inl s ↦ rw s (kept-open (take n es) watched now j (open_j n (omega (arith, h))))
            | inr u ↦ kept-same (take n es) watched keys now m (key_other m d) (other_m m u) (g.kept n m h (omega (arith, l, long)))
          ]
        ];
        done = λ m l h. elim (cases_eq m k) [
          | inl s ↦ rw s (kept-open (take q es) watched now k (open_k q (omega arith)))
          | inr d ↦ elim (cases_eq m j) [
            | inl s ↦ rw s (kept-open (take q es) watched now j (open_j q (omega arith)))
            | inr u ↦ kept-same (take q es) watched keys now m (key_other m d) (other_m m u) (g.done m (omega (arith, l, long)) (λ i. elim (has-cases m k rest i) [ inl s ↦ d s | inr x ↦ h x ]))
          ]
        ];
      };
      batch =
          let two : 2 ≤ open_count (take q es) lits = count-two (λ l. not (is_false (take q es) l)) lits r o found.there (other-has lists watched keys k g.watching here.0) found.apart (not-false (is_false (take q es) r) found.free) (not-false (is_false (take q es) o) free_o) in
          batch-no es q (clause_of watched k) t.some t.within (λ s. omega (arith, two, s));
    }

-- the first watch that is left is done where it watches as it may
goes-done : (es : List TrailEntry) (q f lists : ℕ) (watched : List NumberedClause) (keys rest : List ℕ) (k : ℕ) → Goes es q f lists watched keys (k ∷ rest) → IsWatchKept (take q es) watched keys k → Goes es q f lists watched keys rest
goes-done es q f lists watched keys rest k g w =
    record {
      watching = g.watching;
      apart = g.apart;
      form = g.form;
      left_is = λ m h. g.left_is m (has-tail m k rest h);
      once = g.once.1;
      kept = g.kept;
      done = λ m l h. elim (cases_eq m k) [
        | inl s ↦ rw s w
        | inr d ↦ g.done m l (λ i. elim (has-cases m k rest i) [ inl s ↦ d s | inr x ↦ h x ])
      ];
    }

-- a clause whose other literals are false but for the other watched one
pub goes-stays : (es : List TrailEntry) (q f lists : ℕ) (watched : List NumberedClause) (keys rest : List ℕ) (k : ℕ) → Turns es q f → Goes es q f lists watched keys (k ∷ rest) → AreOthersFalse (take q es) (other_key keys k) (clause_of watched k).lits → Goes-next es q f lists watched keys keys rest k (not (is_false (take q es) (other_key keys k)))
goes-stays es q f lists watched keys rest k t g others =
    let lits = (clause_of watched k).lits in
    let o = other_key keys k in
    let here = g.left_is k (has-head k k rest refl) in
    let has_o : Has lits o = other-has lists watched keys k g.watching here.0 in
    let has_f : Has lits f = rw here.1 at (g.watching.own k here.0) in
    let f_other : f ≢ o = rw here.1 at (g.apart k here.0) in
    record {
      goes = goes-done es q f lists watched keys rest k g (λ z. inl others);
      batch = by_value others has_o has_f f_other (g.form k) (is_false (take q es) o) refl;
    }
  where
    by_value : ((x : ℕ) → Has (clause_of watched k).lits x → x ≢ other_key keys k → is_false (take q es) x ≡ true) → Has (clause_of watched k).lits (other_key keys k) → Has (clause_of watched k).lits f → f ≢ other_key keys k → AreOnce (clause_of watched k).lits → (b : Bool) → is_false (take q es) (other_key keys k) ≡ b → is_in_batch (take q es) (clause_of watched k) ≡ not b
    by_value others has_o has_f f_other once true u =
        let none : open_count (take q es) (clause_of watched k).lits ≡ 0 = count-none (λ l. not (is_false (take q es) l)) (clause_of watched k).lits (λ x m. elim (cases_eq x (other_key keys k)) [ inl s ↦ not-true (is_false (take q es) x) (rw s u) | inr d ↦ not-true (is_false (take q es) x) (others x m d) ]) in
        batch-no es q (clause_of watched k) t.some t.within (λ s. omega (arith, none, s))
    by_value others has_o has_f f_other once false u =
        let most : open_count (take q es) (clause_of watched k).lits ≤ 1 = count-most (λ l. not (is_false (take q es) l)) (clause_of watched k).lits (other_key keys k) once (λ x m d. not-true (is_false (take q es) x) (others x m d)) in
        let least : 1 ≤ open_count (take q es) (clause_of watched k).lits = count-one (λ l. not (is_false (take q es) l)) (clause_of watched k).lits (other_key keys k) has_o (not-false (is_false (take q es) (other_key keys k)) u) in
        let before : is_false (take (q - 1) es) (other_key keys k) ≡ false = open-less (q - 1) q es (other_key keys k) (omega arith) u in
        let two : 2 ≤ open_count (take (q - 1) es) (clause_of watched k).lits = count-two (λ l. not (is_false (take (q - 1) es) l)) (clause_of watched k).lits f (other_key keys k) has_f has_o f_other (not-false (is_false (take (q - 1) es) f) t.fresh) (not-false (is_false (take (q - 1) es) (other_key keys k)) before) in
        batch-yes es q (clause_of watched k) t.some t.within (omega arith) two

-- where all literals of a clause are false but one, that one is left
pub left-only : (prefix : List TrailEntry) (o : ℕ) (lits : List ℕ) → AreOthersFalse prefix o lits → Has lits o → is_false prefix o ≡ false → left_literal prefix lits ≡ Some o
left-only prefix o [] others h e = absurd (has-none o h)
left-only prefix o (l ∷ ls) others h e = elim (cases_eq l o) [
  | inl s ↦ let free : is_false prefix l ≡ false = rw s e in rw free (ap (λ (x : ℕ). Some x) s)
  | inr d ↦
      let closed : is_false prefix l ≡ true = others l (has-head l l ls refl) d in
      rw closed (left-only prefix o ls (λ x m. others x (has-tail x l ls m)) (has-other o l ls (λ s. d (sym s)) h) e)
]

-- a clause with a literal that is true under the first entries is not pending
pub true-not-pending : (es : List TrailEntry) (q : ℕ) (c : NumberedClause) (o : ℕ) → 1 ≤ q → q ≤ length es → Has c.lits o → is_true (take q es) o ≡ true → is_false (take q es) o ≡ false → is_pending (take q es) es c ≡ false
true-not-pending es q c o s l h u e = by_batch (is_in_batch (take q es) c) refl
  where
    closed : is_in_batch (take q es) c ≡ true → AreOthersFalse (take q es) o c.lits
    closed b x m d = by_value (is_false (take q es) x) refl
      where
        by_value : (v : Bool) → is_false (take q es) x ≡ v → is_false (take q es) x ≡ true
        by_value true z = z
        by_value false z =
            let two : 2 ≤ open_count (take q es) c.lits = count-two (λ y. not (is_false (take q es) y)) c.lits x o m h d (not-false (is_false (take q es) x) z) (not-false (is_false (take q es) o) e) in
            absurd (false≢true (sym (batch-no es q c s l (λ n. omega (arith, two, n))) ∙ b))

    by_batch : (b : Bool) → is_in_batch (take q es) c ≡ b → is_pending (take q es) es c ≡ false
    by_batch true b =
        let left = left-only (take q es) o c.lits (closed b) h e in
        let now : is_true es o ≡ true = true-all q es o u in
        rw (b, left, now) refl
    by_batch false b = rw b refl

-- a visit to the first watch that is left: what is left then, and what is found
pub record Visited (es : List TrailEntry) (q f lists : ℕ) (watched : List NumberedClause) (now rest : List ℕ) (k : ℕ) (found : List Found) : Type 0 where
  pub goes : Goes es q f lists watched now rest
  pub finds : found_at (take q es) es watched k ≡ found

pub visit-moved : (es : List TrailEntry) (q f lists : ℕ) (watched : List NumberedClause) (keys rest : List ℕ) (k r : ℕ) → Turns es q f → Goes es q f lists watched keys (k ∷ rest) → IsOther (take q es) (other_key keys k) (clause_of watched k).lits r → Visited es q f lists watched (set keys k r) rest k []
visit-moved es q f lists watched keys rest k r t g o =
    let next = goes-moved es q f lists watched keys rest k r t g o in
    record { goes = next.goes; finds = rw next.batch refl }

stays : (es : List TrailEntry) (q f lists : ℕ) (watched : List NumberedClause) (keys rest : List ℕ) (k : ℕ) → Goes es q f lists watched keys (k ∷ rest) → set keys k f ≡ keys
stays es q f lists watched keys rest k g = let here = g.left_is k (has-head k k rest refl) in ap (λ (x : ℕ). set keys k x) (sym here.1) ∙ set-get_or keys k 0

-- the other watched literal is true
visit-spared : (es : List TrailEntry) (q f lists : ℕ) (watched : List NumberedClause) (keys rest : List ℕ) (k : ℕ) → Turns es q f → Goes es q f lists watched keys (k ∷ rest) → is_true (take q es) (other_key keys k) ≡ true → Visited es q f lists watched (set keys k f) rest k []
visit-spared es q f lists watched keys rest k t g u =
    let here = g.left_is k (has-head k k rest refl) in
    let has_o : Has (clause_of watched k).lits (other_key keys k) = other-has lists watched keys k g.watching here.0 in
    let no = true-not-pending es q (clause_of watched k) (other_key keys k) t.some t.within has_o u (t.clear (other_key keys k) u) in
    record { goes = rw (stays es q f lists watched keys rest k g) (goes-done es q f lists watched keys rest k g (λ z. inr u)); finds = rw no refl }

-- and of the first that are left, one after another
pub record AreSpared (es : List TrailEntry) (q f lists : ℕ) (watched : List NumberedClause) (keys left rest : List ℕ) : Type 0 where
  pub goes : Goes es q f lists watched keys rest
  pub finds : found_in (take q es) es watched rest ≡ found_in (take q es) es watched left
  pub fewer : length rest ≤ length left

pub spared : (es : List TrailEntry) (q f lists : ℕ) (watched : List NumberedClause) (keys left : List ℕ) → Turns es q f → Goes es q f lists watched keys left → AreSpared es q f lists watched keys left (from_open (take q es) keys left)
spared es q f lists watched keys [] t g = record { goes = g; finds = refl; fewer = omega arith }
spared es q f lists watched keys (k ∷ ks) t g = by_test (is_true (take q es) (other_key keys k)) refl (λ h. spared es q f lists watched keys ks t h)
  where
    by_test : (b : Bool) → is_true (take q es) (other_key keys k) ≡ b → (Goes es q f lists watched keys ks → AreSpared es q f lists watched keys ks (from_open (take q es) keys ks)) → AreSpared es q f lists watched keys (k ∷ ks) (cond b (from_open (take q es) keys ks) (k ∷ ks))
    by_test true e rest =
        let v = visit-spared es q f lists watched keys ks k t g e in
        let r = rest (rw (stays es q f lists watched keys ks k g) at v.goes) in
        record {
          goes = r.goes;
          finds = r.finds ∙ ap (λ (fs : List Found). fs ++ found_in (take q es) es watched ks) (sym v.finds);
          fewer = omega (arith, r.fewer);
        }
    by_test false e rest = record { goes = g; finds = refl; fewer = omega arith }

visit-false : (es : List TrailEntry) (q f lists : ℕ) (watched : List NumberedClause) (keys rest : List ℕ) (k : ℕ) → Turns es q f → Goes es q f lists watched keys (k ∷ rest) → AreOthersFalse (take q es) (other_key keys k) (clause_of watched k).lits → is_false (take q es) (other_key keys k) ≡ true → Visited es q f lists watched (set keys k f) rest k []
visit-false es q f lists watched keys rest k t g o e =
    let next = goes-stays es q f lists watched keys rest k t g o in
    let no : is_in_batch (take q es) (clause_of watched k) ≡ false = next.batch ∙ ap not e in
    record { goes = rw (stays es q f lists watched keys rest k g) next.goes; finds = rw no refl }

-- the other watched literal alone is left
record IsOnly (es : List TrailEntry) (q f lists : ℕ) (watched : List NumberedClause) (keys rest : List ℕ) (k : ℕ) : Type 0 where
  pub goes : Goes es q f lists watched (set keys k f) rest
  pub batch : is_in_batch (take q es) (clause_of watched k) ≡ true
  pub left : left_literal (take q es) (clause_of watched k).lits ≡ Some (other_key keys k)

only-left : (es : List TrailEntry) (q f lists : ℕ) (watched : List NumberedClause) (keys rest : List ℕ) (k : ℕ) → Goes es q f lists watched keys (k ∷ rest) → AreOthersFalse (take q es) (other_key keys k) (clause_of watched k).lits → Turns es q f → is_false (take q es) (other_key keys k) ≡ false → IsOnly es q f lists watched keys rest k
only-left es q f lists watched keys rest k g o t e =
    let next = goes-stays es q f lists watched keys rest k t g o in
    let here = g.left_is k (has-head k k rest refl) in
    record {
      goes = rw (stays es q f lists watched keys rest k g) next.goes;
      batch = next.batch ∙ ap not e;
      left = left-only (take q es) (other_key keys k) (clause_of watched k).lits o (other-has lists watched keys k g.watching here.0) e;
    }

visit-true : (es : List TrailEntry) (q f lists : ℕ) (watched : List NumberedClause) (keys rest : List ℕ) (k : ℕ) → IsOnly es q f lists watched keys rest k → is_true es (other_key keys k) ≡ true → Visited es q f lists watched (set keys k f) rest k []
visit-true es q f lists watched keys rest k only u = record { goes = only.goes; finds = rw (only.batch, only.left, u) refl }

visit-found : (es : List TrailEntry) (q f lists : ℕ) (watched : List NumberedClause) (keys rest : List ℕ) (k : ℕ) → IsOnly es q f lists watched keys rest k → is_true es (other_key keys k) ≡ false → Visited es q f lists watched (set keys k f) rest k (record { id = (clause_of watched k).id; lit = other_key keys k } ∷ [])
visit-found es q f lists watched keys rest k only u = record { goes = only.goes; finds = rw (only.batch, only.left, u) refl }

-- nothing else is to be watched: the clause is found where the other literal alone is left, and not true on the trail
pub visit-settled : (es : List TrailEntry) (q f lists : ℕ) (watched : List NumberedClause) (keys rest : List ℕ) (k : ℕ) → Turns es q f → Goes es q f lists watched keys (k ∷ rest) → IsSettled (take q es) (other_key keys k) (clause_of watched k).lits → (is_false (take q es) (other_key keys k) ≡ true) ⊎ ((is_false (take q es) (other_key keys k) ≡ false) × (is_true es (other_key keys k) ≡ true)) → Visited es q f lists watched (set keys k f) rest k []
visit-settled es q f lists watched keys rest k t g (inr u) v = visit-spared es q f lists watched keys rest k t g u
visit-settled es q f lists watched keys rest k t g (inl o) (inl e) = visit-false es q f lists watched keys rest k t g o e
visit-settled es q f lists watched keys rest k t g (inl o) (inr v) = visit-true es q f lists watched keys rest k (only-left es q f lists watched keys rest k g o t v.0) v.1

pub visit-left : (es : List TrailEntry) (q f lists : ℕ) (watched : List NumberedClause) (keys rest : List ℕ) (k : ℕ) → Turns es q f → Goes es q f lists watched keys (k ∷ rest) → IsSettled (take q es) (other_key keys k) (clause_of watched k).lits → is_false (take q es) (other_key keys k) ≡ false → is_true es (other_key keys k) ≡ false → Visited es q f lists watched (set keys k f) rest k (record { id = (clause_of watched k).id; lit = other_key keys k } ∷ [])
visit-left es q f lists watched keys rest k t g (inl o) e u = visit-found es q f lists watched keys rest k (only-left es q f lists watched keys rest k g o t e) u
visit-left es q f lists watched keys rest k t g (inr v) e u = absurd (false≢true (sym u ∙ true-all q es (other_key keys k) v))

-- the watches of the literal are left at the start
pub goes-start : (es : List TrailEntry) (q f lists : ℕ) (watched : List NumberedClause) (keys out : List ℕ) → Turns es q f → IsWatching lists watched keys → ((k : ℕ) → k < length keys → get_or keys k 0 ≢ other_key keys k) → ((k : ℕ) → AreOnce (clause_of watched k).lits) → ((n k : ℕ) → n ≤ q - 1 → k < length keys → IsWatchKept (take n es) watched keys k) → ((k : ℕ) → Has out k ↔ IsAt keys k f) → AreOnce out → Goes es q f lists watched keys out
goes-start es q f lists watched keys out t w a form kept watches once =
    record {
      watching = w;
      apart = a;
      form = form;
      left_is = λ k h. (watches k).0 h;
      once = once;
      kept = kept;
      done = λ k l h z.
          let other : get_or keys k 0 ≢ f = λ s. h ((watches k).1 (l, s)) in
          elim (kept (q - 1) k (omega arith) l (t.others (get_or keys k 0) z other)) [
            | inl closed ↦ inl (λ x m d. false-more (q - 1) q es x (omega arith) (closed x m d))
            | inr holds ↦ inr (true-more (q - 1) q es (other_key keys k) (omega arith) holds)
          ];
    }

-- at the end each watch keeps under one entry more
pub goes-end : (es : List TrailEntry) (q f lists : ℕ) (watched : List NumberedClause) (keys : List ℕ) → Goes es q f lists watched keys [] → (n k : ℕ) → n ≤ q + 1 - 1 → k < length keys → IsWatchKept (take n es) watched keys k
goes-end es q f lists watched keys g n k h l = by_place (cases_eq n q)
  where
    by_place : (n ≡ q) ⊎ (n ≡ q → ⊥) → IsWatchKept (take n es) watched keys k
    by_place (inl e) = rw e (g.done k l (has-none k))
    by_place (inr d) = g.kept n k (omega arith) l

not-pending : (prefix trail : List TrailEntry) (c : NumberedClause) → is_in_batch prefix c ≡ false → is_pending prefix trail c ≡ false
not-pending prefix trail c h = rw h refl

-- a clause that does not watch the literal is not pending
pub goes-apart : (es : List TrailEntry) (q f lists : ℕ) (watched : List NumberedClause) (keys : List ℕ) (k : ℕ) → Turns es q f → IsWatching lists watched keys → ((k : ℕ) → k < length keys → get_or keys k 0 ≢ other_key keys k) → ((k : ℕ) → AreOnce (clause_of watched k).lits) → ((n k : ℕ) → n ≤ q - 1 → k < length keys → IsWatchKept (take n es) watched keys k) → k < length keys → get_or keys k 0 ≢ f → other_key keys k ≢ f → is_pending (take q es) es (clause_of watched k) ≡ false
goes-apart es q f lists watched keys k t w a form kept l d e =
    let j = partner k in
    let below : j < length keys = partner-below lists watched keys k w l in
    let own : Has (clause_of watched k).lits (get_or keys k 0) = w.own k l in
    let other : Has (clause_of watched k).lits (other_key keys k) = other-has lists watched keys k w l in
    let back : other_key keys j ≡ get_or keys k 0 = ap (λ (i : ℕ). get_or keys i 0) (partner-back k) in
    let by_own : is_false (take (q - 1) es) (get_or keys k 0) ≡ true → IsSettled (take (q - 1) es) (other_key keys k) (clause_of watched k).lits = kept (q - 1) k (omega arith) l in
    let by_other : is_false (take (q - 1) es) (other_key keys k) ≡ true → IsSettled (take (q - 1) es) (get_or keys k 0) (clause_of watched k).lits = λ z. elim (kept (q - 1) j (omega arith) below z) [
      | inl closed ↦ inl (λ x m n. closed x (subst (λ (c : NumberedClause). Has c.lits x) (sym (same-clause watched k)) m) (λ s. n (s ∙ back)))
      | inr holds ↦ inr (rw back at holds)
    ] in
    by_values own other by_own by_other (is_false (take q es) (get_or keys k 0)) refl (is_false (take q es) (other_key keys k)) refl
  where
    by_side : (o : ℕ) → Has (clause_of watched k).lits o → IsSettled (take (q - 1) es) o (clause_of watched k).lits → is_pending (take q es) es (clause_of watched k) ≡ false
    by_side o h (inl closed) =
        not-pending (take q es) es (clause_of watched k) (batch-before es q (clause_of watched k) t.some t.within (count-most (λ l. not (is_false (take (q - 1) es) l)) (clause_of watched k).lits o (form k) (λ x m n. not-true (is_false (take (q - 1) es) x) (closed x m n))))
    by_side o h (inr holds) =
        let now : is_true (take q es) o ≡ true = true-more (q - 1) q es o (omega arith) holds in
        true-not-pending es q (clause_of watched k) o t.some t.within h now (t.clear o now)

    by_values : Has (clause_of watched k).lits (get_or keys k 0) → Has (clause_of watched k).lits (other_key keys k) → (is_false (take (q - 1) es) (get_or keys k 0) ≡ true → IsSettled (take (q - 1) es) (other_key keys k) (clause_of watched k).lits) → (is_false (take (q - 1) es) (other_key keys k) ≡ true → IsSettled (take (q - 1) es) (get_or keys k 0) (clause_of watched k).lits) → (b : Bool) → is_false (take q es) (get_or keys k 0) ≡ b → (c : Bool) → is_false (take q es) (other_key keys k) ≡ c → is_pending (take q es) es (clause_of watched k) ≡ false
    by_values own other by_own by_other true u c v = by_side (other_key keys k) other (by_own (t.others (get_or keys k 0) u d))
    by_values own other by_own by_other false u true v = by_side (get_or keys k 0) own (by_other (t.others (other_key keys k) v e))
    by_values own other by_own by_other false u false v =
        let two : 2 ≤ open_count (take q es) (clause_of watched k).lits = count-two (λ l. not (is_false (take q es) l)) (clause_of watched k).lits (get_or keys k 0) (other_key keys k) own other (a k l) (not-false (is_false (take q es) (get_or keys k 0)) u) (not-false (is_false (take q es) (other_key keys k)) v) in
        not-pending (take q es) es (clause_of watched k) (batch-no es q (clause_of watched k) t.some t.within (λ s. omega (arith, two, s)))

-- of two places two different numbers take both
both-places : (p q a b x : ℕ) → (a ≡ p) ⊎ (a ≡ q) → (b ≡ p) ⊎ (b ≡ q) → a ≢ b → (x ≡ p) ⊎ (x ≡ q) → (x ≡ a) ⊎ (x ≡ b)
both-places p q a b x (inl e) g d (inl h) = inl (h ∙ sym e)
both-places p q a b x (inl e) (inl g) d (inr h) = absurd (d (e ∙ sym g))
both-places p q a b x (inl e) (inr g) d (inr h) = inr (h ∙ sym g)
both-places p q a b x (inr e) (inl g) d (inl h) = inr (h ∙ sym g)
both-places p q a b x (inr e) (inr g) d (inl h) = absurd (d (e ∙ sym g))
both-places p q a b x (inr e) g d (inr h) = inl (h ∙ sym e)

has-two : (p q x : ℕ) → Has (p ∷ (q ∷ [])) x → (x ≡ p) ⊎ (x ≡ q)
has-two p q x h = elim (has-cases x p (q ∷ []) h) [
  | inl e ↦ inl e
  | inr m ↦ elim (has-cases x q [] m) [
    | inl e ↦ inr e
    | inr n ↦ absurd (has-none x n)
  ]
]

-- a clause of two literals has those alone that it watches
two-only : (lits : List ℕ) (a b x : ℕ) → length lits ≡ 2 → Has lits a → Has lits b → a ≢ b → Has lits x → (x ≡ a) ⊎ (x ≡ b)
two-only [] a b x l h g d m = absurd (has-none x m)
two-only (p ∷ []) a b x l h g d m = absurd (omega arith)
two-only (p ∷ (q ∷ [])) a b x l h g d m = both-places p q a b x (has-two p q a h) (has-two p q b g) d (has-two p q x m)
two-only (p ∷ (q ∷ (r ∷ rs))) a b x l h g d m = absurd (omega arith)

-- so where a watched one has become false, each is but the other
pub two-watched : (es : List TrailEntry) (q f lists : ℕ) (watched : List NumberedClause) (keys rest : List ℕ) (k : ℕ) → Turns es q f → Goes es q f lists watched keys (k ∷ rest) → length (clause_of watched k).lits ≡ 2 → AreOthersFalse (take q es) (other_key keys k) (clause_of watched k).lits
two-watched es q f lists watched keys rest k t g l =
    let here = g.left_is k (has-head k k rest refl) in
    let has_f : Has (clause_of watched k).lits f = rw here.1 at (g.watching.own k here.0) in
    let has_o = other-has lists watched keys k g.watching here.0 in
    let apart : f ≢ other_key keys k = rw here.1 at (g.apart k here.0) in
    λ x m d. elim (two-only (clause_of watched k).lits f (other_key keys k) x l has_f has_o apart m) [
      | inl e ↦ rw e t.now
      | inr e ↦ absurd (d e)
    ]
