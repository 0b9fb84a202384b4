use Rattle.std.proofs.Common.{◌≡◌, ◌≢◌, ℕ, zero, suc, ◌+◌, ◌*◌, ◌/◌, ◌<◌, ◌≤◌, ◌↔◌, ◌⊎◌, inl, inr, Bool, true, false, not, ◌&&◌, cond, eqb, List, [], ◌∷◌, ◌++◌, length, map, get_or, Some, refl, sym, ap, subst, ◌∙◌, arith}
use Rattle.std.specs.Prelude.{filter}
use Rattle.std.specs.List.{AllByRecursion}
use Rattle.std.specs.List.Sorted.{IsPermutation, IsNonDecreasing, IsNonDecreasingBy, IsStrictlyIncreasing}
use Rattle.std.proofs.lemmas.Bool.{false≢true, cases_eq, eq-eqb, ne_eqb}
use Rattle.std.proofs.lemmas.List.Sorted.{All-permutation, Contains-permutation, IsPermutation-sym, IsPermutation-map}
use Rattle.std.proofs.lemmas.List.Elements.{All-from_recursion, recursion_from_All}
use Rattle.std.proofs.lemmas.List.{length-map}
use Rattle.std.proofs.lemmas.Map.Keys.{IsStrictlyIncreasing-from_distinct, IsDistinct-IsPermutation}
use Rattle.mal_base.specs.NumberedClause.{NumberedClause, lits_under}
use Rattle.mal_base.specs.declared.trail_entry.TrailEntry.{TrailEntry}
use Rattle.spec_node.specs.Batch.{is_in_batch}
use Rattle.spec_node.specs.Sound.{NumbersRise, left_is_true}
use Rattle.mal_watch.specs.WatchLists.{Has, AreOnce, IsAt}
use Rattle.mal_store.specs.Stored.{Among}
use Rattle.mal_watch.specs.Following.{AreSingle}
use Rattle.mal_store.specs.Arena.{no_clause}
use Rattle.mal_watch.specs.Watching.{clause_of, partner, other_key, IsWatching}
use Rattle.mal_watch.specs.declared.found.Found.{Found}
use Rattle.mal_watch.specs.Finding.{is_pending, found_of, pending, found_in}
use Rattle.mal_watch.proofs.HasLemmas.{has-none, has-head, has-tail, has-cases, has-contains, contains-has, distinct-from, long-below}
use Rattle.mal_store.proofs.AmongLemmas.{among-passed, among-passes, among-place, among-at, rise-passed, rise-under}
use Rattle.mal_watch.proofs.WalkLemmas.{partner-below, clause-below}
use Rattle.mal_watch.proofs.TurnLemmas.{same-clause, partner-other, partner-half}

eqb_flips : (a b : ℕ) → eqb a b ≡ eqb b a
eqb_flips a b = by_case (cases_eq a b)
  where
    by_case : (a ≡ b) ⊎ (a ≡ b → ⊥) → eqb a b ≡ eqb b a
    by_case (inl e) = eq-eqb a b e ∙ sym (eq-eqb b a (sym e))
    by_case (inr d) = ne_eqb a b d ∙ sym (ne_eqb b a (λ e. d (sym e)))

-- numbers rise strictly, from this one on
abbrev RisesFrom : ℕ → List ℕ → Type 0
RisesFrom low [] = Unit {0}
RisesFrom low (x ∷ xs) = (low ≤ x) × RisesFrom (x + 1) xs

rises-least : (low x : ℕ) (xs : List ℕ) → RisesFrom low xs → Has xs x → low ≤ x
rises-least low x [] r h = absurd (has-none x h)
rises-least low x (y ∷ ys) r h = by_side (rises-least (y + 1) x ys r.1) (has-cases x y ys h)
  where
    by_side : (Has ys x → y + 1 ≤ x) → (x ≡ y) ⊎ Has ys x → low ≤ x
    by_side rest (inl e) = omega (arith, r.0)
    by_side rest (inr m) = omega (arith, r.0, rest m)

cons-same : (x y : ℕ) (xs ys : List ℕ) → x ≡ y → xs ≡ ys → x ∷ xs ≡ y ∷ ys
cons-same x y xs ys e f = rw (e, f) refl

-- rising lists of the same numbers are equal
rises-same : (a b : ℕ) (xs ys : List ℕ) → RisesFrom a xs → RisesFrom b ys → ((x : ℕ) → Has xs x → Has ys x) → ((x : ℕ) → Has ys x → Has xs x) → xs ≡ ys
rises-same a b [] [] r s h k = refl
rises-same a b [] (y ∷ ys) r s h k = absurd (has-none y (k y (has-head y y ys refl)))
rises-same a b (x ∷ xs) [] r s h k = absurd (has-none x (h x (has-head x x xs refl)))
rises-same a b (x ∷ xs) (y ∷ ys) r s h k =
    let low : y ≤ x = rises-least y x (y ∷ ys) (omega arith, s.1) (h x (has-head x x xs refl)) in
    let back : x ≤ y = rises-least x y (x ∷ xs) (omega arith, r.1) (k y (has-head y y ys refl)) in
    let same : x ≡ y = omega arith in
    cons-same x y xs ys same (rises-same (x + 1) (y + 1) xs ys r.1 s.1 (λ z m. elim (has-cases z y ys (h z (has-tail z x xs m))) [
      | inl e ↦ let over : x + 1 ≤ z = rises-least (x + 1) z xs r.1 m in let f : z ≡ y = e in absurd (omega arith)
      | inr n ↦ n
    ]) (λ z m. elim (has-cases z x xs (k z (has-tail z y ys m))) [
      | inl e ↦ let over : y + 1 ≤ z = rises-least (y + 1) z ys s.1 m in let f : z ≡ x = e in absurd (omega arith)
      | inr n ↦ n
    ]))

rises-from : (low : ℕ) (xs : List ℕ) → (0 < length xs → low ≤ get_or xs 0 0) → IsStrictlyIncreasing xs → RisesFrom low xs
rises-from low [] h s = tt
rises-from low (x ∷ xs) h s = (h (omega arith), rises-from (x + 1) xs (λ l. let f : x < get_or xs 0 0 = s 0 (omega arith) in omega arith) (λ k l. next k l))
  where
    next : (k : ℕ) → k + 1 < length xs → get_or xs k 0 < get_or xs (k + 1) 0
    next k l =
        let e : suc k + 1 ≡ suc (k + 1) = omega arith in
        let f = s (suc k) (omega arith) in
        rw e at f

rises-ids : (low : ℕ) (cs : List NumberedClause) → NumbersRise low cs → RisesFrom low (map (λ (c : NumberedClause). c.id) cs)
rises-ids low [] r = tt
rises-ids low (c ∷ cs) r = (r.0, rises-ids (c.id + 1) cs r.1)

-- a clause of a number
pub record IsNumbered (x : ℕ) (cs : List NumberedClause) : Type 0 where
  pub clause : NumberedClause
  pub among : Among clause cs
  pub is : clause.id ≡ x

has-numbered : (x : ℕ) (cs : List NumberedClause) → Has (map (λ (c : NumberedClause). c.id) cs) x → IsNumbered x cs
has-numbered x [] h = absurd (has-none x h)
has-numbered x (c ∷ cs) h = by_side (has-numbered x cs) (has-cases x c.id (map (λ (d : NumberedClause). d.id) cs) h)
  where
    by_side : (Has (map (λ (d : NumberedClause). d.id) cs) x → IsNumbered x cs) → (x ≡ c.id) ⊎ Has (map (λ (d : NumberedClause). d.id) cs) x → IsNumbered x (c ∷ cs)
    by_side rest (inl e) = record { clause = c; among = inl refl; is = sym e }
    by_side rest (inr m) = let n = rest m in record { clause = n.clause; among = inr n.among; is = n.is }

numbered-has : (c : NumberedClause) (cs : List NumberedClause) → Among c cs → Has (map (λ (d : NumberedClause). d.id) cs) c.id
numbered-has c [] h = absurd h
numbered-has c (d ∷ ds) (inl e) = has-head c.id d.id (map (λ (x : NumberedClause). x.id) ds) (ap (λ (x : NumberedClause). x.id) e)
numbered-has c (d ∷ ds) (inr h) = has-tail c.id d.id (map (λ (x : NumberedClause). x.id) ds) (numbered-has c ds h)

-- the number of a watch's clause, where it passes a test
abbrev pub id_at : (NumberedClause → Bool) → List NumberedClause → ℕ → List ℕ
id_at p watched k = cond (p (clause_of watched k)) ((clause_of watched k).id ∷ []) []

-- the numbers of the clauses of watches that pass a test
abbrev pub ids_in : (NumberedClause → Bool) → List NumberedClause → List ℕ → List ℕ
ids_in p watched [] = []
ids_in p watched (k ∷ ks) = id_at p watched k ++ ids_in p watched ks

-- a watch whose clause passes a test
pub record IsFrom (p : NumberedClause → Bool) (watched : List NumberedClause) (ks : List ℕ) (x : ℕ) : Type 0 where
  pub watch : ℕ
  pub there : Has ks watch
  pub inside : p (clause_of watched watch) ≡ true
  pub is : (clause_of watched watch).id ≡ x

ids-from : (p : NumberedClause → Bool) (watched : List NumberedClause) (ks : List ℕ) (x : ℕ) → Has (ids_in p watched ks) x → IsFrom p watched ks x
ids-from p watched [] x h = absurd (has-none x h)
ids-from p watched (k ∷ ks) x h = by_test (p (clause_of watched k)) refl (λ m. let f = ids-from p watched ks x m in record { watch = f.watch; there = has-tail f.watch k ks f.there; inside = f.inside; is = f.is }) h
  where
    by_side : p (clause_of watched k) ≡ true → (Has (ids_in p watched ks) x → IsFrom p watched (k ∷ ks) x) → (x ≡ (clause_of watched k).id) ⊎ Has (ids_in p watched ks) x → IsFrom p watched (k ∷ ks) x
    by_side e rest (inl s) = record { watch = k; there = has-head k k ks refl; inside = e; is = sym s }
    by_side e rest (inr m) = rest m

    by_test : (b : Bool) → p (clause_of watched k) ≡ b → (Has (ids_in p watched ks) x → IsFrom p watched (k ∷ ks) x) → Has (cond b ((clause_of watched k).id ∷ []) [] ++ ids_in p watched ks) x → IsFrom p watched (k ∷ ks) x
    by_test true e rest m = by_side e rest (has-cases x (clause_of watched k).id (ids_in p watched ks) m)
    by_test false e rest m = rest m

has-ids : (p : NumberedClause → Bool) (watched : List NumberedClause) (ks : List ℕ) (k : ℕ) → Has ks k → p (clause_of watched k) ≡ true → Has (ids_in p watched ks) (clause_of watched k).id
has-ids p watched [] k h t = absurd (has-none k h)
has-ids p watched (j ∷ ks) k h t = by_test (p (clause_of watched j)) refl (λ m. has-ids p watched ks k m t) (has-cases k j ks h)
  where
    by_test : (b : Bool) → p (clause_of watched j) ≡ b → (Has ks k → Has (ids_in p watched ks) (clause_of watched k).id) → (k ≡ j) ⊎ Has ks k → Has (cond b ((clause_of watched j).id ∷ []) [] ++ ids_in p watched ks) (clause_of watched k).id
    by_test true e rest (inl s) = has-head (clause_of watched k).id (clause_of watched j).id (ids_in p watched ks) (ap (λ (i : ℕ). (clause_of watched i).id) s)
    by_test true e rest (inr m) = has-tail (clause_of watched k).id (clause_of watched j).id (ids_in p watched ks) (rest m)
    by_test false e rest (inl s) = absurd (false≢true (sym e ∙ rw s at t))
    by_test false e rest (inr m) = rest m

-- numbers of clauses of different watches stand once, where watches of the same number are the same
ids-once : (p : NumberedClause → Bool) (watched : List NumberedClause) (ks : List ℕ) → AreOnce ks → ((i j : ℕ) → Has ks i → Has ks j → (clause_of watched i).id ≡ (clause_of watched j).id → i ≡ j) → AreOnce (ids_in p watched ks)
ids-once p watched [] o h = tt
ids-once p watched (k ∷ ks) o h = by_test (p (clause_of watched k)) (ids-once p watched ks o.1 (λ i j m n. h i j (has-tail i k ks m) (has-tail j k ks n)))
  where
    apart : Has (ids_in p watched ks) (clause_of watched k).id → ⊥
    apart m =
        let f = ids-from p watched ks (clause_of watched k).id m in
        let same : f.watch ≡ k = h f.watch k (has-tail f.watch k ks f.there) (has-head k k ks refl) f.is in
        o.0 (rw same at f.there)

    by_test : (b : Bool) → AreOnce (ids_in p watched ks) → AreOnce (cond b ((clause_of watched k).id ∷ []) [] ++ ids_in p watched ks)
    by_test true rest = (apart, rest)
    by_test false rest = rest

-- two watches of one clause are the same or partners
halves : (i j : ℕ) → i / 2 ≡ j / 2 → (i ≡ j) ⊎ (i ≡ partner j)
halves i j e = by_case (cases_eq i j)
  where
    by_case : (i ≡ j) ⊎ (i ≡ j → ⊥) → (i ≡ j) ⊎ (i ≡ partner j)
    by_case (inl s) = inl s
    by_case (inr d) = inr (let h = partner-half j in let n = partner-other j in omega arith)

-- watches of one literal are of different clauses
pub watch-half : (f lists : ℕ) (watched : List NumberedClause) (keys out : List ℕ) → ((k : ℕ) → k < length keys → get_or keys k 0 ≢ other_key keys k) → ((k : ℕ) → Has out k ↔ IsAt keys k f) → (i j : ℕ) → Has out i → Has out j → i / 2 ≡ j / 2 → i ≡ j
watch-half f lists watched keys out a watches i j m n e = elim (halves i j e) [
  | inl s ↦ s
  | inr p ↦
      let at_j = (watches j).0 n in
      let at_i = (watches i).0 m in
      let other : other_key keys j ≡ f = ap (λ (x : ℕ). get_or keys x 0) (sym p) ∙ at_i.1 in
      absurd (a j at_j.0 (at_j.1 ∙ sym other))
]

map-once : (ks : List ℕ) → AreOnce ks → ((i j : ℕ) → Has ks i → Has ks j → i / 2 ≡ j / 2 → i ≡ j) → AreOnce (map (λ (k : ℕ). k / 2) ks)
map-once [] o h = tt
map-once (k ∷ ks) o h = ((λ m. apart ks (λ i n. h i k (has-tail i k ks n) (has-head k k ks refl)) o.0 m), map-once ks o.1 (λ i j m n. h i j (has-tail i k ks m) (has-tail j k ks n)))
  where
    apart : (js : List ℕ) → ((i : ℕ) → Has js i → i / 2 ≡ k / 2 → i ≡ k) → (Has js k → ⊥) → Has (map (λ (i : ℕ). i / 2) js) (k / 2) → ⊥
    apart [] g n m = has-none (k / 2) m
    apart (i ∷ js) g n m = elim (has-cases (k / 2) (i / 2) (map (λ (x : ℕ). x / 2) js) m) [
      | inl e ↦ n (has-head k i js (sym (g i (has-head i i js refl) (sym e))))
      | inr r ↦ apart js (λ x y. g x (has-tail x i js y)) (λ y. n (has-tail k i js y)) r
    ]

map-below : (count x : ℕ) (ks : List ℕ) → ((k : ℕ) → Has ks k → k / 2 < count) → Has (map (λ (k : ℕ). k / 2) ks) x → x < count
map-below count x [] h m = absurd (has-none x m)
map-below count x (k ∷ ks) h m = elim (has-cases x (k / 2) (map (λ (i : ℕ). i / 2) ks) m) [
  | inl e ↦ let b = h k (has-head k k ks refl) in omega arith
  | inr r ↦ map-below count x ks (λ i n. h i (has-tail i k ks n)) r
]

map-length : (ks : List ℕ) → length (map (λ (k : ℕ). k / 2) ks) ≡ length ks
map-length [] = refl
map-length (k ∷ ks) = ap suc (map-length ks)

-- there are at most as many watches of a literal as clauses
pub out-length : (f lists : ℕ) (watched : List NumberedClause) (keys out : List ℕ) → IsWatching lists watched keys → ((k : ℕ) → k < length keys → get_or keys k 0 ≢ other_key keys k) → ((k : ℕ) → Has out k ↔ IsAt keys k f) → AreOnce out → length out ≤ length watched
out-length f lists watched keys out w a watches o =
    let most = long-below (length watched) (map (λ (k : ℕ). k / 2) out) (map-once out o (watch-half f lists watched keys out a watches)) (λ x m. map-below (length watched) x out (λ k n. clause-below lists watched keys k w ((watches k).0 n).0) m) in
    rw (map-length out) at most

-- numbers found, in order, are those of all clauses that pass a test
ids-are : (p : NumberedClause → Bool) (f lists : ℕ) (clauses watched : List NumberedClause) (keys out found : List ℕ) → NumbersRise 0 clauses → ((c : NumberedClause) → Among c watched → Among c clauses) → AreSingle watched → IsWatching lists watched keys → ((k : ℕ) → k < length keys → get_or keys k 0 ≢ other_key keys k) → ((k : ℕ) → Has out k ↔ IsAt keys k f) → AreOnce out → ((c : NumberedClause) → Among c clauses → p c ≡ true → Among c watched) → ((k : ℕ) → k < length keys → get_or keys k 0 ≢ f → other_key keys k ≢ f → p (clause_of watched k) ≡ false) → IsPermutation (ids_in p watched out) found → IsNonDecreasing found → found ≡ map (λ (c : NumberedClause). c.id) (filter p clauses)
ids-are p f lists clauses watched keys out found r held single w a watches once rowed apart moved s =
    let ids = ids_in p watched out in
    let below : (k : ℕ) → Has out k → k / 2 < length watched = λ k h. clause-below lists watched keys k w ((watches k).0 h).0 in
    let ids_once : AreOnce ids = ids-once p watched out once (λ i j m n e. watch-half f lists watched keys out a watches i j m n (single (i / 2) (j / 2) (below i m) (below j n) e)) in
    let rising : RisesFrom 0 found = rises-from 0 found (λ l. omega arith) (IsStrictlyIncreasing-from_distinct found s (IsDistinct-IsPermutation eqb eqb_flips ids found moved (distinct-from ids ids_once))) in
    let there : (x : ℕ) → Has found x → Has (map (λ (c : NumberedClause). c.id) (filter p clauses)) x = λ x m.
    let from = ids-from p watched out x (contains-has ids x (Contains-permutation found ids x (IsPermutation-sym ids found moved) (has-contains found x m))) in
    let among : Among (clause_of watched from.watch) clauses = held (clause_of watched from.watch) (among-at watched (from.watch / 2) no_clause (below from.watch from.there)) in
    rw from.is at (numbered-has (clause_of watched from.watch) (filter p clauses) (among-passes p (clause_of watched from.watch) clauses among from.inside)) in
    let back : (x : ℕ) → Has (map (λ (c : NumberedClause). c.id) (filter p clauses)) x → Has found x = λ x m.
    let numbered = has-numbered x (filter p clauses) m in
    let passed = among-passed p numbered.clause clauses numbered.among in
    let place = among-place numbered.clause watched no_clause (rowed numbered.clause passed.0 passed.1) in
    let watch = place.place * 2 in
    let half : watch / 2 ≡ place.place = omega arith in
    let clause : clause_of watched watch ≡ numbered.clause = rw half place.is in
    let inside : p (clause_of watched watch) ≡ true = rw clause passed.1 in
    let here : watch < length keys = omega (arith, w.paired, place.inside) in
    let has : Has ids x = rw (← numbered.is, ← clause) (watching-has watch here inside) in
    contains-has found x (Contains-permutation ids found x moved (has-contains ids x has)) in
    rises-same 0 0 found (map (λ (c : NumberedClause). c.id) (filter p clauses)) rising (rises-ids 0 (filter p clauses) (rise-passed p 0 clauses r)) there back
  where
    watching-has : (k : ℕ) → k < length keys → p (clause_of watched k) ≡ true → Has (ids_in p watched out) (clause_of watched k).id
    watching-has k l t = elim (cases_eq (get_or keys k 0) f) [
      | inl e ↦ has-ids p watched out k ((watches k).1 (l, e)) t
      | inr d ↦ elim (cases_eq (other_key keys k) f) [
        | inl e ↦
            let same : clause_of watched (partner k) ≡ clause_of watched k = same-clause watched k in
            let m = has-ids p watched out (partner k) ((watches (partner k)).1 (partner-below lists watched keys k w l, e)) (rw same t) in
            rw same at m
        | inr n ↦ absurd (false≢true (sym (apart k l d n) ∙ t))
      ]
    ]

held-same : (low : ℕ) (cs : List NumberedClause) (c d : NumberedClause) → NumbersRise low cs → Among c cs → Among d cs → c.id ≡ d.id → c ≡ d
held-same low cs c d r a b e =
    let lits : c.lits ≡ d.lits = some_lits c.lits d.lits (sym (rise-under low cs c r a) ∙ (ap (λ (i : ℕ). lits_under i cs) e ∙ rise-under low cs d r b)) in
    same c.id d.id c.lits d.lits e lits
  where
    some_lits : (x y : List ℕ) → Some x ≡ Some y → x ≡ y
    some_lits x y q = cc

    same : (i j : ℕ) (x y : List ℕ) → i ≡ j → x ≡ y → (let c : NumberedClause = record { id = i; lits = x } in let d : NumberedClause = record { id = j; lits = y } in c ≡ d)
    same i j x y p q = rw (p, q) refl

-- what is found of a clause
pub record IsFoundOf (prefix : List TrailEntry) (clauses : List NumberedClause) (f : Found) : Type 0 where
  pub clause : NumberedClause
  pub among : Among clause clauses
  pub is : f ≡ found_of prefix clause

ids-head : (x y : ℕ) (xs ys : List ℕ) → x ∷ xs ≡ y ∷ ys → (x ≡ y) × (xs ≡ ys)
ids-head x y xs ys e = (cc, cc)

-- what is found of clauses, by their numbers
found-same : (prefix : List TrailEntry) (clauses cs : List NumberedClause) (fs : List Found) → NumbersRise 0 clauses → ((c : NumberedClause) → Among c cs → Among c clauses) → AllByRecursion (IsFoundOf prefix clauses) fs → map (λ (f : Found). f.id) fs ≡ map (λ (c : NumberedClause). c.id) cs → fs ≡ map (found_of prefix) cs
found-same prefix clauses [] [] r a o e = refl
found-same prefix clauses (c ∷ cs) [] r a o e = absurd (nil_cons c.id (map (λ (x : NumberedClause). x.id) cs) e)
  where
    nil_cons : (x : ℕ) (xs : List ℕ) → ◌≡◌ {A = List ℕ} [] (x ∷ xs) → ⊥
    nil_cons x xs q = cc
found-same prefix clauses [] (f ∷ fs) r a o e = absurd (cons_nil f.id (map (λ (x : Found). x.id) fs) e)
  where
    cons_nil : (x : ℕ) (xs : List ℕ) → ◌≡◌ {A = List ℕ} (x ∷ xs) [] → ⊥
    cons_nil x xs q = cc
found-same prefix clauses (c ∷ cs) (f ∷ fs) r a o e =
    let heads = ids-head f.id c.id (map (λ (x : Found). x.id) fs) (map (λ (x : NumberedClause). x.id) cs) e in
    let same : o.0.clause ≡ c = held-same 0 clauses o.0.clause c r o.0.among (a c (inl refl)) (ap (λ (x : Found). x.id) (sym o.0.is) ∙ heads.0) in
    let first : f ≡ found_of prefix c = o.0.is ∙ ap (found_of prefix) same in
    rw (first, found-same prefix clauses cs fs r (λ d h. a d (inr h)) o.1 heads.1) refl

-- what is found of watches is found of their clauses
each-found : (prefix trail : List TrailEntry) (clauses watched : List NumberedClause) (ks : List ℕ) → ((k : ℕ) → Has ks k → Among (clause_of watched k) clauses) → AllByRecursion (IsFoundOf prefix clauses) (found_in prefix trail watched ks)
each-found prefix trail clauses watched [] h = tt
each-found prefix trail clauses watched (k ∷ ks) h = by_test (is_pending prefix trail (clause_of watched k)) (each-found prefix trail clauses watched ks (λ j m. h j (has-tail j k ks m)))
  where
    by_test : (b : Bool) → AllByRecursion (IsFoundOf prefix clauses) (found_in prefix trail watched ks) → AllByRecursion (IsFoundOf prefix clauses) (cond b (found_of prefix (clause_of watched k) ∷ []) [] ++ found_in prefix trail watched ks)
    by_test true rest = (record { clause = clause_of watched k; among = h k (has-head k k ks refl); is = refl }, rest)
    by_test false rest = rest

-- and their numbers are those of the pending ones
found-ids : (prefix trail : List TrailEntry) (watched : List NumberedClause) (ks : List ℕ) → map (λ (f : Found). f.id) (found_in prefix trail watched ks) ≡ ids_in (is_pending prefix trail) watched ks
found-ids prefix trail watched [] = refl
found-ids prefix trail watched (k ∷ ks) = by_test (is_pending prefix trail (clause_of watched k)) (found-ids prefix trail watched ks)
  where
    by_test : (b : Bool) → map (λ (f : Found). f.id) (found_in prefix trail watched ks) ≡ ids_in (is_pending prefix trail) watched ks → map (λ (f : Found). f.id) (cond b (found_of prefix (clause_of watched k) ∷ []) [] ++ found_in prefix trail watched ks) ≡ cond b ((clause_of watched k).id ∷ []) [] ++ ids_in (is_pending prefix trail) watched ks
    by_test true rest = ap (λ (xs : List ℕ). (clause_of watched k).id ∷ xs) rest
    by_test false rest = rest

ids-order : (fs : List Found) → IsNonDecreasingBy (λ (f : Found). f.id) fs → IsNonDecreasing (map (λ (f : Found). f.id) fs)
ids-order fs h i j d a l =
    let long : length (map (λ (f : Found). f.id) fs) ≡ length fs = length-map fs (λ (f : Found). f.id) in
    let none : Found = record { id = d; lit = 0 } in
    rw (get-id fs i none, get-id fs j none) (h i j none a (omega (arith, l, long)))
  where
    get-id : (xs : List Found) (k : ℕ) (n : Found) → get_or (map (λ (f : Found). f.id) xs) k n.id ≡ (get_or xs k n).id
    get-id [] k n = refl
    get-id (x ∷ xs) zero n = refl
    get-id (x ∷ xs) (suc k) n = get-id xs k n

pending-batch : (prefix trail : List TrailEntry) (c : NumberedClause) → is_pending prefix trail c ≡ true → is_in_batch prefix c ≡ true
pending-batch prefix trail c h = by_test (is_in_batch prefix c) (left_is_true prefix trail c) h
  where
    by_test : (a b : Bool) → (a && not b) ≡ true → a ≡ true
    by_test true b q = refl
    by_test false b q = q

-- what was found, in order, is what is pending
pub found-is : (prefix trail : List TrailEntry) (f lists : ℕ) (clauses watched : List NumberedClause) (keys out : List ℕ) (found : List Found) → NumbersRise 0 clauses → ((c : NumberedClause) → Among c watched → Among c clauses) → AreSingle watched → IsWatching lists watched keys → ((k : ℕ) → k < length keys → get_or keys k 0 ≢ other_key keys k) → ((k : ℕ) → Has out k ↔ IsAt keys k f) → AreOnce out → ((c : NumberedClause) → Among c clauses → is_in_batch prefix c ≡ true → Among c watched) → ((k : ℕ) → k < length keys → get_or keys k 0 ≢ f → other_key keys k ≢ f → is_pending prefix trail (clause_of watched k) ≡ false) → IsPermutation (found_in prefix trail watched out) found → IsNonDecreasingBy (λ (x : Found). x.id) found → found ≡ pending prefix trail clauses
found-is prefix trail f lists clauses watched keys out found r held single w a watches once rowed apart moved s =
    let p : NumberedClause → Bool = is_pending prefix trail in
    let number : Found → ℕ = λ x. x.id in
    let below : (k : ℕ) → Has out k → k / 2 < length watched = λ k h. clause-below lists watched keys k w ((watches k).0 h).0 in
    let each = each-found prefix trail clauses watched out (λ k h. held (clause_of watched k) (among-at watched (k / 2) no_clause (below k h))) in
    let now : AllByRecursion (IsFoundOf prefix clauses) found = recursion_from_All (IsFoundOf prefix clauses) found (All-permutation (IsFoundOf prefix clauses) (found_in prefix trail watched out) found moved (All-from_recursion (IsFoundOf prefix clauses) (found_in prefix trail watched out) each)) in
    let ids : IsPermutation (ids_in p watched out) (map number found) = subst (λ (xs : List ℕ). IsPermutation xs (map number found)) (found-ids prefix trail watched out) (IsPermutation-map number (found_in prefix trail watched out) found moved) in
    let same = ids-are p f lists clauses watched keys out (map number found) r held single w a watches once (λ c h t. rowed c h (pending-batch prefix trail c t)) apart ids (ids-order found s) in
    found-same prefix clauses (filter p clauses) found r (λ c h. (among-passed p c clauses h).0) now same
