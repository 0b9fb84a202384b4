use Rattle.std.proofs.Common.{◌≡◌, ◌≢◌, ℕ, zero, suc, ◌+◌, ◌*◌, ◌<◌, ◌≤◌, Bool, true, false, List, length, set, ◌⊎◌, inl, inr, refl, sym, ap, ◌∙◌, subst, arith}
use Rattle.std.proofs.lemmas.Bool.{cases_eq, false≢true}
use Rattle.std.proofs.lemmas.List.{get_or-set_same, get_or-set_other}
use Rattle.spec_activity.specs.Rank.{is_before}
use Rattle.spec_activity.proofs.RankLemmas.{before-itself, before-trans, before-total, before-rise}
use Rattle.mal_heap.specs.Rows.{at, IsSwap}
use Rattle.mal_heap.specs.Heaps.{parent, outranks, Follows, IsHeap, IsOver, IsHeapUp, IsHeapDown, IsChild}

-- the order of numbers, with names of its own
rank-trans : (index : ℕ) (ks : List ℕ) (u v w : ℕ) → outranks index ks u v ≡ true → outranks index ks v w ≡ true → outranks index ks u w ≡ true
rank-trans index ks u v w h k = before-trans index (at ks u) (u + 1) (at ks v) (v + 1) (at ks w) (w + 1) h k

rank-itself : (index : ℕ) (ks : List ℕ) (u : ℕ) → outranks index ks u u ≡ false
rank-itself index ks u = before-itself index (at ks u) (u + 1)

rank-total : (index : ℕ) (ks : List ℕ) (u w : ℕ) → u ≢ w → outranks index ks u w ≡ false → outranks index ks w u ≡ true
rank-total index ks u w n h = before-total index (at ks u) (u + 1) (at ks w) (w + 1) (λ e. n (omega arith)) h

-- what comes before does not follow
pub rank-back : (index : ℕ) (ks : List ℕ) (u w : ℕ) → outranks index ks u w ≡ true → outranks index ks w u ≡ false
rank-back index ks u w h = by_test (outranks index ks w u) refl
  where
    by_test : (b : Bool) → outranks index ks w u ≡ b → b ≡ false
    by_test true k = absurd (false≢true (sym (rank-itself index ks u) ∙ rank-trans index ks u w u h k))
    by_test false k = refl

-- what follows one that follows another one follows that
rank-follows : (index : ℕ) (ks : List ℕ) (u v w : ℕ) → outranks index ks u v ≡ false → outranks index ks v w ≡ false → outranks index ks u w ≡ false
rank-follows index ks u v w h k = by_test (outranks index ks u w) refl (cases_eq u v)
  where
    by_test : (b : Bool) → outranks index ks u w ≡ b → (u ≡ v) ⊎ (u ≢ v) → b ≡ false
    by_test false q d = refl
    by_test true q (inl e) = absurd (false≢true (sym k ∙ subst (λ (x : ℕ). outranks index ks x w ≡ true) e q))
    by_test true q (inr n) = absurd (false≢true (sym k ∙ rank-trans index ks v u w (rank-total index ks u v n h) q))

-- what follows one follows what comes before that
rank-first : (index : ℕ) (ks : List ℕ) (u v w : ℕ) → outranks index ks u w ≡ false → outranks index ks v w ≡ true → outranks index ks u v ≡ false
rank-first index ks u v w h k = by_test (outranks index ks u v) refl
  where
    by_test : (b : Bool) → outranks index ks u v ≡ b → b ≡ false
    by_test true q = absurd (false≢true (sym h ∙ rank-trans index ks u v w q k))
    by_test false q = refl

-- a fact about two items, from what stands at their places
moved : (index : ℕ) (ks : List ℕ) (a b c d : ℕ) → a ≡ c → b ≡ d → outranks index ks c d ≡ false → outranks index ks a b ≡ false
moved index ks a b c d e f h = rw (e, f) h

-- a step up
pub up-step : (index : ℕ) (ks xs ys : List ℕ) (count place : ℕ) → 0 < place → place < count → outranks index ks (at xs place) (at xs (parent place)) ≡ true → IsSwap xs ys place (parent place) → IsHeapUp index ks xs count place → IsHeapUp index ks ys count (parent place)
up-step index ks xs ys count place some within less s u = record { edges = edge; over = above }
  where
    edge : (i : ℕ) → 0 < i → i < count → i ≢ parent place → Follows index ks ys i (parent i)
    edge i l h n = by_place (cases_eq i place) (cases_eq (parent i) place) (cases_eq (parent i) (parent place))
      where
        by_place : (i ≡ place) ⊎ (i ≢ place) → (parent i ≡ place) ⊎ (parent i ≢ place) → (parent i ≡ parent place) ⊎ (parent i ≢ parent place) → Follows index ks ys i (parent i)
        by_place (inl e) q r = moved index ks (at ys i) (at ys (parent i)) (at xs (parent place)) (at xs place) (ap (at ys) e ∙ s.first) (ap (λ (x : ℕ). at ys (parent x)) e ∙ s.second) (rank-back index ks (at xs place) (at xs (parent place)) less)
        by_place (inr e) (inl q) r = moved index ks (at ys i) (at ys (parent i)) (at xs i) (at xs (parent place)) (s.others i e n) (ap (at ys) q ∙ s.first) (u.over i some l h q)
        by_place (inr e) (inr q) (inl r) = moved index ks (at ys i) (at ys (parent i)) (at xs i) (at xs place) (s.others i e n) (ap (at ys) r ∙ s.second) (rank-first index ks (at xs i) (at xs place) (at xs (parent place)) (subst (λ (x : ℕ). outranks index ks (at xs i) (at xs x) ≡ false) r (u.edges i l h e)) less)
        by_place (inr e) (inr q) (inr r) = moved index ks (at ys i) (at ys (parent i)) (at xs i) (at xs (parent i)) (s.others i e n) (s.others (parent i) q r) (u.edges i l h e)

    above : IsOver index ks ys count (parent place)
    above k p l h q =
        let top : parent (parent place) < parent place = omega arith in
        let low : parent place < place = omega arith in
        let grand : at ys (parent (parent place)) ≡ at xs (parent (parent place)) = s.others (parent (parent place)) (λ e. omega arith) (λ e. omega arith) in
        let mid : outranks index ks (at xs (parent place)) (at xs (parent (parent place))) ≡ false = u.edges (parent place) p (omega arith) (λ e. omega arith) in
        by_place k l h q grand mid (cases_eq k place)
      where
        by_place : (k : ℕ) → 0 < k → k < count → parent k ≡ parent place → at ys (parent (parent place)) ≡ at xs (parent (parent place)) → outranks index ks (at xs (parent place)) (at xs (parent (parent place))) ≡ false → (k ≡ place) ⊎ (k ≢ place) → Follows index ks ys k (parent (parent place))
        by_place k l h q grand mid (inl e) = moved index ks (at ys k) (at ys (parent (parent place))) (at xs (parent place)) (at xs (parent (parent place))) (ap (at ys) e ∙ s.first) grand mid
        by_place k l h q grand mid (inr e) = moved index ks (at ys k) (at ys (parent (parent place))) (at xs k) (at xs (parent (parent place))) (s.others k e (λ f. omega arith)) grand (rank-follows index ks (at xs k) (at xs (parent place)) (at xs (parent (parent place))) (subst (λ (x : ℕ). outranks index ks (at xs k) (at xs x) ≡ false) q (u.edges k l h e)) mid)

-- where no step up is needed
pub up-ends : (index : ℕ) (ks xs : List ℕ) (count place : ℕ) → (0 < place → outranks index ks (at xs place) (at xs (parent place)) ≡ false) → IsHeapUp index ks xs count place → IsHeap index ks xs count
up-ends index ks xs count place here u i l h = by_place (cases_eq i place)
  where
    by_place : (i ≡ place) ⊎ (i ≢ place) → Follows index ks xs i (parent i)
    by_place (inl e) = subst (λ (x : ℕ). 0 < x → outranks index ks (at xs x) (at xs (parent x)) ≡ false) (sym e) here l
    by_place (inr e) = u.edges i l h e

-- a step down
pub down-step : (index : ℕ) (ks xs ys : List ℕ) (count place child : ℕ) → IsChild index ks xs count place child → outranks index ks (at xs child) (at xs place) ≡ true → IsSwap xs ys place child → IsHeapDown index ks xs count place → IsHeapDown index ks ys count child
down-step index ks xs ys count place child c less s d = record { edges = edge; over = above }
  where
    edge : (i : ℕ) → 0 < i → i < count → parent i ≢ child → Follows index ks ys i (parent i)
    edge i l h n = by_place (cases_eq i child) (cases_eq i place) (cases_eq (parent i) place)
      where
        by_place : (i ≡ child) ⊎ (i ≢ child) → (i ≡ place) ⊎ (i ≢ place) → (parent i ≡ place) ⊎ (parent i ≢ place) → Follows index ks ys i (parent i)
        by_place (inl e) q r = moved index ks (at ys i) (at ys (parent i)) (at xs place) (at xs child) (ap (at ys) e ∙ s.second) (ap (λ (x : ℕ). at ys (parent x)) e ∙ (ap (at ys) c.above ∙ s.first)) (rank-back index ks (at xs child) (at xs place) less)
        by_place (inr e) (inl q) r =
            let up : 0 < place = omega arith in
            let other : parent place ≢ place = λ f. omega arith in
            let far : parent place ≢ child = λ f. n (ap parent q ∙ f) in
            moved index ks (at ys i) (at ys (parent i)) (at xs child) (at xs (parent place)) (ap (at ys) q ∙ s.first) (ap (λ (x : ℕ). at ys (parent x)) q ∙ s.others (parent place) other far) (d.over child up (omega (arith, c.below)) c.within c.above)
        by_place (inr e) (inr q) (inl r) = moved index ks (at ys i) (at ys (parent i)) (at xs i) (at xs child) (s.others i q e) (ap (at ys) r ∙ s.first) (c.first i l h r)
        by_place (inr e) (inr q) (inr r) = moved index ks (at ys i) (at ys (parent i)) (at xs i) (at xs (parent i)) (s.others i q e) (s.others (parent i) r n) (d.edges i l h r)

    above : IsOver index ks ys count child
    above k p l h q =
        let deep : child < k = omega arith in
        let far : parent k ≢ place = λ f. omega (arith, c.below) in
        moved index ks (at ys k) (at ys (parent child)) (at xs k) (at xs child) (s.others k (λ f. omega (arith, c.below)) (λ f. omega arith)) (ap (at ys) c.above ∙ s.first) (subst (λ (x : ℕ). outranks index ks (at xs k) (at xs x) ≡ false) q (d.edges k l h far))

-- where no step down is needed
pub down-ends : (index : ℕ) (ks xs : List ℕ) (count place : ℕ) → ((k : ℕ) → 0 < k → k < count → parent k ≡ place → Follows index ks xs k place) → IsHeapDown index ks xs count place → IsHeap index ks xs count
down-ends index ks xs count place here d i l h = by_place (cases_eq (parent i) place)
  where
    by_place : (parent i ≡ place) ⊎ (parent i ≢ place) → Follows index ks xs i (parent i)
    by_place (inl e) = subst (λ (x : ℕ). outranks index ks (at xs i) (at xs x) ≡ false) (sym e) (here i l h e)
    by_place (inr e) = d.edges i l h e

-- what follows the first item of those below a place follows the item there, where that one does
pub child-follows : (index : ℕ) (ks xs : List ℕ) (count place child : ℕ) → IsChild index ks xs count place child → outranks index ks (at xs child) (at xs place) ≡ false → (k : ℕ) → 0 < k → k < count → parent k ≡ place → Follows index ks xs k place
child-follows index ks xs count place child c more k l h q = rank-follows index ks (at xs k) (at xs child) (at xs place) (c.first k l h q) more

-- no item comes before the first one
pub top : (index : ℕ) (ks xs : List ℕ) (count : ℕ) → IsHeap index ks xs count → (i : ℕ) → i < count → Follows index ks xs i 0
top index ks xs count heap i h = fuel (suc i) i (omega arith) h
  where
    fuel : (n i : ℕ) → i < n → i < count → Follows index ks xs i 0
    fuel zero i l h = absurd (omega arith)
    fuel (suc n) zero l h = rank-itself index ks (at xs 0)
    fuel (suc n) (suc i) l h = rank-follows index ks (at xs (suc i)) (at xs (parent (suc i))) (at xs 0) (heap (suc i) (omega arith) h) (fuel n (parent (suc i)) (omega arith) (omega arith))

-- the first item comes before each other one
pub top-first : (index : ℕ) (ks xs : List ℕ) (count i : ℕ) → IsHeap index ks xs count → i < count → at xs i ≢ at xs 0 → outranks index ks (at xs 0) (at xs i) ≡ true
top-first index ks xs count i heap h n = rank-total index ks (at xs i) (at xs 0) n (top index ks xs count heap i h)

-- one item more, at the end
pub more : (index : ℕ) (ks xs ys : List ℕ) (count i : ℕ) → IsHeap index ks xs count → count ≤ i → IsSwap xs ys i count → IsHeapUp index ks ys (count + 1) count
more index ks xs ys count i heap l s = record { edges = edge; over = λ k p q h e. absurd (omega arith) }
  where
    edge : (k : ℕ) → 0 < k → k < count + 1 → k ≢ count → Follows index ks ys k (parent k)
    edge k p h n = moved index ks (at ys k) (at ys (parent k)) (at xs k) (at xs (parent k)) (s.others k (λ e. omega arith) n) (s.others (parent k) (λ e. omega arith) (λ e. omega arith)) (heap k p (omega arith))

-- one item fewer, the first one, for which the last one stands
pub fewer : (index : ℕ) (ks xs ys : List ℕ) (count : ℕ) → IsHeap index ks xs (suc count) → IsSwap xs ys 0 count → IsHeapDown index ks ys count 0
fewer index ks xs ys count heap s = record { edges = edge; over = λ k p q h e. absurd (omega arith) }
  where
    edge : (k : ℕ) → 0 < k → k < count → parent k ≢ 0 → Follows index ks ys k (parent k)
    edge k p h n = moved index ks (at ys k) (at ys (parent k)) (at xs k) (at xs (parent k)) (s.others k (λ e. omega arith) (λ e. omega arith)) (s.others (parent k) n (λ e. omega arith)) (heap k p (omega arith))

-- where a number rises, what comes before it came before it already, and others stand as they did
pub record IsRaise (ks ls : List ℕ) (u : ℕ) : Type 0 where
  pub rises : at ks u ≤ at ls u
  pub others : (w : ℕ) → w ≢ u → at ls w ≡ at ks w

pub raise-is : (ks : List ℕ) (u a : ℕ) → u < length ks → at ks u ≤ a → IsRaise ks (set ks u a) u
raise-is ks u a h l = record { rises = rw (get_or-set_same ks u a 0 h) l; others = λ (w : ℕ) (n : w ≢ u). get_or-set_other ks u w a 0 n }

-- a fact about two numbers that did not rise
unraised : (index : ℕ) (ks ls : List ℕ) (u v w : ℕ) → IsRaise ks ls u → v ≢ u → w ≢ u → outranks index ks v w ≡ false → outranks index ls v w ≡ false
unraised index ks ls u v w r n m h = rw (r.others v n, r.others w m) h

-- what follows the number that rises follows it then
unraised-at : (index : ℕ) (ks ls : List ℕ) (u v : ℕ) → IsRaise ks ls u → v ≢ u → outranks index ks v u ≡ false → outranks index ls v u ≡ false
unraised-at index ks ls u v r n h = by_test (outranks index ls v u) refl
  where
    by_test : (b : Bool) → outranks index ls v u ≡ b → b ≡ false
    by_test false q = refl
    by_test true q = absurd (false≢true (sym h ∙ before-rise index (at ks v) (v + 1) (at ks u) (u + 1) (at ls u) r.rises (subst (λ (x : ℕ). is_before index x (v + 1) (at ls u) (u + 1) ≡ true) (r.others v n) q)))

-- a heap in which the number at a place rises
pub raised-up : (index : ℕ) (ks ls xs : List ℕ) (count place u : ℕ) → IsRaise ks ls u → at xs place ≡ u → ((k : ℕ) → k < count → k ≢ place → at xs k ≢ u) → IsHeap index ks xs count → IsHeapUp index ls xs count place
raised-up index ks ls xs count place u r e only heap = record { edges = edge; over = above }
  where
    edge : (i : ℕ) → 0 < i → i < count → i ≢ place → Follows index ls xs i (parent i)
    edge i p h n = by_place (cases_eq (parent i) place)
      where
        by_place : (parent i ≡ place) ⊎ (parent i ≢ place) → Follows index ls xs i (parent i)
        by_place (inl q) =
            let here : at xs (parent i) ≡ u = ap (at xs) q ∙ e in
            subst (λ (x : ℕ). outranks index ls (at xs i) x ≡ false) (sym here) (unraised-at index ks ls u (at xs i) r (only i h n) (subst (λ (x : ℕ). outranks index ks (at xs i) x ≡ false) here (heap i p h)))
        by_place (inr q) = unraised index ks ls u (at xs i) (at xs (parent i)) r (only i h n) (only (parent i) (omega arith) q) (heap i p h)

    above : IsOver index ls xs count place
    above k some p h q =
        let below : count ≤ count = omega arith in
        let mid : outranks index ks (at xs place) (at xs (parent place)) ≡ false = heap place some (omega arith) in
        let low : outranks index ks (at xs k) (at xs place) ≡ false = subst (λ (x : ℕ). outranks index ks (at xs k) (at xs x) ≡ false) q (heap k p h) in
        unraised index ks ls u (at xs k) (at xs (parent place)) r (only k h (λ f. omega arith)) (only (parent place) (omega arith) (λ f. omega arith)) (rank-follows index ks (at xs k) (at xs place) (at xs (parent place)) low mid)

-- a heap that the number that rises is no item of
pub raised-outside : (index : ℕ) (ks ls xs : List ℕ) (count u : ℕ) → IsRaise ks ls u → ((k : ℕ) → k < count → at xs k ≢ u) → IsHeap index ks xs count → IsHeap index ls xs count
raised-outside index ks ls xs count u r only heap i p h = unraised index ks ls u (at xs i) (at xs (parent i)) r (only i h) (only (parent i) (omega arith)) (heap i p h)

-- a heap whose items and numbers stay, in longer lists
pub heap-grown : (index : ℕ) (ks ls xs ys : List ℕ) (count : ℕ) → ((k : ℕ) → k < count → at ys k ≡ at xs k) → ((k : ℕ) → k < count → at ls (at xs k) ≡ at ks (at xs k)) → IsHeap index ks xs count → IsHeap index ls ys count
heap-grown index ks ls xs ys count same act heap i p h =
    let above : parent i < count = omega arith in
    rw (same i h, same (parent i) above, act i h, act (parent i) above) (heap i p h)

-- the first item of those below a place: of one, or of two
pub child-only : (index : ℕ) (ks xs : List ℕ) (count place : ℕ) → 2 * place + 1 < count → count ≤ 2 * place + 1 + 1 → IsChild index ks xs count place (2 * place + 1)
child-only index ks xs count place l h =
    record {
      within = l;
      below = omega arith;
      above = omega arith;
      first = λ (k : ℕ) (p : 0 < k) (m : k < count) (q : parent k ≡ place).
          let e : k ≡ 2 * place + 1 = omega arith in
          subst (λ (x : ℕ). outranks index ks (at xs k) (at xs x) ≡ false) e (rank-itself index ks (at xs k));
    }

below-two : (k place : ℕ) → 0 < k → parent k ≡ place → k ≢ 2 * place + 1 → k ≡ 2 * place + 1 + 1
below-two k place p q n = omega arith

pub child-left : (index : ℕ) (ks xs : List ℕ) (count place : ℕ) → 2 * place + 1 + 1 < count → outranks index ks (at xs (2 * place + 1 + 1)) (at xs (2 * place + 1)) ≡ false → IsChild index ks xs count place (2 * place + 1)
child-left index ks xs count place l h = record { within = omega arith; below = omega arith; above = omega arith; first = λ (k : ℕ) (p : 0 < k) (m : k < count) (q : parent k ≡ place). by_place k p q (cases_eq k (2 * place + 1)) }
  where
    by_place : (k : ℕ) → 0 < k → parent k ≡ place → (k ≡ 2 * place + 1) ⊎ (k ≢ 2 * place + 1) → outranks index ks (at xs k) (at xs (2 * place + 1)) ≡ false
    by_place k p q (inl e) = subst (λ (x : ℕ). outranks index ks (at xs k) (at xs x) ≡ false) e (rank-itself index ks (at xs k))
    by_place k p q (inr n) = subst (λ (x : ℕ). outranks index ks (at xs x) (at xs (2 * place + 1)) ≡ false) (sym (below-two k place p q n)) h

pub child-right : (index : ℕ) (ks xs : List ℕ) (count place : ℕ) → 2 * place + 1 + 1 < count → outranks index ks (at xs (2 * place + 1 + 1)) (at xs (2 * place + 1)) ≡ true → IsChild index ks xs count place (2 * place + 1 + 1)
child-right index ks xs count place l h = record { within = l; below = omega arith; above = omega arith; first = λ (k : ℕ) (p : 0 < k) (m : k < count) (q : parent k ≡ place). by_place k p q (cases_eq k (2 * place + 1)) }
  where
    by_place : (k : ℕ) → 0 < k → parent k ≡ place → (k ≡ 2 * place + 1) ⊎ (k ≢ 2 * place + 1) → outranks index ks (at xs k) (at xs (2 * place + 1 + 1)) ≡ false
    by_place k p q (inl e) = subst (λ (x : ℕ). outranks index ks (at xs x) (at xs (2 * place + 1 + 1)) ≡ false) (sym e) (rank-back index ks (at xs (2 * place + 1 + 1)) (at xs (2 * place + 1)) h)
    by_place k p q (inr n) = subst (λ (x : ℕ). outranks index ks (at xs k) (at xs x) ≡ false) (below-two k place p q n) (rank-itself index ks (at xs k))
