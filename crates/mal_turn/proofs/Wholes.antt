-- Why many tokens that are joined are whole, and what a whole token has seen.
use Rattle.std.proofs.Common.{◌≡◌, ℕ, zero, suc, ◌<◌, Bool, true, false, ◌||◌, List, [], ◌∷◌, ◌++◌, length, if◌then◌else◌, refl, sym, ap, ◌∙◌, subst, inl, inr, ◌⊎◌, ⊎_elim, append_assoc, arith, get_or}
use Rattle.std.specs.List.{Contains}
use Rattle.std.specs.List.Sorted.{IsPermutation}
use Rattle.std.proofs.lemmas.List.{append-nil}
use Rattle.std.proofs.lemmas.List.Sorted.{Contains-permutation, IsPermutation-sym}
use Rattle.mal_turn.specs.declared.view.View.{View}
use Rattle.mal_turn.specs.declared.view.Numbers.{Numbers}
use Rattle.mal_turn.specs.Numbers.{same, among, without, part}
use Rattle.mal_turn.specs.Rule.{Log, At, Begins, Extends, Leaves, Has, IsWhole, opening, next_number, splitting, child, joined}
use Rattle.mal_turn.specs.Many.{split_times, children, join_all, numbers_of, awaited_of, AwaitsOthers, IsBack}
use Rattle.mal_turn.proofs.Lists.{behind, part-append, part-mine, part-begins}
use Rattle.mal_turn.proofs.Paths.{same_equal, same_refl, either_of, or_left, or_right, has_left, has_right, has_either}

without_lacks_step : (b : Bool) (x a : List ℕ) (ns rest : List (List ℕ)) → among a ns ≡ b → among x (if b then rest else a ∷ rest) ≡ true → (among x rest ≡ true → among x ns ≡ true → ⊥) → among x ns ≡ true → ⊥
without_lacks_step true x a ns rest is h f k = f h k
without_lacks_step false x a ns rest is h f k = ⊎_elim (λ (e : same x a ≡ true). let e' = same_equal x a e in let t : among a ns ≡ true = subst (λ (z : List ℕ). among z ns ≡ true) e' k in absurd (cc)) (λ (q : among x rest ≡ true). f q k) (either_of (same x a) (among x rest) h)

-- what is left without these numbers is none of them
pub without_lacks : (x : List ℕ) (xs ns : List (List ℕ)) → among x (without xs ns) ≡ true → among x ns ≡ true → ⊥
without_lacks x [] ns h k = absurd (cc)
without_lacks x (a ∷ xs) ns h k = without_lacks_step (among a ns) x a ns (without xs ns) refl h (without_lacks x xs ns) k

without_within_step : (b : Bool) (x a : List ℕ) (xs rest : List (List ℕ)) → (among x rest ≡ true → among x xs ≡ true) → among x (if b then rest else a ∷ rest) ≡ true → (same x a || among x xs) ≡ true
without_within_step true x a xs rest f h = or_right (same x a) (among x xs) (f h)
without_within_step false x a xs rest f h = ⊎_elim (λ (e : same x a ≡ true). or_left (same x a) (among x xs) e) (λ (q : among x rest ≡ true). or_right (same x a) (among x xs) (f q)) (either_of (same x a) (among x rest) h)

-- and was there before
pub without_within : (x : List ℕ) (xs ns : List (List ℕ)) → among x (without xs ns) ≡ true → among x xs ≡ true
without_within x [] ns h = h
without_within x (a ∷ xs) ns h = without_within_step (among a ns) x a xs (without xs ns) (without_within x xs ns) h

none_left : (xs : List (List ℕ)) → ((x : List ℕ) → among x xs ≡ true → ⊥) → xs ≡ []
none_left [] f = refl
none_left (x ∷ xs) f = absurd (f x (or_left (same x x) (among x xs) (same_refl x)))

-- tokens that are joined have all their numbers
joined_has : (n : Numbers) (ms : List Numbers) → (join_all n ms).all ≡ n.all ++ numbers_of ms
joined_has n [] = sym (append-nil n.all)
joined_has n (m ∷ ms) = joined_has (joined n m) ms ∙ append_assoc n.all m.all (numbers_of ms)

joined_awaits : (n : Numbers) (ms : List Numbers) (x : List ℕ) → among x (join_all n ms).awaited ≡ true → among x (n.awaited ++ awaited_of ms) ≡ true
joined_awaits n [] x h = has_left x n.awaited [] h
joined_awaits n (m ∷ ms) x h = ⊎_elim
    (λ (a : among x (without (n.awaited ++ m.awaited) (n.all ++ m.all)) ≡ true). subst (λ (z : List (List ℕ)). among x z ≡ true) (append_assoc n.awaited m.awaited (awaited_of ms)) (has_left x (n.awaited ++ m.awaited) (awaited_of ms) (without_within x (n.awaited ++ m.awaited) (n.all ++ m.all) a)))
    (λ (b : among x (awaited_of ms) ≡ true). has_right x n.awaited (m.awaited ++ awaited_of ms) (has_right x m.awaited (awaited_of ms) b))
    (has_either x (joined n m).awaited (awaited_of ms) (joined_awaits (joined n m) ms x h))

joined_others : (n : Numbers) (ms : List Numbers) → AwaitsOthers n → AwaitsOthers (join_all n ms)
joined_others n [] f = f
joined_others n (m ∷ ms) f = joined_others (joined n m) ms (λ x a h. without_lacks x (n.awaited ++ m.awaited) (n.all ++ m.all) a h)

-- where each number that some token awaits is some token's
pub joined_whole : (n : Numbers) (ms : List Numbers) → Has n [] → AwaitsOthers n → ((x : List ℕ) → among x (n.awaited ++ awaited_of ms) ≡ true → among x (n.all ++ numbers_of ms) ≡ true) → IsWhole (join_all n ms)
joined_whole n ms first others all = (
  subst (λ (z : List (List ℕ)). among [] z ≡ true) (sym (joined_has n ms)) (has_left [] n.all (numbers_of ms) first),
  none_left (join_all n ms).awaited
      (λ x a. joined_others n ms others x a (subst (λ (z : List (List ℕ)). among x z ≡ true) (sym (joined_has n ms)) (all x (joined_awaits n ms x a)))),
)

owner_among : (x : List ℕ) (ms : List Numbers) → among x (numbers_of ms) ≡ true → (m : Numbers) × Contains ms m × Has m x
owner_among x [] h = absurd (cc)
owner_among x (m ∷ ms) h = ⊎_elim
    (λ (a : Has m x). (m, (0, omega arith, refl), a))
    (λ (b : among x (numbers_of ms) ≡ true). let t = owner_among x ms b in let lt = t.1.1 in (t.0, (suc t.1.0, omega arith, t.1.2), t.2))
    (has_either x m.all (numbers_of ms) h)

among_owner : (x : List ℕ) (ms : List Numbers) (m : Numbers) (i : ℕ) → i < length ms → get_or ms i m ≡ m → Has m x → among x (numbers_of ms) ≡ true
among_owner x [] m i lt e h = absurd (omega arith)
among_owner x (a ∷ ms) m zero lt e h = has_left x a.all (numbers_of ms) (subst (λ (z : Numbers). Has z x) (sym e) h)
among_owner x (a ∷ ms) m (suc i) lt e h = has_right x a.all (numbers_of ms) (among_owner x ms m i (omega arith) e h)

waiter_among : (x : List ℕ) (ms : List Numbers) → among x (awaited_of ms) ≡ true → (m : Numbers) × Contains ms m × (among x m.awaited ≡ true)
waiter_among x [] h = absurd (cc)
waiter_among x (m ∷ ms) h = ⊎_elim
    (λ (a : among x m.awaited ≡ true). (m, (0, omega arith, refl), a))
    (λ (b : among x (awaited_of ms) ≡ true). let t = waiter_among x ms b in let lt = t.1.1 in (t.0, (suc t.1.0, omega arith, t.1.2), t.2))
    (has_either x m.awaited (awaited_of ms) h)

among_waiter : (x : List ℕ) (ms : List Numbers) (m : Numbers) (i : ℕ) → i < length ms → get_or ms i m ≡ m → among x m.awaited ≡ true → among x (awaited_of ms) ≡ true
among_waiter x [] m i lt e h = absurd (omega arith)
among_waiter x (a ∷ ms) m zero lt e h = has_left x a.awaited (awaited_of ms) (subst (λ (z : Numbers). among x z.awaited ≡ true) (sym e) h)
among_waiter x (a ∷ ms) m (suc i) lt e h = has_right x a.awaited (awaited_of ms) (among_waiter x ms m i (omega arith) e h)

children_await_none : (k : ℕ) (n : Numbers) → awaited_of (children k n) ≡ []
children_await_none zero n = refl
children_await_none (suc k) n = children_await_none k (splitting n)

split_all : (k : ℕ) (n : Numbers) → (split_times k n).all ≡ n.all
split_all zero n = refl
split_all (suc k) n = split_all k (splitting n)

split_awaits : (k : ℕ) (n : Numbers) (x : List ℕ) → among x (split_times k n).awaited ≡ true → (among x n.awaited ≡ true) ⊎ ((among x (numbers_of (children k n)) ≡ true) × ((i : ℕ) × (x ≡ n.first ++ i ∷ [])))
split_awaits zero n x h = inl h
split_awaits (suc k) n x h = ⊎_elim
    (λ (a : (same x (next_number n) || among x n.awaited) ≡ true). ⊎_elim
    (λ (e : same x (next_number n) ≡ true). inr (has_left x (next_number n ∷ []) (numbers_of (children k (splitting n))) (or_left (same x (next_number n)) false e), (n.count, same_equal x (next_number n) e)))
    inl
    (either_of (same x (next_number n)) (among x n.awaited) a))
    (λ (b : (among x (numbers_of (children k (splitting n))) ≡ true) × ((i : ℕ) × (x ≡ n.first ++ i ∷ []))). inr (has_right x (next_number n ∷ []) (numbers_of (children k (splitting n))) b.0, b.1))
    (split_awaits k (splitting n) x h)

-- after so many splits of the first token, and joins in any order
pub many_whole : (k : ℕ) (ms : List Numbers) → IsPermutation (children k opening) ms → IsWhole (join_all (split_times k opening) ms)
many_whole k ms p = joined_whole (split_times k opening) ms
    (subst (λ (z : List (List ℕ)). among [] z ≡ true) (sym (split_all k opening)) refl)
    (λ x a h. ⊎_elim (λ (e : among x [] ≡ true). absurd (cc))
    (λ (t : (among x (numbers_of (children k opening)) ≡ true) × ((i : ℕ) × (x ≡ [] ++ i ∷ []))).
    let mine : among (t.1.0 ∷ []) ([] ∷ []) ≡ true = subst (λ (z : List ℕ). among z ([] ∷ []) ≡ true) t.1.1 (subst (λ (z : List (List ℕ)). among x z ≡ true) (split_all k opening) h) in absurd (cc))
    (split_awaits k opening x a))
    (λ x a. ⊎_elim
    (λ (b : among x (split_times k opening).awaited ≡ true). ⊎_elim (λ (e : among x [] ≡ true). absurd (cc))
    (λ (t : (among x (numbers_of (children k opening)) ≡ true) × ((i : ℕ) × (x ≡ [] ++ i ∷ []))).
    let o = owner_among x (children k opening) t.0 in let there = Contains-permutation (children k opening) ms o.0 p o.1 in
    has_right x (split_times k opening).all (numbers_of ms) (among_owner x ms o.0 there.0 there.1 there.2 o.2))
    (split_awaits k opening x b))
    (λ (b : among x (awaited_of ms) ≡ true). let o = waiter_among x ms b in let there = Contains-permutation ms (children k opening) o.0 (IsPermutation-sym (children k opening) ms p) o.1 in
    let w = among_waiter x (children k opening) o.0 there.0 there.1 there.2 o.2 in let q = subst (λ (z : List (List ℕ)). among x z ≡ true) (children_await_none k opening) w in absurd (cc))
    (has_either x (split_times k opening).awaited (awaited_of ms) a))

-- both parts of a token that was split are back and joined
pub back_joined : (n a b : Numbers) → IsBack (splitting n) a → IsBack (child n) b → IsBack n (joined a b)
back_joined n a b one two = record {
  kept = λ x h. has_left x a.all b.all (one.kept x h);
  awaited = λ x h. ⊎_elim
      (λ (p : among x a.awaited ≡ true). ⊎_elim
      (λ (e : same x (next_number n) ≡ true). absurd (without_lacks x (a.awaited ++ b.awaited) (a.all ++ b.all) h (has_right x a.all b.all (two.kept x (or_left (same x (next_number n)) false e)))))
      (λ q. q)
      (either_of (same x (next_number n)) (among x n.awaited) (one.awaited x p)))
      (λ (p : among x b.awaited ≡ true). let q : among x [] ≡ true = two.awaited x p in absurd (cc))
      (has_either x a.awaited b.awaited (without_within x (a.awaited ++ b.awaited) (a.all ++ b.all) h));
}

pub back_whole : (n m : Numbers) → IsBack n m → IsWhole n → IsWhole m
back_whole n m b w = (b.kept [] w.0, none_left m.awaited (λ x h. let q : among x [] ≡ true = subst (λ (z : List (List ℕ)). among x z ≡ true) w.1 (b.awaited x h) in absurd (cc)))

module _ {E : Type 0} where
  sub_step : (b d : Bool) (e : List ℕ × E) (p q : Log E) → (d ≡ true → b ≡ true) → (if b then e ∷ p else p) ≡ [] → (p ≡ [] → q ≡ []) → (if d then e ∷ q else q) ≡ []
  sub_step b true e p q sub h f = let t : b ≡ true = sub refl in let r = rw t at h in absurd (cc)
  sub_step true false e p q sub h f = absurd (cc)
  sub_step false false e p q sub h f = f h

  -- who has none of the entries has none of them by fewer numbers
  pub part_fewer : (ns ms : List (List ℕ)) (es : Log E) → ((x : List ℕ) → among x ms ≡ true → among x ns ≡ true) → part ns es ≡ [] → part ms es ≡ []
  part_fewer ns ms [] sub h = refl
  part_fewer ns ms (e ∷ es) sub h = sub_step (among e.0 ns) (among e.0 ms) e (part ns es) (part ms es) (sub e.0) h (part_fewer ns ms es sub)

  pub begins_later : (log mid seen : Log E) (ns ms : List (List ℕ)) → Begins log ns mid → Begins mid ms seen → ((x : List ℕ) → among x ms ≡ true → among x ns ≡ true) → Begins log ms seen
  begins_later log mid seen ns ms a b sub = (
    b.0 ++ a.0,
    a.1 ∙ (ap (λ (l : Log E). l ++ a.0) b.1 ∙ append_assoc seen b.0 a.0),
    part-append ms b.0 a.0 ∙ (λ i. b.2 i ++ part_fewer ns ms a.0 sub a.2 i),
  )

  pub part_all : (ns : List (List ℕ)) (es : Log E) → ((i : ℕ) (e : List ℕ × E) → At es i e → among e.0 ns ≡ true) → part ns es ≡ es
  part_all ns [] h = refl
  part_all ns (e ∷ es) h = rw (h zero e refl) (ap (λ (l : Log E). e ∷ l) (part_all ns es (λ i d p. h (suc i) d p)))

  -- where all entries are of these numbers, all was seen
  pub all_seen : (log seen : Log E) (ns : List (List ℕ)) → Begins log ns seen → ((i : ℕ) (e : List ℕ × E) → At log i e → among e.0 ns ≡ true) → log ≡ seen
  all_seen log seen ns b all =
      let none : b.0 ≡ [] = sym (part_all ns b.0 (λ i e p. let q = behind seen b.0 i e p in all q.0 e (subst (λ (l : Log E). At l q.0 e) (sym b.1) q.1))) ∙ b.2 in
      b.1 ∙ (ap (λ (l : Log E). seen ++ l) none ∙ append-nil seen)

  -- one take and one put
  pub extends : (v w : View E) (earlier : Log E) (e : E) → Has v.of v.of.first → Begins earlier v.of.all v.seen → w.seen ≡ earlier ++ (v.of.first, e) ∷ [] → w.of ≡ v.of → Extends v e w
  extends v w earlier e has b seen of = record {
    earlier = earlier;
    begins = b;
    seen = seen;
    own = ap (part v.of.all) seen ∙ (part-append v.of.all earlier ((v.of.first, e) ∷ []) ∙ (λ i. part-begins earlier v.seen v.of.all b i ++ part-mine v.of.all (v.of.first, e) has i));
    numbers = of;
  }

module _ {T E : Type 0} (stands : T → Log E → Type 0) where
  pub whole_sees : (x : T) (v : View E) → IsWhole v.of → (l : Leaves stands x v) → (l.log ≡ v.seen) × (part v.of.all l.log ≡ l.log) × stands x v.seen
  whole_sees x v whole l =
      let all = l.own whole in
      let seen = all_seen l.log v.seen v.of.all l.begins all in (seen, part_all v.of.all l.log all, subst (stands x) seen l.value)
