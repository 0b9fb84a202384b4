-- What a split and a join do to the numbers of all tokens, and why a whole token has them all.
use Rattle.std.proofs.Common.{◌≡◌, ◌≢◌, ℕ, zero, suc, ◌+◌, ◌<◌, ◌≤◌, eqb, Bool, true, false, List, [], ◌∷◌, ◌++◌, length, set, if◌then◌else◌, refl, sym, ap, ◌∙◌, append_assoc, append-nil, subst, inl, inr, ◌⊎◌, ⊎_elim, arith, le_refl, eq-eqb, ne_eqb, length-append, length-set}
use mathlib.Core.Logic.{dite}
use mathlib.Core.Option as lean
use native.Mathlib.Decide.{ℕ_discrete}
use Rattle.atomic_table.proofs.Lists.{at_set, set_here, set_else, at_longer}
use Rattle.mal_turn.specs.declared.view.Numbers.{Numbers}
use Rattle.mal_turn.specs.Numbers.{same, among}
use Rattle.mal_turn.specs.Rule.{Log, At, Has, IsSpent, spent, next_number, splitting, child, joined, IsWhole, NumberRule}
use Rattle.mal_turn.proofs.Lists.{one_view}
use Rattle.mal_turn.proofs.Paths.{same_equal, same_refl, either_of, or_left, or_right, has_left, has_right, has_either, without_or, snoc_injective, not_itself, snoc_view}

pub at_end : {A : Type 0} (l : List A) (a b : A) (j : ℕ) → At (l ++ a ∷ []) j b → At l j b ⊎ ((j ≡ length l) × (a ≡ b))
at_end [] a b zero e = inr (refl, lean.some-injective a b e)
at_end [] a b (suc j) e = absurd (lean.some-ne-none b (sym e))
at_end (x ∷ xs) a b zero e = inl e
at_end (x ∷ xs) a b (suc j) e = ⊎_elim inl (λ t. inr (ap suc t.0, t.1)) (at_end xs a b j e)

pub within : {A : Type 0} (l : List A) (j : ℕ) (a : A) → At l j a → j < length l
within [] j a e = absurd (lean.some-ne-none a (sym e))
within (x ∷ xs) zero a e = omega arith
within (x ∷ xs) (suc j) a e = let h = within xs j a e in omega arith

-- the only number of a new token
child_has : (n : Numbers) (x : List ℕ) → Has (child n) x → x ≡ next_number n
child_has n x h = ⊎_elim (λ e. same_equal x (next_number n) e) (λ e. absurd (cc)) (either_of (same x (next_number n)) false h)

-- a token that has all that another had
record Like (n m : Numbers) : Type 0 where
  first : m.first ≡ n.first
  count : n.count ≤ m.count
  all : m.all ≡ n.all
  awaited : (y : List ℕ) → among y n.awaited ≡ true → among y m.awaited ≡ true

like_itself : (n : Numbers) → Like n n
like_itself n = record { first = refl; count = le_refl n.count; all = refl; awaited = λ y h. h }

like_split : (n : Numbers) → Like n (splitting n)
like_split n = record { first = refl; count = omega arith; all = refl; awaited = λ y h. or_right (same y (next_number n)) (among y n.awaited) h }

like_has : (n m : Numbers) (x : List ℕ) → Like n m → Has m x → Has n x
like_has n m x l h = subst (λ (z : List (List ℕ)). among x z ≡ true) l.all h

like_has_back : (n m : Numbers) (x : List ℕ) → Like n m → Has n x → Has m x
like_has_back n m x l h = subst (λ (z : List (List ℕ)). among x z ≡ true) (sym l.all) h

module _ {E : Type 0} (log : Log E) (token : List ℕ → ℕ) (ns : List Numbers) (r : NumberRule log token ns) where
  module _ (id : ℕ) (n : Numbers) (at : At ns id n) (has_first : Has n n.first) where
    abbrev ns' : List Numbers
    ns' = set ns id (splitting n) ++ child n ∷ []

    abbrev pub token_split : List ℕ → ℕ
    token_split x = if same x (next_number n) then length ns else token x

    pub new_is_fresh : (k : ℕ) (m : Numbers) → At ns k m → among (next_number n) m.all ≡ false
    new_is_fresh k m p = by_test (among (next_number n) m.all) refl where
      by_test : (b : Bool) → among (next_number n) m.all ≡ b → b ≡ false
      by_test true e = let l : n.count < n.count = r.fresh id k n.count n m at p has_first e in absurd (omega arith)
      by_test false e = refl

    not_new : (k : ℕ) (m : Numbers) → At ns k m → Has m (next_number n) → ⊥
    not_new k m p h = let f = new_is_fresh k m p in absurd (cc)

    token_same : (k : ℕ) (m : Numbers) (x : List ℕ) → At ns k m → Has m x → token_split x ≡ token x
    token_same k m x p h = by_test (same x (next_number n)) refl where
      by_test : (b : Bool) → same x (next_number n) ≡ b → (if b then length ns else token x) ≡ token x
      by_test true e = absurd (not_new k m p (subst (λ (z : List ℕ). Has m z) (same_equal x (next_number n) e) h))
      by_test false e = refl

    back : (k : ℕ) (m' : Numbers) → At ns' k m' → ((m : Numbers) × At ns k m × Like m m') ⊎ ((k ≡ length ns) × (child n ≡ m'))
    back k m' p = ⊎_elim
        (λ (q : At (set ns id (splitting n)) k m'). inl (⊎_elim
        (λ (t : (k ≡ id) × (splitting n ≡ m')). (n, subst (λ (z : ℕ). At ns z n) (sym t.0) at, subst (λ (z : Numbers). Like n z) t.1 (like_split n)))
        (λ (t : (k ≢ id) × At ns k m'). (m', t.1, like_itself m'))
        (at_set ns id k (splitting n) m' q)))
        (λ (q : (k ≡ length (set ns id (splitting n))) × (child n ≡ m')). inr (q.0 ∙ length-set ns id (splitting n), q.1))
        (at_end (set ns id (splitting n)) (child n) m' k p)

    left_there : At ns' id (splitting n)
    left_there = at_longer (set ns id (splitting n)) (child n ∷ []) id (splitting n) (set_here ns id (splitting n) (within ns id n at))

    forth : (k : ℕ) (m : Numbers) → At ns k m → (m' : Numbers) × At ns' k m' × Like m m'
    forth k m p = dite (ℕ_discrete k id)
        (λ e. (splitting n, subst (λ (z : ℕ). At ns' z (splitting n)) (sym e) left_there, subst (λ (z : Numbers). Like z (splitting n)) (sym (one_view ns k id m n p at e)) (like_split n)))
        (λ ne. (m, at_longer (set ns id (splitting n)) (child n ∷ []) k m (set_else ns id k (splitting n) ne ∙ p), like_itself m))

    pub own_split : (k : ℕ) (m : Numbers) (x : List ℕ) → At ns' k m → Has m x → k ≡ token_split x
    own_split k m x p h = ⊎_elim
        (λ (t : (m0 : Numbers) × At ns k m0 × Like m0 m). let h' = like_has t.0 m x t.2 h in r.own k t.0 x t.1 h' ∙ sym (token_same k t.0 x t.1 h'))
        (λ (t : (k ≡ length ns) × (child n ≡ m)). let e = child_has n x (subst (λ (z : Numbers). Has z x) (sym t.1) h) in t.0 ∙ sym (subst (λ (z : List ℕ). (if same z (next_number n) then length ns else token z) ≡ length ns) (sym e) (rw (same_refl (next_number n)) refl)))
        (back k m p)

    pub numbered_split : NumberRule log token_split ns'
    numbered_split = record {
      own = own_split;
      rooted = λ k m p. ⊎_elim
          (λ (t : (m0 : Numbers) × At ns k m0 × Like m0 m). ⊎_elim (λ (e : IsSpent t.0). inl (t.2.all ∙ e))
          (λ (h : Has t.0 t.0.first). inr (subst (λ (z : List ℕ). Has m z) (sym t.2.first) (like_has_back t.0 m t.0.first t.2 h))) (r.rooted k t.0 t.1))
          (λ (t : (k ≡ length ns) × (child n ≡ m)). inr (subst (λ (z : Numbers). Has z z.first) t.1 (or_left (same (next_number n) (next_number n)) false (same_refl (next_number n)))))
          (back k m p);
      fresh = λ j k i a b p q has next. ⊎_elim
          (λ (s : (a0 : Numbers) × At ns j a0 × Like a0 a). let first = s.2.first in let has0 : Has s.0 s.0.first = subst (λ (z : List ℕ). Has s.0 z) first (like_has s.0 a a.first s.2 has) in ⊎_elim
          (λ (t : (b0 : Numbers) × At ns k b0 × Like b0 b).
          let l : i < s.0.count = r.fresh j k i s.0 t.0 s.1 t.1 has0 (subst (λ (z : List ℕ). Has t.0 (z ++ i ∷ [])) first (like_has t.0 b (a.first ++ i ∷ []) t.2 next)) in let c = s.2.count in omega arith)
          (λ (t : (k ≡ length ns) × (child n ≡ b)).
          let e = snoc_injective a.first n.first i n.count (child_has n (a.first ++ i ∷ []) (subst (λ (z : Numbers). Has z (a.first ++ i ∷ [])) (sym t.1) next)) in
          let here : j ≡ id = r.own j s.0 s.0.first s.1 has0 ∙ (ap token (sym first ∙ e.0) ∙ sym (r.own id n n.first at has_first)) in
          let is : a ≡ splitting n = one_view ns' j id a (splitting n) p left_there here in
          let c : a.count ≡ n.count + 1 = ap (λ (z : Numbers). z.count) is in let d = e.1 in omega arith)
          (back k b q))
          (λ (s : (j ≡ length ns) × (child n ≡ a)). let next' : Has b (next_number n ++ i ∷ []) = subst (λ (z : Numbers). Has b (z.first ++ i ∷ [])) (sym s.1) next in ⊎_elim
          (λ (t : (b0 : Numbers) × At ns k b0 × Like b0 b). let d = r.parent k i t.0 (next_number n) t.1 (like_has t.0 b (next_number n ++ i ∷ []) t.2 next') in absurd (not_new (token (next_number n)) d.0 d.1 d.2))
          (λ (t : (k ≡ length ns) × (child n ≡ b)). absurd (not_itself (next_number n) i (child_has n (next_number n ++ i ∷ []) (subst (λ (z : Numbers). Has z (next_number n ++ i ∷ [])) (sym t.1) next'))))
          (back k b q))
          (back j a p);
      parent = λ k i m p q has. ⊎_elim
          (λ (t : (m0 : Numbers) × At ns k m0 × Like m0 m). let d = r.parent k i t.0 p t.1 (like_has t.0 m (p ++ i ∷ []) t.2 has) in let f = forth (token p) d.0 d.1 in (
            f.0,
            subst (λ (z : ℕ). At ns' z f.0) (sym (token_same (token p) d.0 p d.1 d.2)) f.1,
            like_has_back d.0 f.0 p f.2 d.2,
            ⊎_elim (λ h. inl (like_has_back d.0 f.0 (p ++ i ∷ []) f.2 h)) (λ h. inr (f.2.awaited (p ++ i ∷ []) h)) d.3,
          ))
          (λ (t : (k ≡ length ns) × (child n ≡ m)). let y = child_has n (p ++ i ∷ []) (subst (λ (z : Numbers). Has z (p ++ i ∷ [])) (sym t.1) has) in let e = snoc_injective p n.first i n.count y in
          let has_p : Has n p = subst (λ (z : List ℕ). Has n z) (sym e.0) has_first in (
            splitting n,
            subst (λ (z : ℕ). At ns' z (splitting n)) (r.own id n p at has_p ∙ sym (token_same id n p at has_p)) left_there,
            has_p,
            inr (or_left (same (p ++ i ∷ []) (next_number n)) (among (p ++ i ∷ []) n.awaited) (subst (λ (z : List ℕ). same z (next_number n) ≡ true) (sym y) (same_refl (next_number n)))),
          ))
          (back k m q);
      entered = λ i e p. let d = r.entered i e p in let f = forth (token e.0) d.0 d.1 in (f.0, subst (λ (z : ℕ). At ns' z f.0) (sym (token_same (token e.0) d.0 e.0 d.1 d.2)) f.1, like_has_back d.0 f.0 e.0 f.2 d.2);
    }

  -- of each number that a token has some token has its beginnings
  pub made_before : (q : List ℕ) (f : ℕ) (rest : List ℕ) → length rest ≤ f → (k : ℕ) (m : Numbers) → At ns k m → Has m (q ++ rest) → (j : ℕ) × (n : Numbers) × At ns j n × Has n q
  made_before q zero [] le k m p h = (k, m, p, subst (Has m) (append-nil q) h)
  made_before q zero (x ∷ rest) le k m p h = absurd (omega (arith, le))
  made_before q (suc f) rest le k m p h = ⊎_elim (λ (e : rest ≡ []). (k, m, p, subst (Has m) (ap (λ (l : List ℕ). q ++ l) e ∙ append-nil q) h))
      (λ (t : (x : List ℕ) × (i : ℕ) × (rest ≡ x ++ i ∷ [])).
      let long : length rest ≡ length (t.0 ++ t.1 ∷ []) = ap length t.2 in
      let d = r.parent k t.1 m (q ++ t.0) p (subst (Has m) (ap (λ (l : List ℕ). q ++ l) t.2 ∙ sym (append_assoc q t.0 (t.1 ∷ []))) h) in
      made_before q f t.0 (omega (arith, le, long, length-append t.0 (t.1 ∷ []))) (token (q ++ t.0)) d.0 d.1 d.2) (snoc_view rest)

  -- a whole token has each number that a token has
  pub whole_has : (id : ℕ) (n : Numbers) → At ns id n → IsWhole n → (f : ℕ) (x : List ℕ) → length x ≤ f → (k : ℕ) (m : Numbers) → At ns k m → Has m x → Has n x
  whole_has id n at whole zero x le k m p h = ⊎_elim (λ (e : x ≡ []). subst (λ (z : List ℕ). Has n z) (sym e) whole.0)
      (λ (t : (q : List ℕ) × (i : ℕ) × (x ≡ q ++ i ∷ [])). let l : length x ≡ length (t.0 ++ t.1 ∷ []) = ap length t.2 in absurd (omega (arith, length-append t.0 (t.1 ∷ [])))) (snoc_view x)
  whole_has id n at whole (suc f) x le k m p h = ⊎_elim (λ (e : x ≡ []). subst (λ (z : List ℕ). Has n z) (sym e) whole.0)
      (λ (t : (q : List ℕ) × (i : ℕ) × (x ≡ q ++ i ∷ [])). let l : length x ≡ length (t.0 ++ t.1 ∷ []) = ap length t.2 in
      let d = r.parent k t.1 m t.0 p (subst (λ (z : List ℕ). Has m z) t.2 h) in
      let up : Has n t.0 = whole_has id n at whole f t.0 (omega (arith, length-append t.0 (t.1 ∷ []))) (token t.0) d.0 d.1 d.2 in
      let is : d.0 ≡ n = one_view ns (token t.0) id d.0 n d.1 at (sym (r.own id n t.0 at up)) in
      subst (λ (z : List ℕ). Has n z) (sym t.2) (⊎_elim
      (λ has. subst (λ (z : Numbers). Has z (t.0 ++ t.1 ∷ [])) is has)
      (λ waits. let w : among (t.0 ++ t.1 ∷ []) [] ≡ true = subst (λ (z : List (List ℕ)). among (t.0 ++ t.1 ∷ []) z ≡ true) (ap (λ (z : Numbers). z.awaited) is ∙ whole.1) waits in absurd (cc))
      d.3)) (snoc_view x)

  module _ (id other : ℕ) (n m : Numbers) (at : At ns id n) (there : At ns other m) (apart : other ≢ id) (has_first : Has n n.first) where
    abbrev both : Numbers
    both = joined n m

    abbrev js : List Numbers
    js = set (set ns id both) other spent

    abbrev pub token_join : List ℕ → ℕ
    token_join x = if eqb (token x) other then id else token x

    token_of_other : (x : List ℕ) → other ≡ token x → token_join x ≡ id
    token_of_other x e = rw (eq-eqb (token x) other (sym e)) refl

    token_of_rest : (x : List ℕ) → token x ≢ other → token_join x ≡ token x
    token_of_rest x ne = rw (ne_eqb (token x) other ne) refl

    both_there : At js id both
    both_there = set_else (set ns id both) other id spent (λ e. apart (sym e)) ∙ set_here ns id both (within ns id n at)

    which : (k : ℕ) (a : Numbers) → At js k a → ((k ≡ other) × (spent ≡ a)) ⊎ (((k ≡ id) × (both ≡ a)) ⊎ ((k ≢ other) × (k ≢ id) × At ns k a))
    which k a p = ⊎_elim inl (λ (t : (k ≢ other) × At (set ns id both) k a). inr (⊎_elim inl (λ (u : (k ≢ id) × At ns k a). inr (t.0, u.0, u.1)) (at_set ns id k both a t.1))) (at_set (set ns id both) other k spent a p)

    -- who had a number that a token has
    had : (k : ℕ) (b : Numbers) (y : List ℕ) → At js k b → Has b y → (k0 : ℕ) × (b0 : Numbers) × At ns k0 b0 × Has b0 y × (k ≡ token_join y)
    had k b y p h = ⊎_elim (λ (t : (k ≡ other) × (spent ≡ b)). let z : Has spent y = subst (λ (z : Numbers). Has z y) (sym t.1) h in absurd (cc))
        (λ s. ⊎_elim
        (λ (t : (k ≡ id) × (both ≡ b)). ⊎_elim
        (λ (l : Has n y). let mine = r.own id n y at l in (id, n, at, l, t.0 ∙ (mine ∙ sym (token_of_rest y (λ e. apart (sym (mine ∙ e)))))))
        (λ (l : Has m y). (other, m, there, l, t.0 ∙ sym (token_of_other y (r.own other m y there l))))
        (has_either y n.all m.all (subst (λ (z : Numbers). Has z y) (sym t.1) h)))
        (λ (t : (k ≢ other) × (k ≢ id) × At ns k b). let mine = r.own k b y t.2 h in (k, b, t.2, h, mine ∙ sym (token_of_rest y (λ e. t.0 (mine ∙ e)))))
        s)
        (which k b p)

    -- who began with a token's first number
    began : (j : ℕ) (a : Numbers) → At js j a → Has a a.first → (j0 : ℕ) × (a0 : Numbers) × At ns j0 a0 × (a0.first ≡ a.first) × (a0.count ≡ a.count) × Has a0 a0.first
    began j a p h = ⊎_elim (λ (t : (j ≡ other) × (spent ≡ a)). let z : Has spent spent.first = subst (λ (z : Numbers). Has z z.first) (sym t.1) h in absurd (cc))
        (λ s. ⊎_elim (λ (t : (j ≡ id) × (both ≡ a)). (id, n, at, ap (λ (z : Numbers). z.first) t.1, ap (λ (z : Numbers). z.count) t.1, has_first)) (λ (t : (j ≢ other) × (j ≢ id) × At ns j a). (j, a, t.2, refl, refl, h)) s)
        (which j a p)

    onward : (k : ℕ) (b : Numbers) (p : List ℕ) → At ns k b → Has b p
        → (c : Numbers) × At js (token_join p) c × Has c p × ((y : List ℕ) → Has b y ⊎ (among y b.awaited ≡ true) → Has c y ⊎ (among y c.awaited ≡ true))
    onward k b p q h = let mine = r.own k b p q h in dite (ℕ_discrete k other)
        (λ e. let is : b ≡ m = one_view ns k other b m q there e in (
          both,
          subst (λ (z : ℕ). At js z both) (sym (token_of_other p (sym e ∙ mine))) both_there,
          has_right p n.all m.all (subst (λ (z : Numbers). Has z p) is h),
          λ y x. ⊎_elim (λ l. inl (has_right y n.all m.all (subst (λ (z : Numbers). Has z y) is l)))
              (λ l. without_or y (n.awaited ++ m.awaited) (n.all ++ m.all) (has_right y n.awaited m.awaited (subst (λ (z : Numbers). among y z.awaited ≡ true) is l))) x,
        ))
        (λ ne. let rest = token_of_rest p (λ e. ne (mine ∙ e)) in dite (ℕ_discrete k id)
        (λ e. let is : b ≡ n = one_view ns k id b n q at e in (
          both,
          subst (λ (z : ℕ). At js z both) (sym (rest ∙ (sym mine ∙ e))) both_there,
          has_left p n.all m.all (subst (λ (z : Numbers). Has z p) is h),
          λ y x. ⊎_elim (λ l. inl (has_left y n.all m.all (subst (λ (z : Numbers). Has z y) is l)))
              (λ l. without_or y (n.awaited ++ m.awaited) (n.all ++ m.all) (has_left y n.awaited m.awaited (subst (λ (z : Numbers). among y z.awaited ≡ true) is l))) x,
        ))
        (λ ne2. (
          b,
          subst (λ (z : ℕ). At js z b) (sym (rest ∙ sym mine)) (set_else (set ns id both) other k spent ne ∙ (set_else ns id k both ne2 ∙ q)),
          h,
          λ y x. x,
        )))

    pub own_join : (k : ℕ) (b : Numbers) (x : List ℕ) → At js k b → Has b x → k ≡ token_join x
    own_join k b x p h = (had k b x p h).4

    pub numbered_join : NumberRule log token_join js
    numbered_join = record {
      own = own_join;
      rooted = λ k b p. ⊎_elim (λ (t : (k ≡ other) × (spent ≡ b)). inl (subst IsSpent t.1 refl))
          (λ s. ⊎_elim (λ (t : (k ≡ id) × (both ≡ b)). inr (subst (λ (z : Numbers). Has z z.first) t.1 (has_left n.first n.all m.all has_first))) (λ (t : (k ≢ other) × (k ≢ id) × At ns k b). r.rooted k b t.2) s)
          (which k b p);
      fresh = λ j k i a b p q has next. let s = began j a p has in let t = had k b (a.first ++ i ∷ []) q next in
          let l : i < s.1.count = r.fresh s.0 t.0 i s.1 t.1 s.2 t.2 s.5 (subst (λ (z : List ℕ). Has t.1 (z ++ i ∷ [])) (sym s.3) t.3) in let c = s.4 in omega arith;
      parent = λ k i b p q has. let t = had k b (p ++ i ∷ []) q has in let d = r.parent t.0 i t.1 p t.2 t.3 in let f = onward (token p) d.0 p d.1 d.2 in (f.0, f.1, f.2, f.3 (p ++ i ∷ []) d.3);
      entered = λ i e p. let d = r.entered i e p in let f = onward (token e.0) d.0 e.0 d.1 d.2 in (f.0, f.1, f.2);
    }
