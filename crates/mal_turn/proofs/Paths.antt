-- Numbers of tokens and lists of them.
use Rattle.std.proofs.Common.{◌≡◌, ℕ, suc, ◌≤◌, Bool, true, false, ◌||◌, List, [], ◌∷◌, ◌++◌, length, if◌then◌else◌, refl, sym, ap, ◌∙◌, subst, inl, inr, ◌⊎◌, ⊎_elim, arith, eq-eqb, ne_eqb, length-append}
use mathlib.Core.Logic.{dite}
use native.Mathlib.Decide.{ℕ_discrete}
use Rattle.mal_turn.specs.Numbers.{same, among, without, part}
use Rattle.mal_turn.specs.Rule.{Log, At, Begins}
use Rattle.mal_turn.proofs.Lists.{part-append}

pub same_equal : (x y : List ℕ) → same x y ≡ true → x ≡ y
same_equal [] [] h = refl
same_equal [] (y ∷ ys) h = absurd (cc)
same_equal (x ∷ xs) [] h = absurd (cc)
same_equal (x ∷ xs) (y ∷ ys) h = dite (ℕ_discrete x y)
    (λ e. let t = rw (eq-eqb x y e) at h in let q = same_equal xs ys t in λ i. e i ∷ q i)
    (λ ne. let t = rw (ne_eqb x y ne) at h in absurd (cc))

pub same_refl : (x : List ℕ) → same x x ≡ true
same_refl [] = refl
same_refl (x ∷ xs) = rw (eq-eqb x x refl) (same_refl xs)

pub either_of : (a b : Bool) → (a || b) ≡ true → (a ≡ true) ⊎ (b ≡ true)
either_of true b h = inl refl
either_of false b h = inr h

pub or_right : (a b : Bool) → b ≡ true → (a || b) ≡ true
or_right true b h = refl
or_right false b h = h

pub or_left : (a b : Bool) → a ≡ true → (a || b) ≡ true
or_left true b h = refl
or_left false b h = absurd (cc)

or_assoc : (a b c : Bool) → (a || (b || c)) ≡ ((a || b) || c)
or_assoc true b c = refl
or_assoc false b c = refl

pub among-append : (x : List ℕ) (xs ys : List (List ℕ)) → among x (xs ++ ys) ≡ (among x xs || among x ys)
among-append x [] ys = refl
among-append x (y ∷ xs) ys = ap (λ (b : Bool). same x y || b) (among-append x xs ys) ∙ or_assoc (same x y) (among x xs) (among x ys)

pub has_left : (x : List ℕ) (xs ys : List (List ℕ)) → among x xs ≡ true → among x (xs ++ ys) ≡ true
has_left x xs ys h = among-append x xs ys ∙ or_left (among x xs) (among x ys) h

pub has_right : (x : List ℕ) (xs ys : List (List ℕ)) → among x ys ≡ true → among x (xs ++ ys) ≡ true
has_right x xs ys h = among-append x xs ys ∙ or_right (among x xs) (among x ys) h

pub has_either : (x : List ℕ) (xs ys : List (List ℕ)) → among x (xs ++ ys) ≡ true → (among x xs ≡ true) ⊎ (among x ys ≡ true)
has_either x xs ys h = either_of (among x xs) (among x ys) (sym (among-append x xs ys) ∙ h)

without_step : (b : Bool) (y a : List ℕ) (ns rest : List (List ℕ)) → among a ns ≡ b → (same y a ≡ true) ⊎ ((among y ns ≡ true) ⊎ (among y rest ≡ true))
    → (among y ns ≡ true) ⊎ (among y (if b then rest else a ∷ rest) ≡ true)
without_step true y a ns rest is h = ⊎_elim (λ e. inl (subst (λ (z : List ℕ). among z ns ≡ true) (sym (same_equal y a e)) is)) (λ q. q) h
without_step false y a ns rest is h = ⊎_elim (λ e. inr (or_left (same y a) (among y rest) e)) (λ q. ⊎_elim inl (λ t. inr (or_right (same y a) (among y rest) t)) q) h

-- what was among them is among the others, or is left
pub without_or : (y : List ℕ) (xs ns : List (List ℕ)) → among y xs ≡ true → (among y ns ≡ true) ⊎ (among y (without xs ns) ≡ true)
without_or y [] ns h = absurd (cc)
without_or y (a ∷ xs) ns h = without_step (among a ns) y a ns (without xs ns) refl (⊎_elim inl (λ q. inr (without_or y xs ns q)) (either_of (same y a) (among y xs) h))

pub snoc_injective : (p q : List ℕ) (i j : ℕ) → p ++ i ∷ [] ≡ q ++ j ∷ [] → (p ≡ q) × (i ≡ j)
snoc_injective [] [] i j e = (refl, cc)
snoc_injective [] (y ∷ q) i j e = let l : 1 ≡ suc (length (q ++ j ∷ [])) = ap length e in absurd (omega (arith, length-append q (j ∷ [])))
snoc_injective (x ∷ p) [] i j e = let l : suc (length (p ++ i ∷ [])) ≡ 1 = ap length e in absurd (omega (arith, length-append p (i ∷ [])))
snoc_injective (x ∷ p) (y ∷ q) i j e = let head : x ≡ y = cc in let tail : p ++ i ∷ [] ≡ q ++ j ∷ [] = cc in let r = snoc_injective p q i j tail in ((λ k. head k ∷ r.0 k), r.1)

pub not_itself : (p : List ℕ) (i : ℕ) → p ++ i ∷ [] ≡ p → ⊥
not_itself p i e = let l : length (p ++ i ∷ []) ≡ length p = ap length e in absurd (omega (arith, length-append p (i ∷ [])))

pub snoc_view : (x : List ℕ) → (x ≡ []) ⊎ ((p : List ℕ) × (i : ℕ) × (x ≡ p ++ i ∷ []))
snoc_view [] = inl refl
snoc_view (x ∷ xs) = ⊎_elim (λ (e : xs ≡ []). inr ([], x, ap (λ (l : List ℕ). x ∷ l) e)) (λ (t : (p : List ℕ) × (i : ℕ) × (xs ≡ p ++ i ∷ [])). inr (x ∷ t.0, t.1, ap (λ (l : List ℕ). x ∷ l) t.2)) (snoc_view xs)

module _ {E : Type 0} where
  pub part_none : (ns : List (List ℕ)) (es : Log E) → ((i : ℕ) (e : List ℕ × E) → At es i e → among e.0 ns ≡ false) → part ns es ≡ []
  part_none ns [] h = refl
  part_none ns (e ∷ es) h = rw (h 0 e refl) (part_none ns es (λ i d p. h (suc i) d p))

  both_step : (b c : Bool) (e : List ℕ × E) (p q r : Log E) → (if b then e ∷ p else p) ≡ [] → (if c then e ∷ q else q) ≡ [] → (p ≡ [] → q ≡ [] → r ≡ []) → (if (b || c) then e ∷ r else r) ≡ []
  both_step true c e p q r h k f = absurd (cc)
  both_step false true e p q r h k f = absurd (cc)
  both_step false false e p q r h k f = f h k

  pub part_both : (ns ms : List (List ℕ)) (es : Log E) → part ns es ≡ [] → part ms es ≡ [] → part (ns ++ ms) es ≡ []
  part_both ns ms [] h k = refl
  part_both ns ms (e ∷ es) h k = rw (among-append e.0 ns ms) (both_step (among e.0 ns) (among e.0 ms) e (part ns es) (part ms es) (part (ns ++ ms) es) h k (part_both ns ms es))

  pub empty_right : (xs ys : Log E) → xs ++ ys ≡ [] → ys ≡ []
  empty_right [] ys h = h
  empty_right (x ∷ xs) ys h = absurd (cc)

  -- of two beginnings of one list the longer goes on from the shorter
  pub goes_on : (a b ra rb : Log E) → a ++ ra ≡ b ++ rb → length a ≤ length b → (c : Log E) × (ra ≡ c ++ rb)
  goes_on [] b ra rb e le = (b, e)
  goes_on (x ∷ a) [] ra rb e le = absurd (omega arith)
  goes_on (x ∷ a) (y ∷ b) ra rb e le = let t : a ++ ra ≡ b ++ rb = cc in goes_on a b ra rb t (omega arith)

  -- what goes on from a longer beginning has none of these numbers either
  pub part_later : (ns : List (List ℕ)) (log a b rb : Log E) → Begins log ns a → log ≡ b ++ rb → length a ≤ length b → part ns rb ≡ []
  part_later ns log a b rb h e le = let c = goes_on a b h.0 rb (sym h.1 ∙ e) le in
      empty_right (part ns c.0) (part ns rb) (sym (part-append ns c.0 rb) ∙ (ap (part ns) (sym c.1) ∙ h.2))
