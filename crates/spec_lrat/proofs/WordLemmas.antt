-- What words say: numbers within their bounds, zeros, ids and literals.
use Rattle.std.proofs.Common.{◌≡◌, ℕ, zero, suc, ◌+◌, ◌*◌, ◌/◌, ◌%◌, ◌≤◌, Bool, true, false, cond, eqb, leb, ◌==◌, List, [], ◌∷◌, ℤ, pos, negsuc, neg_ℤ, Some, refl, sym, ap, ◌∙◌, subst, arith, codes}
use Rattle.std.specs.Prelude.{nat_abs, bytes_eq}
use Rattle.std.proofs.lemmas.Slice.Eq.{bytes_eq-Decides}
use Rattle.std.proofs.lemmas.Bool.{le-leb, lt-leb, leb-true, eq-eqb, ne_eqb, eqb-true, eqb-false, false_from_ne_true}
use Rattle.mal_base.specs.Limits.{limits}
use Rattle.spec_text.specs.Numbers.{NumberWord, number_of, number_in, magnitude_in, is_numeral, value_of, negated}
use Rattle.spec_text.specs.Numbers.NumberWord.{NotANumber, TooLarge, Number}
use Rattle.spec_lrat.specs.Grammar.{IsServed}
use Rattle.spec_lrat.specs.Reading.{says_zero, is_end, literal_said, id_said}

-- a word says 0 whatever the greatest magnitude is
negated-zero : (n : NumberWord) → says_zero (negated n) ≡ false
negated-zero NotANumber = refl
negated-zero TooLarge = refl
negated-zero (Number (pos zero)) = refl
negated-zero (Number (pos (suc k))) = refl
negated-zero (Number (negsuc k)) = refl

value-zero : (v m : ℕ) → says_zero (cond (leb v m) (Number (pos v)) TooLarge) ≡ says_zero (cond (leb v 0) (Number (pos v)) TooLarge)
value-zero zero m = rw (le-leb 0 m (omega arith), le-leb 0 0 (omega arith)) refl
value-zero (suc k) m = by_fit (leb (suc k) m) ∙ sym (ap (λ (b : Bool). says_zero (cond b (Number (pos (suc k))) TooLarge)) (lt-leb (suc k) 0 (omega arith)))
  where
    by_fit : (b : Bool) → says_zero (cond b (Number (pos (suc k))) TooLarge) ≡ false
    by_fit true = refl
    by_fit false = refl

magnitude-zero : (w : List ℕ) (m : ℕ) → says_zero (magnitude_in w m) ≡ says_zero (magnitude_in w 0)
magnitude-zero w m = by_numeral (is_numeral w)
  where
    by_numeral : (b : Bool) → says_zero (cond b (cond (leb (value_of w) m) (Number (pos (value_of w))) TooLarge) NotANumber) ≡ says_zero (cond b (cond (leb (value_of w) 0) (Number (pos (value_of w))) TooLarge) NotANumber)
    by_numeral true = value-zero (value_of w) m
    by_numeral false = refl

pub zero-any : (w : List ℕ) (m : ℕ) → is_end w ≡ says_zero (number_in w m)
zero-any [] m = refl
zero-any (b ∷ r) m = by_sign (b == 45)
  where
    by_sign : (s : Bool) → says_zero (cond s (negated (magnitude_in r 0)) (magnitude_in (b ∷ r) 0)) ≡ says_zero (cond s (negated (magnitude_in r m)) (magnitude_in (b ∷ r) m))
    by_sign true = negated-zero (magnitude_in r 0) ∙ sym (negated-zero (magnitude_in r m))
    by_sign false = sym (magnitude-zero (b ∷ r) m)

pub zero-said : (n : NumberWord) → says_zero n ≡ true → n ≡ Number (pos 0)
zero-said NotANumber e = absurd (cc)
zero-said TooLarge e = absurd (cc)
zero-said (Number (pos zero)) e = refl
zero-said (Number (pos (suc k))) e = absurd (cc)
zero-said (Number (negsuc k)) e = absurd (cc)

-- numbers are within the greatest magnitude
magnitude-bound : (w : List ℕ) (max : ℕ) (z : ℤ) → magnitude_in w max ≡ Number z → nat_abs z ≤ max
magnitude-bound w max z e = by_numeral (is_numeral w) (leb (value_of w) max) refl e
  where
    by_numeral : (b c : Bool) → leb (value_of w) max ≡ c → cond b (cond c (Number (pos (value_of w))) TooLarge) NotANumber ≡ Number z → nat_abs z ≤ max
    by_numeral true true f k = let same : pos (value_of w) ≡ z = cc in subst (λ (x : ℤ). nat_abs x ≤ max) same (leb-true (value_of w) max f)
    by_numeral true false f k = absurd (cc)
    by_numeral false c f k = absurd (cc)

negated-bound : (n : NumberWord) (max : ℕ) (z : ℤ) → ((y : ℤ) → n ≡ Number y → nat_abs y ≤ max) → negated n ≡ Number z → nat_abs z ≤ max
negated-bound NotANumber max z h e = absurd (cc)
negated-bound TooLarge max z h e = absurd (cc)
negated-bound (Number (pos zero)) max z h e = absurd (cc)
negated-bound (Number (pos (suc k))) max z h e = let same : negsuc k ≡ z = cc in subst (λ (x : ℤ). nat_abs x ≤ max) same (h (pos (suc k)) refl)
negated-bound (Number (negsuc k)) max z h e = let same : pos (suc k) ≡ z = cc in subst (λ (x : ℤ). nat_abs x ≤ max) same (h (negsuc k) refl)

pub number-bound : (w : List ℕ) (max : ℕ) (z : ℤ) → number_in w max ≡ Number z → nat_abs z ≤ max
number-bound [] max z e = absurd (cc)
number-bound (b ∷ r) max z e = by_sign (b == 45) e
  where
    by_sign : (s : Bool) → cond s (negated (magnitude_in r max)) (magnitude_in (b ∷ r) max) ≡ Number z → nat_abs z ≤ max
    by_sign true k = negated-bound (magnitude_in r max) max z (magnitude-bound r max) k
    by_sign false k = magnitude-bound (b ∷ r) max z k

-- a word that says a number is not `d`
pub no-d : (w : List ℕ) (max : ℕ) (z : ℤ) → number_in w max ≡ Number z → bytes_eq w (codes "d") ≡ false
no-d w max z e = false_from_ne_true (bytes_eq w (codes "d")) (λ t.
    let same : w ≡ codes "d" = (bytes_eq-Decides w (codes "d")).0 t in
    let bad : number_in (codes "d") max ≡ Number z = subst (λ (x : List ℕ). number_in x max ≡ Number z) same e in
    let none : number_in (codes "d") max ≡ NotANumber = refl in
    absurd (cc))

-- ids
pub id-said : (n : NumberWord) (id : ℕ) → n ≡ Number (pos id) → 1 ≤ id → id_said n ≡ Some id
id-said n zero e low = absurd (omega arith)
id-said n (suc k) e low = ap id_said e

pub id-back : (n : NumberWord) (id : ℕ) → id_said n ≡ Some id → (n ≡ Number (pos id)) × (1 ≤ id)
id-back NotANumber id e = absurd (cc)
id-back TooLarge id e = absurd (cc)
id-back (Number (pos zero)) id e = absurd (cc)
id-back (Number (pos (suc k))) id e = let same : suc k ≡ id = cc in (ap (λ (x : ℕ). Number (pos x)) same, (omega arith))
id-back (Number (negsuc k)) id e = absurd (cc)

-- literals
pub literal-said : (n : NumberWord) (l : ℕ) → n ≡ Number (number_of l) → 2 ≤ l → literal_said n ≡ Some l
literal-said n l e low = ap literal_said e ∙ by_sign (eqb (l % 2) 0) refl (l / 2) refl
  where
    by_sign : (b : Bool) → eqb (l % 2) 0 ≡ b → (v : ℕ) → l / 2 ≡ v → literal_said (Number (cond b (pos v) (neg_ℤ (pos v)))) ≡ Some l
    by_sign b f zero h = absurd (omega arith)
    by_sign true f (suc k) h = let even = eqb-true (l % 2) 0 f in ap Some (omega arith)
    by_sign false f (suc k) h = let odd = eqb-false (l % 2) 0 f in ap Some (omega arith)

number_of-even : (k : ℕ) → number_of (2 * k) ≡ pos k
number_of-even k =
    let even : eqb ((2 * k) % 2) 0 ≡ true = eq-eqb ((2 * k) % 2) 0 (omega arith) in
    let half : (2 * k) / 2 ≡ k = omega arith in
    rw (even, half) refl

number_of-odd : (k : ℕ) → number_of (2 * suc k + 1) ≡ negsuc k
number_of-odd k =
    let odd : eqb ((2 * suc k + 1) % 2) 0 ≡ false = ne_eqb ((2 * suc k + 1) % 2) 0 (λ e. omega arith) in
    let half : (2 * suc k + 1) / 2 ≡ suc k = omega arith in
    rw (odd, half) refl

pub literal-back : (n : NumberWord) (l : ℕ) → ((z : ℤ) → n ≡ Number z → nat_abs z ≤ limits.variables) → literal_said n ≡ Some l → (n ≡ Number (number_of l)) × IsServed l
literal-back NotANumber l h e = absurd (cc)
literal-back TooLarge l h e = absurd (cc)
literal-back (Number (pos zero)) l h e = absurd (cc)
literal-back (Number (pos (suc k))) l h e =
    let same : 2 * suc k ≡ l = cc in
    let high : suc k ≤ limits.variables = h (pos (suc k)) refl in
    (ap (λ (z : ℤ). Number z) (sym (number_of-even (suc k)) ∙ ap number_of same), (omega arith, omega arith))
literal-back (Number (negsuc k)) l h e =
    let same : 2 * suc k + 1 ≡ l = cc in
    let high : suc k ≤ limits.variables = h (negsuc k) refl in
    (ap (λ (z : ℤ). Number z) (sym (number_of-odd k) ∙ ap number_of same), (omega arith, omega arith))

-- a word that says a literal does not say 0
pub literal-no_zero : (n : NumberWord) (l : ℕ) → literal_said n ≡ Some l → says_zero n ≡ false
literal-no_zero NotANumber l e = refl
literal-no_zero TooLarge l e = refl
literal-no_zero (Number (pos zero)) l e = absurd (cc)
literal-no_zero (Number (pos (suc k))) l e = refl
literal-no_zero (Number (negsuc k)) l e = refl
