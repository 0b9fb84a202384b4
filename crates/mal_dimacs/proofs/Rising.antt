-- Literals that rise, with one more after them.
use Rattle.std.proofs.Common.{◌≡◌, ℕ, suc, ◌-◌, ◌/◌, Bool, true, false, ◌&&◌, List, [], ◌∷◌, ◌++◌, length, nat_lt, slice_get, Some, refl, ap, sym, ◌∙◌, arith}
use Rattle.mal_base.specs.Clauses.{rises}

-- literals that do not rise do not with one more after them
pub no_rise : (lits : List ℕ) (lit : ℕ) → rises lits ≡ false → rises (lits ++ lit ∷ []) ≡ false
no_rise [] lit e = absurd (cc)
no_rise (l ∷ []) lit e = absurd (cc)
no_rise (l ∷ m ∷ ms) lit e = at_first (nat_lt (l / 2) (m / 2)) (rises (m ∷ ms)) (rises ((m ∷ ms) ++ lit ∷ [])) e (no_rise (m ∷ ms) lit)
  where
    at_first : (b c d : Bool) → (b && c) ≡ false → (c ≡ false → d ≡ false) → (b && d) ≡ false
    at_first true c d e f = f e
    at_first false c d e f = refl

and_true : (b : Bool) → (b && true) ≡ b
and_true true = refl
and_true false = refl

-- literals that rise still do where the last one has a smaller variable
pub rise_behind : (lits : List ℕ) (lit last : ℕ) → rises lits ≡ true → slice_get lits (length lits - 1) ≡ Some last → rises (lits ++ lit ∷ []) ≡ nat_lt (last / 2) (lit / 2)
rise_behind [] lit last up e = absurd (cc)
rise_behind (l ∷ []) lit last up e =
    let same : l ≡ last = cc in
    and_true (nat_lt (l / 2) (lit / 2)) ∙ ap (λ (first : ℕ). nat_lt (first / 2) (lit / 2)) same
rise_behind (l ∷ m ∷ ms) lit last up e = at_first (nat_lt (l / 2) (m / 2)) (rises (m ∷ ms)) (rises ((m ∷ ms) ++ lit ∷ [])) (nat_lt (last / 2) (lit / 2)) up (λ rest. rise_behind (m ∷ ms) lit last rest behind)
  where
    behind : slice_get (m ∷ ms) (length (m ∷ ms) - 1) ≡ Some last
    behind =
        let whole : length (l ∷ m ∷ ms) - 1 ≡ suc (length ms) = omega arith in
        let short : length (m ∷ ms) - 1 ≡ length ms = omega arith in
        ap (slice_get (m ∷ ms)) short ∙ (ap (slice_get (l ∷ m ∷ ms)) (sym whole) ∙ e)

    at_first : (b c d goal : Bool) → (b && c) ≡ true → (c ≡ true → d ≡ goal) → (b && d) ≡ goal
    at_first true c d goal up f = f up
    at_first false c d goal up f = absurd (cc)
