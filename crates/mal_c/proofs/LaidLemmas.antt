-- Numbers that are laid over others, piece after piece.
use Rattle.std.proofs.Common.{◌≡◌, ℕ, zero, suc, ◌+◌, ◌<◌, ◌≤◌, ℤ, List, [], ◌∷◌, ◌++◌, length, length-append, map, take, pos, slice_set, slice_index_or, refl, sym, ap, ◌∙◌, subst, arith}
use Rattle.std.proofs.lemmas.List.{map_more, length-map, length-take-le, append_assoc}
use Rattle.mal_base.specs.Literals.{dimacs_of}
use Rattle.mal_base.specs.NumberedClause.{Line}
use Rattle.mal_c.specs.Numbers.{number_of_clause, numbers_of, laid}

-- nothing laid over numbers leaves them
pub laid-nothing : (at : ℕ) (olds : List ℤ) → laid at [] olds ≡ olds
laid-nothing at [] = refl
laid-nothing zero (old ∷ olds) = refl
laid-nothing (suc at) (old ∷ olds) = ap (λ (ns : List ℤ). old ∷ ns) (laid-nothing at olds)

-- one number is laid over that at its place
pub laid-one : (at : ℕ) (number : ℤ) (olds : List ℤ) → slice_set olds at number ≡ laid at (number ∷ []) olds
laid-one at number [] = refl
laid-one zero number (old ∷ olds) = ap (λ (ns : List ℤ). number ∷ ns) (sym (laid-nothing zero olds))
laid-one (suc at) number (old ∷ olds) = ap (λ (ns : List ℤ). old ∷ ns) (laid-one at number olds)

-- past the end there is nothing to lay over
pub laid-past : (at : ℕ) (numbers olds : List ℤ) → length olds ≤ at → olds ≡ laid at numbers olds
laid-past at numbers [] past = refl
laid-past zero numbers (old ∷ olds) past = absurd (omega (arith, past))
laid-past (suc at) numbers (old ∷ olds) past = ap (λ (ns : List ℤ). old ∷ ns) (laid-past at numbers olds (omega (arith, past)))

-- what is laid right after the first numbers is laid with them
pub laid-first : (before numbers olds : List ℤ) → laid (length before) numbers (laid 0 before olds) ≡ laid 0 (before ++ numbers) olds
laid-first before numbers [] = refl
laid-first [] numbers (old ∷ olds) = refl
laid-first (b ∷ bs) numbers (old ∷ olds) = ap (λ (ns : List ℤ). b ∷ ns) (laid-first bs numbers olds)

-- so it is from any place on
pub laid-after : (at : ℕ) (before numbers olds : List ℤ) → laid (at + length before) numbers (laid at before olds) ≡ laid at (before ++ numbers) olds
laid-after at before numbers [] = refl
laid-after zero before numbers (old ∷ olds) =
    let from : length before ≡ 0 + length before = omega arith in
    subst (λ (place : ℕ). laid place numbers (laid 0 before (old ∷ olds)) ≡ laid 0 (before ++ numbers) (old ∷ olds)) from (laid-first before numbers (old ∷ olds))
laid-after (suc at) before numbers (old ∷ olds) =
    let from : suc (at + length before) ≡ suc at + length before = omega arith in
    subst (λ (place : ℕ). laid place numbers (old ∷ laid at before olds) ≡ old ∷ laid at (before ++ numbers) olds) from (ap (λ (ns : List ℤ). old ∷ ns) (laid-after at before numbers olds))

-- one more of a list is laid after those before it
pub laid-next : {X : Type 0} (f : X → ℤ) (xs : List X) (at i : ℕ) (x : X) (olds : List ℤ) → i < length xs → laid (at + i) (f (slice_index_or xs i x) ∷ []) (laid at (map f (take i xs)) olds) ≡ laid at (map f (take (i + 1) xs)) olds
laid-next f xs at i x olds more =
    let count : length (map f (take i xs)) ≡ i = length-map (take i xs) f ∙ length-take-le i xs (omega (arith, more)) in
    rw (map_more f xs i x more) (subst (λ (n : ℕ). laid (at + n) (f (slice_index_or xs i x) ∷ []) (laid at (map f (take i xs)) olds) ≡ laid at (map f (take i xs) ++ f (slice_index_or xs i x) ∷ []) olds) count (laid-after at (map f (take i xs)) (f (slice_index_or xs i x) ∷ []) olds))

-- so it is where the place is told otherwise
pub laid-at-end : (place : ℕ) (before numbers olds news : List ℤ) → place ≡ length before → olds ≡ laid 0 before news → laid place numbers olds ≡ laid 0 (before ++ numbers) news
laid-at-end place before numbers olds news end e = rw (end, e) (laid-first before numbers news)

-- the five pieces of a line, laid one after another, are the line
pub laid-pieces : (id : ℤ) (lits hints zero₁ olds one two three four : List ℤ) (middle end : ℕ) → middle ≡ 1 + length lits → end ≡ middle + length zero₁ + length hints
    → one ≡ laid 0 (id ∷ []) olds → two ≡ laid 1 lits one → three ≡ laid middle zero₁ two → four ≡ laid (middle + length zero₁) hints three
    → laid end zero₁ four ≡ laid 0 (id ∷ (lits ++ (zero₁ ++ (hints ++ zero₁)))) olds
laid-pieces id lits hints zero₁ olds one two three four middle end at-middle at-end e₁ e₂ e₃ e₄ =
    let f₂ : two ≡ laid 0 (id ∷ lits) olds = e₂ ∙ laid-at-end 1 (id ∷ []) lits one olds refl e₁ in
    let f₃ : three ≡ laid 0 ((id ∷ lits) ++ zero₁) olds = e₃ ∙ laid-at-end middle (id ∷ lits) zero₁ two olds (omega (arith, at-middle)) f₂ in
    let count : length ((id ∷ lits) ++ zero₁) ≡ suc (length lits) + length zero₁ = length-append (id ∷ lits) zero₁ in
    let f₄ : four ≡ laid 0 (((id ∷ lits) ++ zero₁) ++ hints) olds = e₄ ∙ laid-at-end (middle + length zero₁) ((id ∷ lits) ++ zero₁) hints three olds (omega (arith, at-middle, count)) f₃ in
    let counts : length (((id ∷ lits) ++ zero₁) ++ hints) ≡ length ((id ∷ lits) ++ zero₁) + length hints = length-append ((id ∷ lits) ++ zero₁) hints in
    let whole : (((id ∷ lits) ++ zero₁) ++ hints) ++ zero₁ ≡ id ∷ (lits ++ (zero₁ ++ (hints ++ zero₁))) = append_assoc ((id ∷ lits) ++ zero₁) hints zero₁ ∙ append_assoc (id ∷ lits) zero₁ (hints ++ zero₁) in
    laid-at-end end (((id ∷ lits) ++ zero₁) ++ hints) zero₁ four olds (omega (arith, at-middle, at-end, count, counts)) f₄ ∙ ap (λ (ns : List ℤ). laid 0 ns olds) whole

-- how many numbers a line has
pub length-numbers : (line : Line) → length (numbers_of line) ≡ 1 + length line.lits + 1 + length line.hints + 1
length-numbers line =
    let lits : length (map dimacs_of line.lits) ≡ length line.lits = length-map line.lits dimacs_of in
    let hints : length (map number_of_clause line.hints) ≡ length line.hints = length-map line.hints number_of_clause in
    let rest : length (map number_of_clause line.hints ++ pos 0 ∷ []) ≡ length (map number_of_clause line.hints) + 1 = length-append (map number_of_clause line.hints) (pos 0 ∷ []) in
    let all : length (map dimacs_of line.lits ++ pos 0 ∷ (map number_of_clause line.hints ++ pos 0 ∷ [])) ≡ length (map dimacs_of line.lits) + suc (length (map number_of_clause line.hints ++ pos 0 ∷ [])) =
    length-append (map dimacs_of line.lits) (pos 0 ∷ (map number_of_clause line.hints ++ pos 0 ∷ [])) in
    omega (arith, lits, hints, rest, all)
