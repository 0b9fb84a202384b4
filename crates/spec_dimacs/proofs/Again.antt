-- The text that a formula is written as spells it.
use Rattle.std.proofs.Common.{◌≡◌, ℕ, zero, suc, ◌/◌, ◌%◌, ◌<◌, ◌≤◌, ◌^◌, Bool, true, false, cond, ◌&&◌, ◌==◌, nat_le, List, [], ◌∷◌, ◌++◌, map, flat_map, length, codes, pos, neg_ℤ, nat_abs, Option, Some, None, inl, refl, sym, ap, ap₂, ◌∙◌, subst, arith, append-nil}
use Rattle.std.specs.List.{list_all, join_with_byte}
use Rattle.std.proofs.lemmas.Bool.{leb-true, le-leb}
use Rattle.std.proofs.lemmas.List.{map-append}
use Rattle.mal_base.specs.Limits.{limits}
use Rattle.mal_base.specs.Formulas.{Formulated, is_within, is_clause_of, is_within_limits, is_formula}
use Rattle.mal_base.proofs.Sorting.{and-left, and-right, and-both}
use Rattle.spec_text.specs.Inputs.{words_of}
use Rattle.spec_text.specs.Lines.{text_of, IsRow, AreRows}
use Rattle.spec_text.specs.Numbers.{NumberWord, number_in, number_of, literal_word}
use Rattle.spec_text.specs.Numbers.NumberWord.{TooLarge, Number}
use Rattle.spec_text.proofs.Clean.{decimals_are_clean, literals_are_clean}
use Rattle.spec_text.proofs.Read.{lines_read_again, words_read_again}
use Rattle.spec_text.proofs.Numerals.{numbers_read_again, is_numeral-decimal, value_of-decimal}
use Rattle.spec_dimacs.specs.Rows.{is_passed, rows_of, counted_rows}
use Rattle.spec_dimacs.specs.Merged.{IsClauseOf, AreClausesOf}
use Rattle.spec_dimacs.specs.Grammar.{closed_numbers, words_in, Spells}
use Rattle.spec_dimacs.specs.Written.{closed_words, clause_words, header_words, formula_rows, spelling}
use Rattle.spec_dimacs.proofs.Numbers.{number-no_comment}
use Rattle.spec_dimacs.proofs.Behind.{counted_of, keeps_row}

-- the literals that a clause is written with
pub clause_lits : Option (List ℕ) → List ℕ
clause_lits None = 2 ∷ 3 ∷ []
clause_lits (Some lits) = lits

pub words-lits : (c : Option (List ℕ)) → clause_words c ≡ closed_words (clause_lits c)
unfolding clause_lits
words-lits None = refl
words-lits (Some lits) = refl

-- a literal's number is as great as its variable
abs-number_of : (lit : ℕ) → nat_abs (number_of lit) ≡ lit / 2
abs-number_of lit = by_sign (lit % 2 == 0) (lit / 2)
  where
    by_sign : (b : Bool) (n : ℕ) → nat_abs (cond b (pos n) (neg_ℤ (pos n))) ≡ n
    by_sign true n = refl
    by_sign false zero = refl
    by_sign false (suc n) = refl

pub literal_again : (v lit : ℕ) → v ≤ limits.variables → (nat_le 1 (lit / 2) && nat_le (lit / 2) v) ≡ true → number_in (literal_word lit) v ≡ Number (number_of lit)
literal_again v lit low h =
    let high : lit / 2 ≤ v = leb-true (lit / 2) v (and-right (nat_le 1 (lit / 2)) _ h) in
    let bound : nat_abs (number_of lit) ≤ v = omega (arith, abs-number_of lit) in
    numbers_read_again (number_of lit) v bound (omega arith)

zero_again : (v : ℕ) → number_in (codes "0") v ≡ Number (pos 0)
zero_again v = ap (λ (t : Bool). cond t (Number (pos 0)) TooLarge) (le-leb 0 v (omega arith))

-- the words of a clause say its numbers
pub clause_again : (v : ℕ) (lits : List ℕ) → v ≤ limits.variables → is_within v lits ≡ true → map (λ w. number_in w v) (closed_words lits) ≡ map (λ z. Number z) (closed_numbers lits)
clause_again v [] low h = ap (λ (x : NumberWord). x ∷ []) (zero_again v)
clause_again v (l ∷ ls) low h = ap₂ (λ (x : NumberWord) (xs : List NumberWord). x ∷ xs) (literal_again v l low (and-left _ _ h)) (clause_again v ls low (and-right (nat_le 1 (l / 2) && nat_le (l / 2) v) _ h))

pub lits_within : (v : ℕ) (c : Option (List ℕ)) → is_clause_of v c ≡ true → is_within v (clause_lits c) ≡ true
unfolding clause_lits
lits_within v None h = and-both _ _ (and-both _ _ refl h) (and-both _ _ (and-both _ _ refl h) refl)
lits_within v (Some lits) h = and-right _ _ h

clauses_again : (v : ℕ) (cs : List (Option (List ℕ))) → v ≤ limits.variables → list_all (is_clause_of v) cs ≡ true → map (λ w. number_in w v) (words_in (map clause_words cs)) ≡ map (λ z. Number z) (flat_map closed_numbers (map clause_lits cs))
clauses_again v [] low h = refl
clauses_again v (c ∷ cs) low h =
    map-append (λ w. number_in w v) (clause_words c) (words_in (map clause_words cs))
    ∙ ap₂ (λ (xs ys : List NumberWord). xs ++ ys)
    (ap (map (λ w. number_in w v)) (words-lits c) ∙ clause_again v (clause_lits c) low (lits_within v c (and-left _ _ h)))
    (clauses_again v cs low (and-right (is_clause_of v c) _ h))
    ∙ sym (map-append (λ z. Number z) (closed_numbers (clause_lits c)) (flat_map closed_numbers (map clause_lits cs)))

all_within : (v : ℕ) (cs : List (Option (List ℕ))) → list_all (is_clause_of v) cs ≡ true → list_all (is_within v) (map clause_lits cs) ≡ true
all_within v [] h = refl
all_within v (c ∷ cs) h = and-both _ _ (lits_within v c (and-left _ _ h)) (all_within v cs (and-right (is_clause_of v c) _ h))

made_of : (v : ℕ) (c : Option (List ℕ)) → is_clause_of v c ≡ true → IsClauseOf (clause_lits c) c
unfolding clause_lits
made_of v None h = (1, (0, omega arith, refl), (1, omega arith, refl))
made_of v (Some lits) h = (and-left _ _ h, record { there = λ x k. k; back = λ x k. k })

all_made : (v : ℕ) (cs : List (Option (List ℕ))) → list_all (is_clause_of v) cs ≡ true → AreClausesOf (map clause_lits cs) cs
all_made v [] h = tt
all_made v (c ∷ cs) h = (made_of v c (and-left _ _ h), all_made v cs (and-right (is_clause_of v c) _ h))

-- the lines are clean, and none is passed over
pub closed_row : (lits : List ℕ) → IsRow (closed_words lits)
closed_row [] = (omega arith, ((omega arith, (omega arith, tt)), tt))
closed_row (l ∷ ls) = let rest = closed_row ls in (omega arith, (literals_are_clean l, rest.1))

clause_rows : (cs : List (Option (List ℕ))) → AreRows (map clause_words cs)
clause_rows [] = tt
clause_rows (c ∷ cs) = (subst IsRow (sym (words-lits c)) (closed_row (clause_lits c)), clause_rows cs)

pub header_row : (v n : ℕ) → IsRow (header_words v n)
header_row v n = (omega arith, ((omega arith, (omega arith, tt)), ((omega arith, (omega arith, (omega arith, (omega arith, tt)))), (decimals_are_clean v, (decimals_are_clean n, tt)))))

pub closed_counts : (v : ℕ) (lits : List ℕ) → v ≤ limits.variables → is_within v lits ≡ true → is_passed (closed_words lits) ≡ false
closed_counts v [] low h = refl
closed_counts v (l ∷ ls) low h = number-no_comment (literal_word l) v (number_of l) (literal_again v l low (and-left _ _ h))

clauses_count : (v : ℕ) (cs : List (Option (List ℕ))) → v ≤ limits.variables → list_all (is_clause_of v) cs ≡ true → counted_of (map clause_words cs) ≡ map clause_words cs
clauses_count v [] low h = refl
clauses_count v (c ∷ cs) low h =
    keeps_row (clause_words c) (map clause_words cs) (ap is_passed (words-lits c) ∙ closed_counts v (clause_lits c) low (lits_within v c (and-left _ _ h)))
    ∙ ap (λ (rows : List (List (List ℕ))). clause_words c ∷ rows) (clauses_count v cs low (and-right (is_clause_of v c) _ h))

-- the words of the lines of a text are read again
words_again : (rows : List (List (List ℕ))) → AreRows rows → map words_of (map (join_with_byte 32) rows) ≡ rows
words_again [] h = refl
words_again (row ∷ rows) h = ap₂ (λ (r : List (List ℕ)) (rs : List (List (List ℕ))). r ∷ rs) (words_read_again row h.0.1) (words_again rows h.1)

pub rows_again : (rows : List (List (List ℕ))) → AreRows rows → rows_of (text_of rows) ≡ rows
rows_again rows h = ap (map words_of) (lines_read_again rows h) ∙ words_again rows h

pub written_rows : (f : Formulated) → f.variables ≤ limits.variables → list_all (is_clause_of f.variables) f.clauses ≡ true → counted_rows (spelling f) ≡ header_words f.variables (length f.clauses) ∷ (map clause_words f.clauses ++ [])
unfolding spelling
written_rows f low h =
    ap counted_of (rows_again (formula_rows f) (header_row f.variables (length f.clauses), clause_rows f.clauses))
    ∙ ap (λ (rows : List (List (List ℕ))). header_words f.variables (length f.clauses) ∷ rows) (clauses_count f.variables f.clauses low h ∙ sym (append-nil (map clause_words f.clauses)))

-- a formula in form is spelled by the text that it is written as
pub written_is_spelled : (f : Formulated) → is_formula f ≡ true → Spells (spelling f) f
written_is_spelled f h =
    let served : is_within_limits f.variables f.clauses ≡ true = and-left _ _ h in
    let forms : list_all (is_clause_of f.variables) f.clauses ≡ true = and-right (is_within_limits f.variables f.clauses) _ h in
    let low : f.variables ≤ limits.variables = leb-true f.variables limits.variables (and-left _ _ (and-left _ _ served)) in
    let few : length f.clauses ≤ limits.clauses = leb-true (length f.clauses) limits.clauses (and-right (nat_le f.variables limits.variables) _ (and-left _ _ served)) in
    let wide_v : f.variables < 2 ^ 64 = omega arith in
    let wide_n : length f.clauses < 2 ^ 64 = omega arith in
    record {
      header = header_words f.variables (length f.clauses);
      body = map clause_words f.clauses;
      tail = [];
      lists = map clause_lits f.clauses;
      rows = written_rows f low forms;
      opens = (_, _, refl, (is_numeral-decimal f.variables wide_v, value_of-decimal f.variables wide_v), (is_numeral-decimal (length f.clauses) wide_n, value_of-decimal (length f.clauses) wide_n));
      closed = clauses_again f.variables f.clauses low forms;
      within = all_within f.variables f.clauses forms;
      ends = inl refl;
      clauses = all_made f.variables f.clauses forms;
      limits = served;
    }
