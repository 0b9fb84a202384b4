-- A written line is spelled by its words, which can stand in a line.
use Rattle.std.proofs.Common.{◌≡◌, ℕ, zero, suc, ◌/◌, ◌%◌, ◌≤◌, Bool, true, false, cond, eqb, List, [], ◌∷◌, ◌++◌, ℤ, pos, neg_ℤ, Option, Some, None, refl, ap, ap₂, subst, arith, codes}
use Rattle.std.specs.Prelude.{nat_abs, bytes_eq}
use Rattle.std.specs.List.{AllByRecursion}
use Rattle.std.proofs.lemmas.Slice.Eq.{bytes_eq-Decides}
use Rattle.std.proofs.lemmas.Bool.{false_from_ne_true}
use Rattle.mal_base.specs.Limits.{limits}
use Rattle.mal_base.proofs.Sorting.{Contains-head, Contains-later}
use Rattle.spec_text.specs.Lines.{IsClean, AreClean, IsRow}
use Rattle.spec_text.specs.Numbers.{NumberWord, number_of, number_in, decimal_word}
use Rattle.spec_text.specs.Numbers.NumberWord.{NotANumber, Number}
use Rattle.spec_text.proofs.Clean.{decimals_are_clean, literals_are_clean}
use Rattle.spec_logic.specs.Refutation.{ProofLine}
use Rattle.spec_logic.specs.Refutation.ProofLine.{Add, Delete}
use Rattle.spec_dimacs.specs.Merged.{IsClauseOf}
use Rattle.spec_lrat.specs.Reading.{greatest_id, behind_l}
use Rattle.spec_lrat.specs.Grammar.{IsServed, SayIds, SayLiterals, Spells}
use Rattle.spec_lrat.specs.Written.{written_lits, words_of_ids, words_of_lits, row_of}
use Rattle.spec_lrat.specs.Laws.{IsId, IsClause, IsLine, WrittenIsRead}
use Rattle.spec_lrat.proofs.NumeralLemmas.{decimal-again}
use Rattle.spec_text.proofs.Numerals.{numbers_read_again}
use Rattle.spec_lrat.proofs.SpelledLemmas.{spells-read}

-- the id of a line is not the word `l`
no-l : (w : List ℕ) (z : ℤ) (rest : List (List ℕ)) → number_in w greatest_id ≡ Number z → behind_l (w ∷ rest) ≡ w ∷ rest
no-l w z rest e = ap (λ (b : Bool). cond b rest (w ∷ rest)) (false_from_ne_true (bytes_eq w (codes "l")) (λ t.
    let same : w ≡ codes "l" = (bytes_eq-Decides w (codes "l")).0 t in
    let bad : number_in (codes "l") greatest_id ≡ Number z = subst (λ (x : List ℕ). number_in x greatest_id ≡ Number z) same e in
    let none : number_in (codes "l") greatest_id ≡ NotANumber = refl in
    absurd (cc)))

-- written ids say the ids
ids-say : (ids : List ℕ) → AllByRecursion IsId ids → SayIds (words_of_ids ids) ids
ids-say [] h = (refl, tt)
ids-say (id ∷ ids) h =
    let rest : SayIds (words_of_ids ids) ids = ids-say ids h.1 in
    (ap₂ (λ (x : NumberWord) (xs : List NumberWord). x ∷ xs) (decimal-again id greatest_id h.0.1 (omega arith)) rest.0, (h.0.0, rest.1))

-- written literals say the literals
literal-magnitude : (l : ℕ) → IsServed l → nat_abs (number_of l) ≤ limits.variables
literal-magnitude l h = by_sign (eqb (l % 2) 0) (l / 2) (omega (arith, h.1))
  where
    by_sign : (b : Bool) (v : ℕ) → v ≤ limits.variables → nat_abs (cond b (pos v) (neg_ℤ (pos v))) ≤ limits.variables
    by_sign true v k = k
    by_sign false zero k = k
    by_sign false (suc v) k = k

lits-say : (lits : List ℕ) → AllByRecursion IsServed lits → SayLiterals (words_of_lits lits) lits
lits-say [] h = (refl, tt)
lits-say (l ∷ ls) h =
    let rest : SayLiterals (words_of_lits ls) ls = lits-say ls h.1 in
    (ap₂ (λ (x : NumberWord) (xs : List NumberWord). x ∷ xs) (numbers_read_again (number_of l) limits.variables (literal-magnitude l h.0) (omega arith)) rest.0, (h.0, rest.1))

-- the written literals make the clause
lits-make : (c : Option (List ℕ)) → IsClause c → IsClauseOf (written_lits c) c
lits-make None h = (1, Contains-head 2 (3 ∷ []), Contains-later 2 (3 ∷ []) 3 (Contains-head 3 []))
lits-make (Some lits) h = (h.0, record { there = λ x k. k; back = λ x k. k })

lits-are : (c : Option (List ℕ)) → IsClause c → AllByRecursion IsServed (written_lits c)
lits-are None h = ((omega arith, omega arith), ((omega arith, omega arith), tt))
lits-are (Some lits) h = h.1

written-spelled : (last : ℕ) (line : ProofLine) → IsLine last line → Spells last (row_of line) line
written-spelled last (Add id clause hints) h =
    let says : number_in (decimal_word id) greatest_id ≡ Number (pos id) = decimal-again id greatest_id h.is_id.1 (omega arith) in
    record {
      id_word = decimal_word id;
      lit_words = words_of_lits (written_lits clause);
      hint_words = words_of_ids hints;
      lits = written_lits clause;
      row = no-l (decimal_word id) (pos id) (words_of_lits (written_lits clause) ++ words_of_ids hints) says;
      says_id = (says, h.is_id.0);
      rising = h.rising;
      says_lits = lits-say (written_lits clause) (lits-are clause h.is_clause);
      makes = lits-make clause h.is_clause;
      says_hints = ids-say hints h.are_ids;
    }
written-spelled last (Delete ids) h = record {
  id_word = codes "1";
  id = 1;
  id_words = words_of_ids ids;
  row = refl;
  says_id = (refl, omega arith);
  says_ids = ids-say ids h;
}

-- the words can stand in a line
zero-clean : IsClean (codes "0")
zero-clean = (omega arith, (omega arith, tt))

ids-clean : (ids : List ℕ) → AreClean (words_of_ids ids)
ids-clean [] = (zero-clean, tt)
ids-clean (id ∷ ids) = (decimals_are_clean id, ids-clean ids)

lits-clean : (lits : List ℕ) (rest : List (List ℕ)) → AreClean rest → AreClean (words_of_lits lits ++ rest)
lits-clean [] rest h = (zero-clean, h)
lits-clean (l ∷ ls) rest h = (literals_are_clean l, lits-clean ls rest h)

row-clean : (line : ProofLine) → IsRow (row_of line)
row-clean (Add id clause hints) = (omega arith, (decimals_are_clean id, lits-clean (written_lits clause) (words_of_ids hints) (ids-clean hints)))
row-clean (Delete ids) = (omega arith, ((omega arith, (omega arith, tt)), ((omega arith, (omega arith, tt)), ids-clean ids)))

pub written-read : WrittenIsRead
written-read last line h = (row-clean line, (spells-read last (row_of line) line).0 (written-spelled last line h))
