-- The assumptions that words say are read, and those of a written line are said by its words.
use Rattle.std.proofs.Common.{◌≡◌, ℕ, zero, suc, ◌/◌, ◌≤◌, ◌<◌, Bool, true, false, cond, ◌==◌, ◌&&◌, nat_lt, nat_le, List, [], ◌∷◌, ◌++◌, map, ℤ, pos, negsuc, Some, None, Result, Ok, refl, sym, ap, ◌∙◌, arith, append_assoc, append-nil}
use Rattle.std.proofs.lemmas.Bool.{leb-true, ltb-true}
use Rattle.std.proofs.lemmas.Bool.Decides.{nat_tests}
use Rattle.mal_base.specs.Limits.{limits}
use Rattle.mal_base.specs.Clauses.{rises, clash, clash_after}
use Rattle.mal_base.specs.Formulas.{is_within}
use Rattle.mal_base.proofs.Sorting.{and-left, and-right, climbs-from_rises}
use Rattle.spec_text.specs.Numbers.{NumberWord, number_of}
use Rattle.spec_text.specs.Numbers.NumberWord.{Number}
use Rattle.spec_dimacs.specs.Merged.{sorted}
use Rattle.spec_dimacs.specs.Grammar.{closed_numbers}
use Rattle.spec_dimacs.specs.Reading.{◌>>=◌, code_of}
use Rattle.spec_dimacs.specs.Written.{closed_words}
use Rattle.spec_dimacs.proofs.Numbers.{code_of-number_of}
use Rattle.spec_dimacs.proofs.Again.{clause_again}
use Rattle.mal_base.specs.declared.line_fault.LineFault.{LineFault}
use Rattle.spec_script.specs.Assumptions.{literals_from, consistent, assumptions_in}
use Rattle.spec_script.specs.Grammar.{Assumes}
use Rattle.spec_script.specs.Laws.{AssumptionsAreRead}
use Rattle.spec_script.proofs.AssumedForms.{read-assumes}
use Rattle.spec_script.proofs.Sorted.{sorted-unique}

abbrev lits_read : List ℕ → Result (List ℕ) LineFault
lits_read lits = Ok lits

-- a number that stands for a literal is after those before it
literal-behind : (lits : List ℕ) (code : ℕ) (z : ℤ) (words : List NumberWord) → 2 ≤ code → code_of z ≡ code → literals_from lits false (Number z ∷ words) ≡ literals_from (lits ++ code ∷ []) false words
literal-behind lits code (pos zero) words low e = let none : 0 ≡ code = e in absurd (omega arith)
literal-behind lits code (pos (suc n)) words low e = ap (λ (l : ℕ). literals_from (lits ++ l ∷ []) false words) e
literal-behind lits code (negsuc n) words low e = ap (λ (l : ℕ). literals_from (lits ++ l ∷ []) false words) e

literals-behind : (lits acc : List ℕ) (v : ℕ) → is_within v lits ≡ true → literals_from acc false (map (λ z. Number z) (closed_numbers lits)) ≡ Ok (acc ++ lits)
literals-behind [] acc v h = ap lits_read (sym (append-nil acc))
literals-behind (l ∷ ls) acc v h =
    let some : 1 ≤ l / 2 = leb-true 1 (l / 2) (and-left _ _ (and-left _ _ h)) in
    let low : 2 ≤ l = omega arith in
    literal-behind acc l (number_of l) (map (λ z. Number z) (closed_numbers ls)) low (code_of-number_of l low)
    ∙ literals-behind ls (acc ++ l ∷ []) v (and-right (nat_le 1 (l / 2) && nat_le (l / 2) v) _ h)
    ∙ ap lits_read (append_assoc acc (l ∷ []) ls)

-- literals that rise by variable have no clash
rises-clash : (l : ℕ) (ls : List ℕ) → rises (l ∷ ls) ≡ true → clash_after (l / 2) ls ≡ None
rises-clash l [] h = refl
rises-clash l (m ∷ ms) h =
    let less : l / 2 < m / 2 = ltb-true (l / 2) (m / 2) (and-left _ _ h) in
    let other : (m / 2 == l / 2) ≡ false = apart (l / 2) (m / 2) less in
    ap (λ (b : Bool). cond b (Some (l / 2)) (clash_after (m / 2) ms)) other ∙ rises-clash m ms (and-right (nat_lt (l / 2) (m / 2)) _ h)
  where
    apart : (x y : ℕ) → x < y → (y == x) ≡ false
    apart x y less = grind (arith, nat_tests)

no-clash : (lits : List ℕ) → rises lits ≡ true → clash lits ≡ None
no-clash [] h = refl
no-clash (l ∷ ls) h = rises-clash l ls h

-- assumptions that words say are read
pub assumes-read : (v : ℕ) (words : List (List ℕ)) (lits : List ℕ) → Assumes v words lits → assumptions_in v words ≡ Ok lits
assumes-read v words lits is =
    ap (λ (ws : List NumberWord). literals_from [] false ws >>= λ ls. consistent (sorted ls) (clash (sorted ls))) is.closed
    ∙ ap (λ (r : Result (List ℕ) LineFault). r >>= λ ls. consistent (sorted ls) (clash (sorted ls))) (literals-behind is.lits [] v is.within)
    ∙ ap (λ (ls : List ℕ). consistent ls (clash ls)) (sym (sorted-unique is.lits lits (climbs-from_rises lits is.once.0) is.once.1))
    ∙ ap (consistent lits) (no-clash lits is.once.0)

pub assumptions_are_read : AssumptionsAreRead
assumptions_are_read v words lits = (assumes-read v words lits, read-assumes v words lits)

-- assumptions in form are said by the words that they are written as
pub assumptions-again : (v : ℕ) (lits : List ℕ) → v ≤ limits.variables → rises lits ≡ true → is_within v lits ≡ true → Assumes v (closed_words lits) lits
assumptions-again v lits low up h = record { lits = lits; closed = clause_again v lits low h; within = h; once = (up, record { there = λ x k. k; back = λ x k. k }) }
