-- The claim of a refutation is read again, and verified.
use Rattle.std.proofs.Common.{◌≡◌, ℕ, suc, ◌<◌, ◌≤◌, ◌^◌, Bool, true, false, cond, not, ◌&&◌, ◌||◌, List, [], ◌∷◌, ◌++◌, map, length, codes, Option, ℤ, Ok, Result, inr, refl, sym, ap, ap₂, subst, ◌∙◌, arith}
use Rattle.std.specs.Prelude.{bytes_eq}
use Rattle.std.specs.List.{list_all}
use Rattle.std.proofs.lemmas.Bool.{false_from_ne_true, leb-true}
use Rattle.std.proofs.lemmas.Slice.Eq.{bytes_eq-Decides}
use Rattle.mal_base.specs.Formulas.{Formulated, is_clause_of, is_within, is_within_limits}
use Rattle.mal_base.specs.Limits.{limits}
use Rattle.mal_base.specs.NumberedClause.{Line}
use Rattle.mal_base.proofs.Sorting.{and-left, and-right}
use Rattle.spec_text.specs.Lines.{IsRow, AreRows}
use Rattle.spec_text.specs.Numbers.{decimal_word, is_numeral, literal_word, number_in, number_of}
use Rattle.spec_text.specs.Numbers.NumberWord.{NotANumber, Number}
use Rattle.spec_text.proofs.Numerals.{is_numeral-decimal}
use Rattle.spec_logic.specs.Refutation.{ProofLine, IsRefutation}
use Rattle.spec_dimacs.specs.Rows.{rows_of}
use Rattle.spec_dimacs.specs.Written.{closed_words, clause_words, formula_rows, spelling}
use Rattle.spec_dimacs.proofs.Again.{clause_lits, closed_row, header_row, lits_within, literal_again, rows_again, words-lits, written_is_spelled}
use Rattle.spec_script.proofs.Assumed.{assumptions-again}
use Rattle.spec_lrat.specs.Reading.{behind_l, reading, reading_of}
use Rattle.spec_lrat.specs.Laws.{IsLine, WrittenIsRead}
use Rattle.spec_lrat.specs.Written.{row_of}
use Rattle.spec_lrat.proofs.SpelledLemmas.{spells-read}
use Rattle.spec_proof.specs.Log.{added, proof_of}
use Rattle.spec_report.specs.Replies.{proof_row}
use Rattle.mal_instance.specs.Rows.{is_formula_row}
use Rattle.mal_claim.specs.Claims.{Claim, ending, judged, read_text, said, verdict_on}
use Rattle.mal_claim.specs.Grammar.{Spells}
use Rattle.mal_claim.specs.ProofGrammar.{SpellLines}
use Rattle.mal_claim.specs.Proofs.{Numbered, Verdict, bare}
use Rattle.mal_claim.specs.Proofs.Verdict.{Verified}
use Rattle.mal_claim.specs.Claims as claim
use Rattle.mal_claim.proofs.ReadLemmas.{spelled-is-read}
use Rattle.mal_claim.proofs.VerdictLemmas.{verified-refutation}
use Rattle.spec_promises.specs.Taken.{AreReadable, IsRefuted, RefutedIsTaken, claim_rows, claim_text}
use Rattle.spec_promises.proofs.Lines.{line-rows, tested}

-- ---- the lines of the proof

-- a number is not the word `l`
no-l : (n : ℕ) (rest : List (List ℕ)) → n < 2 ^ 64 → behind_l (decimal_word n ∷ rest) ≡ decimal_word n ∷ rest
no-l n rest h = ap (λ (b : Bool). cond b rest (decimal_word n ∷ rest)) (false_from_ne_true (bytes_eq (decimal_word n) (codes "l")) (λ t.
    let same : decimal_word n ≡ codes "l" = (bytes_eq-Decides (decimal_word n) (codes "l")).0 t in
    let digits : is_numeral (codes "l") ≡ true = subst (λ (w : List ℕ). is_numeral w ≡ true) same (is_numeral-decimal n h) in
    let none : is_numeral (codes "l") ≡ false = refl in
    absurd (cc)))

-- a line after the word `l` is read as without it
line-read : WrittenIsRead → (last : ℕ) (l : Line) → IsLine last (added l) → reading last (proof_row l) ≡ Ok (added l)
line-read law last l h =
    let most : l.id ≤ 2 ^ 62 = h.is_id.1 in
    let words : behind_l (row_of (added l)) ≡ row_of (added l) = no-l l.id _ (omega arith) in
    ap (reading_of last) (sym words) ∙ (law last (added l) h).1

-- the lines with their numbers in the text
numbered_from : ℕ → List Line → List Numbered
numbered_from number [] = []
numbered_from number (l ∷ ls) = record { number = number; line = added l } ∷ numbered_from (suc number) ls

bare-numbered : (number : ℕ) (ls : List Line) → bare (numbered_from number ls) ≡ proof_of ls
unfolding numbered_from
bare-numbered number [] = refl
bare-numbered number (l ∷ ls) = ap (λ (xs : List ProofLine). added l ∷ xs) (bare-numbered (suc number) ls)

lines-spelled : WrittenIsRead → (number last : ℕ) (ls : List Line) → AreReadable last ls → SpellLines number last (map proof_row ls) (numbered_from number ls)
unfolding numbered_from
lines-spelled law number last [] h = refl
lines-spelled law number last (l ∷ ls) h =
    inr (added l, numbered_from (suc number) ls, refl, (spells-read last (proof_row l) (added l)).1 (line-read law last l h.0), refl, lines-spelled law (suc number) l.id ls h.1)

-- ---- the lines of the formula

clause-rows : (cs : List (Option (List ℕ))) → AreRows (map clause_words cs)
clause-rows [] = tt
clause-rows (c ∷ cs) = (subst IsRow (sym (words-lits c)) (closed_row (clause_lits c)), clause-rows cs)

formula-are_rows : (f : Formulated) → AreRows (formula_rows f)
formula-are_rows f = (header_row f.variables (length f.clauses), clause-rows f.clauses)

append-rows : (xs ys : List (List (List ℕ))) → AreRows xs → AreRows ys → AreRows (xs ++ ys)
append-rows [] ys h k = k
append-rows (x ∷ xs) ys h k = (h.0, append-rows xs ys h.1 k)

assumed-row : (failed : List ℕ) → IsRow (codes "a" ∷ closed_words failed)
assumed-row failed = (omega arith, (tested (codes "a") refl, (closed_row failed).1))

proof-word : IsRow (codes "proof" ∷ [])
proof-word = (omega arith, (tested (codes "proof") refl, tt))

-- a number is no word that says none
no-word : (word other : List ℕ) (v : ℕ) (z : ℤ) → number_in word v ≡ Number z → number_in other v ≡ NotANumber → bytes_eq word other ≡ false
no-word word other v z says none = false_from_ne_true (bytes_eq word other) (λ t.
    let bad : number_in other v ≡ Number z = subst (λ (w : List ℕ). number_in w v ≡ Number z) ((bytes_eq-Decides word other).0 t) says in
    absurd (cc))

-- no line of a formula begins with `a` or `proof`
closed-inside : (v : ℕ) (lits : List ℕ) → v ≤ limits.variables → is_within v lits ≡ true → is_formula_row ending (closed_words lits) ≡ true
closed-inside v [] low h = refl
closed-inside v (l ∷ ls) low h =
    let says : number_in (literal_word l) v ≡ Number (number_of l) = literal_again v l low (and-left _ _ h) in
    ap₂ (λ (a b : Bool). not (a || (b || false))) (no-word (literal_word l) (codes "a") v (number_of l) says refl) (no-word (literal_word l) (codes "proof") v (number_of l) says refl)

clauses-inside : (v : ℕ) (cs : List (Option (List ℕ))) → v ≤ limits.variables → list_all (is_clause_of v) cs ≡ true → list_all (is_formula_row ending) (map clause_words cs) ≡ true
clauses-inside v [] low h = refl
clauses-inside v (c ∷ cs) low h =
    let one : is_formula_row ending (clause_words c) ≡ true = ap (is_formula_row ending) (words-lits c) ∙ closed-inside v (clause_lits c) low (lits_within v c (and-left _ _ h)) in
    ap₂ (λ (a b : Bool). a && b) one (clauses-inside v cs low (and-right (is_clause_of v c) _ h))

-- ---- the claim

claim-are_rows : (f : Formulated) (failed : List ℕ) (lines : List Line) → AreRows (claim_rows f failed lines)
claim-are_rows f failed lines =
    append-rows (formula_rows f) ((codes "a" ∷ closed_words failed) ∷ (codes "proof" ∷ []) ∷ map proof_row lines) (formula-are_rows f) (assumed-row failed, (proof-word, line-rows lines))

claim_for : Formulated → List ℕ → List Line → Claim
claim_for f failed lines = record { formula = f; assumptions = failed; lines = numbered_from 1 lines }

claim-spelled : WrittenIsRead → (f : Formulated) (failed : List ℕ) (lines : List Line) → IsRefuted f failed lines → Spells (claim_text f failed lines) (claim_for f failed lines)
unfolding claim_for spelling
claim-spelled law f failed lines h = record {
  first = spelling f;
  between = (codes "a" ∷ closed_words failed) ∷ [];
  last = map proof_row lines;
  rows = rows_again (claim_rows f failed lines) (claim-are_rows f failed lines) ∙ ap (λ (rows : List (List (List ℕ))). rows ++ (codes "a" ∷ closed_words failed) ∷ (codes "proof" ∷ []) ∷ map proof_row lines) (sym first);
  inside = ap (list_all (is_formula_row ending)) first ∙ clauses-inside f.variables f.clauses low forms;
  formula = written_is_spelled f h.formed;
  assumed = inr (closed_words failed, [], refl, assumptions-again f.variables failed low h.rising h.within, refl);
  lines = lines-spelled law 1 (length f.clauses) lines h.readable;
}
  where
    first : rows_of (spelling f) ≡ formula_rows f
    first = rows_again (formula_rows f) (formula-are_rows f)

    served : is_within_limits f.variables f.clauses ≡ true
    served = and-left _ _ h.formed

    forms : list_all (is_clause_of f.variables) f.clauses ≡ true
    forms = and-right (is_within_limits f.variables f.clauses) _ h.formed

    low : f.variables ≤ limits.variables
    low = leb-true f.variables limits.variables (and-left _ _ (and-left _ _ served))

as_said : Verdict → Result Verdict claim.Fault
as_said v = Ok v

pub refuted_is_taken : WrittenIsRead → RefutedIsTaken
unfolding claim_for as_said
refuted_is_taken law f failed lines h =
    let c : Claim = claim_for f failed lines in
    let read : read_text (claim_text f failed lines) ≡ Ok c = (spelled-is-read (claim_text f failed lines) c).0 (claim-spelled law f failed lines h) in
    let lines_are : IsRefutation f.clauses failed (bare (numbered_from 1 lines)) = subst (IsRefutation f.clauses failed) (sym (bare-numbered 1 lines)) h.refuted in
    let verdict : verdict_on c ≡ Verified = (verified-refutation f.clauses failed (numbered_from 1 lines)).1 lines_are in
    ap judged read ∙ ap as_said verdict
