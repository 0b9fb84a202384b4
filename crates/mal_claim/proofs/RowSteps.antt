-- What rows of a proof give, one after another, and a checker that takes their lines.
use Rattle.std.proofs.Common.{◌≡◌, ◌<◌, ◌≤◌, ◌+◌, ℕ, suc, List, ◌∷◌, ◌++◌, map, Option, Some, None, Result, Ok, Err, refl, sym, ap, ap₂, ◌∙◌, arith}
use Rattle.spec_text.specs.Inputs.{lines_of, words_of}
use Rattle.spec_dimacs.specs.Rows.{rows_of}
use Rattle.spec_dimacs.specs.Reading.{◌>>=◌}
use Rattle.spec_logic.specs.Derivation.{Holding}
use Rattle.spec_logic.specs.Refutation.{ProofLine}
use Rattle.spec_lrat.specs.Reading as proof
use Rattle.mal_claim.specs.Proofs.{Numbered, Read, Verdict, first_fault, last_of, line_at, lines_from, read_of, row_at}
use Rattle.mal_claim.specs.Claims.{Fault, verdict_after}
use Rattle.mal_claim.specs.Judged.{IsAlike, IsSaid, IsVerdictOn}

abbrev Rows : Type 0
Rows = List (List (List ℕ))

abbrev Lines : Type 0
Lines = Result (List Numbered) (ℕ × proof.Fault)

abbrev Clauses : Type 0
Clauses = List (Option (List ℕ))

-- the rows of a text that is cut after its first line
pub cut-rows : (text line behind : List ℕ) → lines_of text ≡ line ∷ lines_of behind → rows_of text ≡ words_of line ∷ rows_of behind
cut-rows text line behind e = ap (map words_of) e

-- what follows a row that is read so
abbrev behind_row : ℕ → Rows → Read → Lines
behind_row number rows read = lines_from (suc number) read.last rows >>= λ others. Ok (read.lines ++ others)

row-read : (number last : ℕ) (row : List (List ℕ)) (rows all : Rows) (line : Option ProofLine) → all ≡ row ∷ rows → row_at number last row ≡ Ok (read_of number last line) → lines_from number last all ≡ (lines_from (suc number) (last_of last line) rows >>= λ others. Ok (line_at number line ++ others))
row-read number last row rows all line cut e = ap (lines_from number last) cut ∙ ap (λ (r : Result Read (ℕ × proof.Fault)). r >>= behind_row number rows) e

abbrev said_ok : Verdict → Result Verdict Fault
said_ok v = Ok v

-- the verdict is that of the checker after the row
pub verdict-goes : (h h' : Holding) (ad ad' : Clauses) (assumptions : List ℕ) (number last : ℕ) (line : Option ProofLine) (row : List (List ℕ)) (rows all : Rows) → all ≡ row ∷ rows → row_at number last row ≡ Ok (read_of number last line) → IsAlike (line_at number line) h ad h' ad'
    → verdict_after h' ad' assumptions (lines_from (suc number) (last_of last line) rows) ≡ verdict_after h ad assumptions (lines_from number last all)
verdict-goes h h' ad ad' assumptions number last line row rows all cut e alike =
    sym (ap (verdict_after h ad assumptions) (row-read number last row rows all line cut e) ∙ by_rest (lines_from (suc number) (last_of last line) rows))
  where
    by_rest : (r : Lines) → verdict_after h ad assumptions (r >>= λ others. Ok (line_at number line ++ others)) ≡ verdict_after h' ad' assumptions r
    by_rest (Ok others) = ap said_ok (alike assumptions others)
    by_rest (Err (n, f)) = refl

-- a refusal is the verdict where the rows after have no fault
pub refusal-said : (h : Holding) (ad : Clauses) (assumptions : List ℕ) (number last : ℕ) (read : Option ProofLine) (o : Option Verdict) (row : List (List ℕ)) (rows all : Rows) (w : Result Verdict Fault) → all ≡ row ∷ rows → row_at number last row ≡ Ok (read_of number last read) → IsVerdictOn o (line_at number read) h ad → first_fault (lines_from (suc number) (last_of last read) rows) ≡ Ok tt → verdict_after h ad assumptions (lines_from number last all) ≡ w → IsSaid o w
refusal-said h ad assumptions number last read None row rows all w cut e is q so_far = tt
refusal-said h ad assumptions number last read (Some v) row rows all w cut e is q so_far =
    sym so_far ∙ (ap (verdict_after h ad assumptions) (row-read number last row rows all read cut e) ∙ by_rest (lines_from (suc number) (last_of last read) rows) q)
  where
    by_rest : (r : Lines) → first_fault r ≡ Ok tt → verdict_after h ad assumptions (r >>= λ others. Ok (line_at number read ++ others)) ≡ Ok v
    by_rest (Ok others) q = ap said_ok (is assumptions others)
    by_rest (Err x) q = absurd (cc)

-- rows that are read for their faults alone
pub fault-goes : (number last : ℕ) (line : Option ProofLine) (row : List (List ℕ)) (rows all : Rows) → all ≡ row ∷ rows → row_at number last row ≡ Ok (read_of number last line) → first_fault (lines_from (suc number) (last_of last line) rows) ≡ first_fault (lines_from number last all)
fault-goes number last line row rows all cut e = sym (ap first_fault (row-read number last row rows all line cut e) ∙ by_rest (lines_from (suc number) (last_of last line) rows))
  where
    by_rest : (r : Lines) → first_fault (r >>= λ others. Ok (line_at number line ++ others)) ≡ first_fault r
    by_rest (Ok others) = refl
    by_rest (Err x) = refl

-- a step of a loop over the lines of a text
pub short-step : (number rest behind most : ℕ) → behind < rest → number + rest ≤ most → number + 1 + behind ≤ most
short-step number rest behind most l h = omega arith

pub fault-step : (number last next last' : ℕ) (line : Option ProofLine) (rest row behind : List ℕ) (w : Result (Unit {0}) (ℕ × proof.Fault)) → lines_of rest ≡ row ∷ lines_of behind → row_at number last (words_of row) ≡ Ok (read_of number last line) → next ≡ suc number → last' ≡ last_of last line
    → first_fault (lines_from number last (rows_of rest)) ≡ w → first_fault (lines_from next last' (rows_of behind)) ≡ w
fault-step number last next last' line rest row behind w cut e n l so_far =
    ap₂ (λ (a b : ℕ). first_fault (lines_from a b (rows_of behind))) n l
    ∙ (fault-goes number last line (words_of row) (rows_of behind) (rows_of rest) (cut-rows rest row behind cut) e ∙ so_far)

pub verdict-step : (h h' : Holding) (ad ad' : Clauses) (assumptions : List ℕ) (number last next last' : ℕ) (line : Option ProofLine) (rest row behind : List ℕ) (w : Result Verdict Fault) → lines_of rest ≡ row ∷ lines_of behind → row_at number last (words_of row) ≡ Ok (read_of number last line) → next ≡ suc number → last' ≡ last_of last line → IsAlike (line_at number line) h ad h' ad'
    → verdict_after h ad assumptions (lines_from number last (rows_of rest)) ≡ w → verdict_after h' ad' assumptions (lines_from next last' (rows_of behind)) ≡ w
verdict-step h h' ad ad' assumptions number last next last' line rest row behind w cut e n l alike so_far =
    ap₂ (λ (a b : ℕ). verdict_after h' ad' assumptions (lines_from a b (rows_of behind))) n l
    ∙ (verdict-goes h h' ad ad' assumptions number last line (words_of row) (rows_of behind) (rows_of rest) (cut-rows rest row behind cut) e alike ∙ so_far)

pub refusal-step : (h : Holding) (ad : Clauses) (assumptions : List ℕ) (number last next last' : ℕ) (line : Option ProofLine) (o : Option Verdict) (rest row behind : List ℕ) (w : Result Verdict Fault) → lines_of rest ≡ row ∷ lines_of behind → row_at number last (words_of row) ≡ Ok (read_of number last line) → next ≡ suc number → last' ≡ last_of last line → IsVerdictOn o (line_at number line) h ad
    → first_fault (lines_from next last' (rows_of behind)) ≡ Ok tt → verdict_after h ad assumptions (lines_from number last (rows_of rest)) ≡ w → IsSaid o w
refusal-step h ad assumptions number last next last' line o rest row behind w cut e n l is q so_far =
    refusal-said h ad assumptions number last line o (words_of row) (rows_of behind) (rows_of rest) w (cut-rows rest row behind cut) e is (sym (ap₂ (λ (a b : ℕ). first_fault (lines_from a b (rows_of behind))) n l) ∙ q) so_far
