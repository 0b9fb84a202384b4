-- Reading a claim that nothing satisfies a formula and assumptions, with its proof: the claim, or the first fault.
use Rattle.std.specs.Prelude.{ℕ, suc, Bool, List, [], ◌∷◌, length, codes, if◌then◌else◌, Option, Result, Ok, Err}
use Rattle.std.specs.List.{list_any}
use Rattle.mal_base.specs.Formulas.{Formulated}
use Rattle.mal_base.specs.declared.block_fault.BlockFault.{BlockFault}
use Rattle.spec_text.specs.Inputs.{is_word_line}
use Rattle.spec_dimacs.specs.Rows.{is_passed, rows_of}
use Rattle.spec_dimacs.specs.Reading.{◌>>=◌}
use Rattle.mal_base.specs.declared.line_fault.LineFault.{LineFault}
use Rattle.mal_base.specs.declared.line_fault.LineFault.TheVariants.{BadLine, Dimacs}
use Rattle.spec_script.specs.Assumptions.{assumptions_of}
use Rattle.spec_lrat.specs.Reading as proof
use Rattle.mal_instance.specs.Rows.{formula_of, formula_rows, rows_after}
use Rattle.spec_logic.specs.Derivation.{Holding}
use Rattle.mal_claim.specs.Proofs.{Numbered, Verdict, lines_from, verdict_from, verdict_of}

-- a formula, assumptions, and the lines of a proof that nothing satisfies both
pub record Claim : Type 0 where
  pub formula : Formulated
  pub assumptions : List ℕ
  pub lines : List Numbered

-- the first fault of a text: no line says `proof`, a line before that one is wrong, or a line of the proof, which are
-- numbered from 1 on after it
pub data Fault : Type 0 where
  NoProof : Fault
  InFormula : (line : ℕ) → (fault : LineFault) → Fault
  InProof : (line : ℕ) → (fault : proof.Fault) → Fault

-- the line of the one word `proof`
abbrev pub is_proof_line : List (List ℕ) → Bool
is_proof_line row = is_word_line (codes "proof") row

-- the words that a line of the formula does not begin with
abbrev pub ending : List (List ℕ)
ending = codes "a" ∷ codes "proof" ∷ []

-- a fault of the formula, and one of a line before the line `proof`
abbrev pub in_formula : {A : Type 0} → Result A (ℕ × BlockFault) → Result A Fault
in_formula (Ok x) = Ok x
in_formula (Err (line, fault)) = Err (InFormula line (Dimacs fault))

abbrev pub in_line : {A : Type 0} → ℕ → Result A LineFault → Result A Fault
in_line line (Ok x) = Ok x
in_line line (Err fault) = Err (InFormula line fault)

-- a fault of the proof
abbrev pub in_proof : {A : Type 0} → Result A (ℕ × proof.Fault) → Result A Fault
in_proof (Ok x) = Ok x
in_proof (Err (line, fault)) = Err (InProof line fault)

-- the assumptions, and the lines after the line `proof`
pub record Assumed : Type 0 where
  pub assumptions : List ℕ
  pub rows : List (List (List ℕ))

-- between the line of the assumptions and the line `proof` only such lines stand as are passed over
abbrev pub to_proof : List ℕ → ℕ → List (List (List ℕ)) → Result Assumed Fault
to_proof lits line [] = Err NoProof
to_proof lits line (row ∷ rows) =
    if is_proof_line row then Ok (record { assumptions = lits; rows = rows })
    else if is_passed row then to_proof lits (suc line) rows
    else Err (InFormula (suc line) BadLine)

-- after so many lines of the formula stands the line `proof`, or the line of the assumptions
abbrev pub assumed : ℕ → ℕ → List (List (List ℕ)) → Result Assumed Fault
assumed variables line [] = Err NoProof
assumed variables line (row ∷ rows) =
    if is_proof_line row then Ok (record { assumptions = []; rows = rows })
    else in_line (suc line) (assumptions_of variables row) >>= λ lits. to_proof lits (suc line) rows

-- the claim of this formula and what stands after it
abbrev pub claim_of : Formulated → Assumed → Result Claim Fault
claim_of f a = in_proof (lines_from 1 (length f.clauses) a.rows) >>= λ lines. Ok (record { formula = f; assumptions = a.assumptions; lines = lines })

-- a text up to the line `proof`
pub record Opened : Type 0 where
  pub formula : Formulated
  pub assumed : Assumed

abbrev pub opened : List (List (List ℕ)) → Result Opened Fault
opened rows =
    in_formula (formula_of ending rows)
    >>= λ f. assumed f.variables (length (formula_rows ending rows)) (rows_after ending rows)
    >>= λ a. Ok (record { formula = f; assumed = a })

-- the lines of a text in which a line says `proof`
abbrev pub read_lines : List (List (List ℕ)) → Result Claim Fault
read_lines rows =
    in_formula (formula_of ending rows)
    >>= λ f. assumed f.variables (length (formula_rows ending rows)) (rows_after ending rows)
    >>= claim_of f

-- the claim of a text, or its first fault; the line `proof` is looked for before anything else is read
abbrev pub read_text : List ℕ → Result Claim Fault
read_text text = if list_any is_proof_line (rows_of text) then read_lines (rows_of text) else Err NoProof

-- the verdict on the proof of a claim
abbrev pub verdict_on : Claim → Verdict
verdict_on c = verdict_of c.formula.clauses c.assumptions c.lines

-- what is said of a text: the verdict on its proof, or its first fault
abbrev pub judged : Result Claim Fault → Result Verdict Fault
judged read = read >>= λ c. Ok (verdict_on c)

abbrev pub said : List ℕ → Result Verdict Fault
said text = judged (read_text text)

-- the same of lines among which one says `proof`, and of what stands after that one
abbrev pub said_of_rows : List (List (List ℕ)) → Result Verdict Fault
said_of_rows rows = judged (read_lines rows)

abbrev pub said_behind : Opened → Result Verdict Fault
said_behind o = judged (claim_of o.formula o.assumed)

-- the verdict on lines that are read, of a checker that holds so much, and has added so much
abbrev pub verdict_after : Holding → List (Option (List ℕ)) → List ℕ → Result (List Numbered) (ℕ × proof.Fault) → Result Verdict Fault
verdict_after held added assumptions read = in_proof read >>= λ lines. Ok (verdict_from held added assumptions lines)
