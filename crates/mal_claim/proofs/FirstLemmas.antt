-- What is told of a text whose first fault is on a line, whatever stands after that line.
use Rattle.std.proofs.Common.{◌≡◌, ℕ, suc, Bool, true, false, cond, List, [], ◌∷◌, ◌++◌, length, codes, None, Result, Ok, Err, refl, sym, ap, ap₂, ◌∙◌}
use Rattle.std.specs.List.{list_any}
use Rattle.std.proofs.lemmas.Bool.{or_parts}
use Rattle.mal_base.specs.Formulas.{Formulated}
use Rattle.mal_base.specs.declared.line_fault.LineFault.TheVariants.{BadLine}
use Rattle.spec_dimacs.specs.Rows.{is_passed, rows_of}
use Rattle.spec_dimacs.specs.Reading.{◌>>=◌, read_rows}
use Rattle.spec_lrat.specs.Reading as proof
use Rattle.spec_script.specs.Assumptions.{assumptions_of}
use Rattle.mal_instance.specs.Rows.{is_formula_row, formula_rows, rows_after}
use Rattle.mal_claim.specs.Proofs.{Numbered, lines_from}
use Rattle.mal_claim.specs.Claims.{Assumed, Claim, Fault, Opened, assumed, claim_of, ending, in_formula, in_line, in_proof, is_proof_line, opened, read_lines, read_text, to_proof}
use Rattle.mal_claim.specs.Claims.Fault.{NoProof, InFormula, InProof}
use Rattle.mal_claim.specs.Laws.{OpeningFaultIsFirst, ProofFaultIsFirst}
use Rattle.mal_claim.proofs.LineLemmas.{row_fault_is_first}
use Rattle.mal_claim.proofs.JudgedLemmas.{opened_as}
use Rattle.mal_claim.proofs.RowLemmas.{some-proof}

abbrev Rows : Type 0
Rows = List (List (List ℕ))

-- lines, the line `proof`, and lines after it
abbrev cut : Rows → Rows → Rows
cut before behind = before ++ (codes "proof" ∷ []) ∷ behind

-- the formula ends before the line `proof`
formula-before : (before behind : Rows) → formula_rows ending (cut before behind) ≡ formula_rows ending (cut before [])
formula-before [] behind = refl
formula-before (row ∷ before) behind = ap (λ (rows : Rows). cond (is_formula_row ending row) (row ∷ rows) []) (formula-before before behind)

left-before : (before behind : Rows) → rows_after ending (cut before behind) ≡ cut (rows_after ending before) behind
left-before [] behind = refl
left-before (row ∷ before) behind = by_row (is_formula_row ending row) (left-before before behind)
  where
    by_row : (b : Bool) → rows_after ending (cut before behind) ≡ cut (rows_after ending before) behind → cond b (rows_after ending (cut before behind)) (row ∷ cut before behind) ≡ cut (cond b (rows_after ending before) (row ∷ before)) behind
    by_row true ih = ih
    by_row false ih = refl

none-left : (before : Rows) → list_any is_proof_line before ≡ false → list_any is_proof_line (rows_after ending before) ≡ false
none-left [] none = refl
none-left (row ∷ before) none = by_row (is_formula_row ending row) (none-left before (or_parts (is_proof_line row) (list_any is_proof_line before) none).1)
  where
    by_row : (b : Bool) → list_any is_proof_line (rows_after ending before) ≡ false → list_any is_proof_line (cond b (rows_after ending before) (row ∷ before)) ≡ false
    by_row true ih = ih
    by_row false ih = none

-- the assumptions, with other lines after the line `proof`
abbrev with_behind : Rows → Assumed → Result Assumed Fault
with_behind behind a = Ok (record { assumptions = a.assumptions; rows = behind })

proof-after : (lits : List ℕ) (line : ℕ) (rows behind : Rows) → list_any is_proof_line rows ≡ false → to_proof lits line (cut rows behind) ≡ (to_proof lits line (cut rows []) >>= with_behind behind)
proof-after lits line [] behind none = refl
proof-after lits line (row ∷ rows) behind none = by_row (is_proof_line row) both.0 (is_passed row) (proof-after lits (suc line) rows behind both.1)
  where
    both : (is_proof_line row ≡ false) × (list_any is_proof_line rows ≡ false)
    both = or_parts (is_proof_line row) (list_any is_proof_line rows) none

    by_row : (b : Bool) → b ≡ false → (p : Bool) → to_proof lits (suc line) (cut rows behind) ≡ (to_proof lits (suc line) (cut rows []) >>= with_behind behind)
        → cond b (Ok (record { assumptions = lits; rows = cut rows behind })) (cond p (to_proof lits (suc line) (cut rows behind)) (Err (InFormula (suc line) BadLine)))
        ≡ (cond b (Ok (record { assumptions = lits; rows = cut rows [] })) (cond p (to_proof lits (suc line) (cut rows [])) (Err (InFormula (suc line) BadLine))) >>= with_behind behind)
    by_row true e p ih = absurd (cc)
    by_row false e true ih = ih
    by_row false e false ih = refl

assumed-before : (variables line : ℕ) (rows behind : Rows) → list_any is_proof_line rows ≡ false → assumed variables line (cut rows behind) ≡ (assumed variables line (cut rows []) >>= with_behind behind)
assumed-before variables line [] behind none = refl
assumed-before variables line (row ∷ rows) behind none = by_row (is_proof_line row) both.0 (in_line (suc line) (assumptions_of variables row))
  where
    both : (is_proof_line row ≡ false) × (list_any is_proof_line rows ≡ false)
    both = or_parts (is_proof_line row) (list_any is_proof_line rows) none

    by_row : (b : Bool) → b ≡ false → (r : Result (List ℕ) Fault)
        → cond b (Ok (record { assumptions = []; rows = cut rows behind })) (r >>= λ lits. to_proof lits (suc line) (cut rows behind))
        ≡ (cond b (Ok (record { assumptions = []; rows = cut rows [] })) (r >>= λ lits. to_proof lits (suc line) (cut rows [])) >>= with_behind behind)
    by_row true e r = absurd (cc)
    by_row false e (Ok lits) = proof-after lits (suc line) rows behind both.1
    by_row false e (Err d) = refl

-- the claim of a text that is opened, with these lines after the line `proof`
abbrev closed : Rows → Opened → Result Claim Fault
closed behind o = claim_of o.formula (record { assumptions = o.assumed.assumptions; rows = behind })

abbrev claimed : Opened → List Numbered → Result Claim Fault
claimed o lines = Ok (record { formula = o.formula; assumptions = o.assumed.assumptions; lines = lines })

lines-cut : (before behind : Rows) → list_any is_proof_line before ≡ false → read_lines (cut before behind) ≡ (opened (cut before []) >>= closed behind)
lines-cut before behind none =
    ap₂ (λ (fs rs : Rows). in_formula (read_rows fs 0 None) >>= λ f. assumed f.variables (length fs) rs >>= claim_of f) (formula-before before behind) (left-before before behind)
    ∙ by_formula (in_formula (read_rows (formula_rows ending (cut before [])) 0 None))
    ∙ sym (ap (λ (rs : Rows). (in_formula (read_rows (formula_rows ending (cut before [])) 0 None) >>= λ f. assumed f.variables (length (formula_rows ending (cut before []))) rs >>= opened_as f) >>= closed behind) (left-before before []))
  where
    by_assumed : (f : Formulated) (r : Result Assumed Fault) → ((r >>= with_behind behind) >>= claim_of f) ≡ ((r >>= opened_as f) >>= closed behind)
    by_assumed f (Ok a) = refl
    by_assumed f (Err e) = refl

    by_formula : (r : Result Formulated Fault)
        → (r >>= λ f. assumed f.variables (length (formula_rows ending (cut before []))) (cut (rows_after ending before) behind) >>= claim_of f)
        ≡ ((r >>= λ f. assumed f.variables (length (formula_rows ending (cut before []))) (cut (rows_after ending before) []) >>= opened_as f) >>= closed behind)
    by_formula (Ok f) =
        ap (λ (r : Result Assumed Fault). r >>= claim_of f) (assumed-before f.variables (length (formula_rows ending (cut before []))) (rows_after ending before) behind (none-left before none))
        ∙ by_assumed f (assumed f.variables (length (formula_rows ending (cut before []))) (cut (rows_after ending before) []))
    by_formula (Err e) = refl

text-cut : (text : List ℕ) (before behind : Rows) → list_any is_proof_line before ≡ false → rows_of text ≡ cut before behind → read_text text ≡ (opened (cut before []) >>= closed behind)
text-cut text before behind none rows =
    ap (λ (rs : Rows). cond (list_any is_proof_line rs) (read_lines rs) (Err NoProof)) rows
    ∙ ap (λ (b : Bool). cond b (read_lines (cut before behind)) (Err NoProof)) (some-proof before behind)
    ∙ lines-cut before behind none

pub opening_fault_is_first : OpeningFaultIsFirst
opening_fault_is_first before behind others text other line fault none rows rows' e =
    text-cut other before others none rows' ∙ by_opening (opened (cut before [])) (sym (text-cut text before behind none rows) ∙ e)
  where
    by_opening : (r : Result Opened Fault) → (r >>= closed behind) ≡ Err (InFormula line fault) → (r >>= closed others) ≡ Err (InFormula line fault)
    by_opening (Err d) k = k
    by_opening (Ok o) k = by_lines (lines_from 1 (length o.formula.clauses) behind) k
      where
        by_lines : (r : Result (List Numbered) (ℕ × proof.Fault)) → (in_proof r >>= claimed o) ≡ Err (InFormula line fault) → closed others o ≡ Err (InFormula line fault)
        by_lines (Ok lines) k = absurd (cc)
        by_lines (Err (n, f)) k = absurd (cc)

pub proof_fault_is_first : ProofFaultIsFirst
proof_fault_is_first before behind others text other line fault none rows rows' e same =
    text-cut other before others none rows' ∙ by_opening (opened (cut before [])) (sym (text-cut text before behind none rows) ∙ e)
  where
    by_opening : (r : Result Opened Fault) → (r >>= closed behind) ≡ Err (InProof line fault) → (r >>= closed others) ≡ Err (InProof line fault)
    by_opening (Err d) k = k
    by_opening (Ok o) k =
        ap (λ (r : Result (List Numbered) (ℕ × proof.Fault)). in_proof r >>= claimed o)
        (row_fault_is_first (length o.formula.clauses) behind others line fault (by_lines (lines_from 1 (length o.formula.clauses) behind) k) same)
      where
        by_lines : (r : Result (List Numbered) (ℕ × proof.Fault)) → (in_proof r >>= claimed o) ≡ Err (InProof line fault) → r ≡ Err (line, fault)
        by_lines (Ok lines) k = absurd (cc)
        by_lines (Err (n, f)) k = let first : n ≡ line = cc in let second : f ≡ fault = cc in ap₂ (λ (x : ℕ) (y : proof.Fault). Err (x, y)) first second
