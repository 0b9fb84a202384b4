-- What holds of every text, in the form in which the law functions state it.
use Rattle.std.specs.Prelude.{◌≡◌, ◌↔◌, ℕ, false, List, [], ◌∷◌, ◌++◌, take, codes, Ok, Err}
use Rattle.std.specs.List.{list_any}
use Rattle.mal_base.specs.declared.line_fault.LineFault.{LineFault}
use Rattle.spec_dimacs.specs.Rows.{rows_of}
use Rattle.spec_lrat.specs.Reading as proof
use Rattle.mal_claim.specs.Claims.{Claim, is_proof_line, read_text}
use Rattle.mal_claim.specs.Claims.Fault.{InFormula, InProof}
use Rattle.mal_claim.specs.Grammar.{Spells}

-- a text spells a claim exactly where reading gives it: no text spells two claims, or has a first fault and spells one
abbrev pub SpelledIsRead : Type 0
SpelledIsRead = (text : List ℕ) (claim : Claim) → Spells text claim ↔ (read_text text ≡ Ok claim)

-- nothing after a faulty line counts. Texts with the same lines before the first line `proof` have the same first
-- fault, if it is on one of these lines; and if it is on a line of the proof, then with the same lines up to that one
abbrev pub OpeningFaultIsFirst : Type 0
OpeningFaultIsFirst =
    (before behind others : List (List (List ℕ))) (text other : List ℕ) (line : ℕ) (fault : LineFault) → list_any is_proof_line before ≡ false
    → rows_of text ≡ before ++ (codes "proof" ∷ []) ∷ behind → rows_of other ≡ before ++ (codes "proof" ∷ []) ∷ others
    → read_text text ≡ Err (InFormula line fault) → read_text other ≡ Err (InFormula line fault)

abbrev pub ProofFaultIsFirst : Type 0
ProofFaultIsFirst =
    (before behind others : List (List (List ℕ))) (text other : List ℕ) (line : ℕ) (fault : proof.Fault) → list_any is_proof_line before ≡ false
    → rows_of text ≡ before ++ (codes "proof" ∷ []) ∷ behind → rows_of other ≡ before ++ (codes "proof" ∷ []) ∷ others
    → read_text text ≡ Err (InProof line fault) → take line others ≡ take line behind → read_text other ≡ Err (InProof line fault)
