-- The lines that tell why a text is no claim, or why its proof is not verified.
use Rattle.std.specs.Prelude.{ℕ, List, [], ◌∷◌, ◌++◌, codes}
use Rattle.spec_text.specs.Lines.{line_of}
use Rattle.spec_text.specs.Numbers.{decimal_word}
use Rattle.spec_logic.specs.Refutation.{Refusal}
use Rattle.spec_logic.specs.Refutation.Refusal.{IdUsed, UnknownHint, HintNotUnit, NoContradiction}
use Rattle.spec_script.specs.FaultLines.{fault_words}
use Rattle.spec_lrat.specs.Reading as proof
use Rattle.mal_claim.specs.Proofs.{Verdict}
use Rattle.mal_claim.specs.Proofs.Verdict.{Verified, Refused, NoGoal}
use Rattle.mal_claim.specs.Claims.{Fault}
use Rattle.mal_claim.specs.Claims.Fault.{NoProof, InFormula, InProof}

-- the words of a fault of a proof's line
abbrev pub proof_words : proof.Fault → List (List ℕ)
proof_words proof.Fault.BadNumber = codes "BadNumber" ∷ []
proof_words proof.Fault.MissingZero = codes "MissingZero" ∷ []
proof_words (proof.Fault.IdNotRising last id) = codes "IdNotRising" ∷ decimal_word last ∷ decimal_word id ∷ []
proof_words proof.Fault.NegativeHint = codes "NegativeHint" ∷ []

-- the words of the refusal of a proof's line
abbrev pub refusal_words : Refusal → List (List ℕ)
refusal_words (IdUsed id) = codes "IdUsed" ∷ decimal_word id ∷ []
refusal_words (UnknownHint id) = codes "UnknownHint" ∷ decimal_word id ∷ []
refusal_words (HintNotUnit id) = codes "HintNotUnit" ∷ decimal_word id ∷ []
refusal_words NoContradiction = codes "NoContradiction" ∷ []

-- the line that tells these words of a line of the proof
abbrev pub proof_line : ℕ → List (List ℕ) → List ℕ
proof_line n words = line_of (codes "fault:" ∷ codes "proof" ∷ codes "line" ∷ decimal_word n ∷ words)

-- the line that tells a fault
abbrev pub fault_line : Fault → List ℕ
fault_line NoProof = line_of (codes "fault:" ∷ codes "no" ∷ codes "proof" ∷ [])
fault_line (InFormula n fault) = line_of (codes "fault:" ∷ codes "formula" ∷ codes "line" ∷ decimal_word n ∷ fault_words fault)
fault_line (InProof n fault) = proof_line n (proof_words fault)

-- the line that tells that nothing satisfies the formula and the assumptions
abbrev pub verified_line : List ℕ
verified_line = codes "s VERIFIED" ++ 10 ∷ []

-- the line that tells the verdict on a proof
abbrev pub verdict_line : Verdict → List ℕ
verdict_line Verified = verified_line
verdict_line (Refused n refusal) = proof_line n (refusal_words refusal)
verdict_line NoGoal = line_of (codes "fault:" ∷ codes "proof" ∷ codes "goal" ∷ [])
