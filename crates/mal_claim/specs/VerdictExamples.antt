use Rattle.std.specs.Prelude.{◌≡◌, ℕ, List, [], ◌∷◌, map, codes, Option, Some, Result, Ok, Err}
use Rattle.spec_text.specs.Inputs.{lines_of, words_of}
use Rattle.spec_logic.specs.Refutation.Refusal.{UnknownHint, HintNotUnit, NoContradiction}
use Rattle.spec_lrat.specs.Reading.{Fault}
use Rattle.spec_lrat.specs.Reading.Fault.{IdNotRising, NegativeHint}
use Rattle.spec_logic.specs.Refutation.ProofLine.{Add}
use Rattle.mal_claim.specs.ProofGrammar.{SpellLines}
use Rattle.mal_claim.specs.Proofs.{Numbered, Verdict, lines_from, verdict_of}
use Rattle.mal_claim.specs.Proofs.Verdict.{Verified, Refused, NoGoal}

-- the clauses 1 2, 1 -2, -1 2 and -1 -2
abbrev pub four : List (Option (List ℕ))
four = Some (2 ∷ 4 ∷ []) ∷ Some (2 ∷ 5 ∷ []) ∷ Some (3 ∷ 4 ∷ []) ∷ Some (3 ∷ 5 ∷ []) ∷ []

-- what is said of the text of a proof from these clauses
abbrev pub said_of : List ℕ → Result (List Numbered) (ℕ × Fault) → Result Verdict (ℕ × Fault)
said_of assumptions (Ok lines) = Ok (verdict_of four assumptions lines)
said_of assumptions (Err fault) = Err fault

abbrev pub said : List ℕ → List ℕ → Result Verdict (ℕ × Fault)
said assumptions text = said_of assumptions (lines_from 1 4 (map words_of (lines_of text)))

pub record HasVerdicts : Type 0 where
  pub verified : said [] (codes "5 1 0 1 2 0\n6 0 5 3 4 0\n") ≡ Ok Verified
  pub from_reply : said [] (codes "l 5 1 0 1 2 0\n\nc comment\nl 6 0 5 3 4 0") ≡ Ok Verified
  pub not_unit : said [] (codes "5 0 1 0\n") ≡ Ok (Refused 1 (HintNotUnit 1))
  pub unknown : said [] (codes "5 1 0 9 0\n") ≡ Ok (Refused 1 (UnknownHint 9))
  pub no_contradiction : said [] (codes "\n5 1 0 3 0\n") ≡ Ok (Refused 2 NoContradiction)
  pub no_goal : said [] (codes "5 1 0 1 2 0\n") ≡ Ok NoGoal
  pub assumed : said (3 ∷ []) (codes "5 1 0 1 2 0\n") ≡ Ok Verified
  pub negative_hint : said [] (codes "5 1 0 -1 2 0\n") ≡ Err (1, NegativeHint)
  pub not_rising : said [] (codes "5 1 0 1 2 0\n5 0 5 3 4 0\n") ≡ Err (2, IdNotRising 5 5)
  pub whatever_is_after : said [] (codes "5 1 0 -1 2 0\nx\n4\n") ≡ Err (1, NegativeHint)
  pub faults_first : said [] (codes "5 0 1 0\n4 1 0 1 2 0\n") ≡ Err (2, IdNotRising 5 4)

-- the rows of the text of a proof
abbrev pub rows_in : List ℕ → List (List (List ℕ))
rows_in text = map words_of (lines_of text)

-- the line that adds the clause 1 by the hints 1 and 2, with its number
abbrev pub unit_at : ℕ → Numbered
unit_at number = record { number = number; line = Add 5 (Some (2 ∷ [])) (1 ∷ 2 ∷ []) }

-- which lines small proofs after four clauses spell
pub record HasSpelled : Type 0 where
  pub one_line : SpellLines 1 4 (rows_in (codes "c comment\n\nl 5 1 0 1 2 0\n")) (unit_at 3 ∷ [])
  pub no_line : SpellLines 1 4 (rows_in (codes "c 5 1 0 1 2 0\n")) []
  pub no_zero : (lines : List Numbered) → SpellLines 1 4 (rows_in (codes "5 1 0 1 2\n")) lines → ⊥
  pub id_not_above : (lines : List Numbered) → SpellLines 1 5 (rows_in (codes "5 1 0 1 2 0\n")) lines → ⊥
