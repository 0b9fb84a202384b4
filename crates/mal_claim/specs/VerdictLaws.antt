-- What the verdict on a proof means, in the form in which the law functions state it.
use Rattle.std.specs.Prelude.{◌≡◌, ◌↔◌, ℕ, List, take, Option, Ok, Err}
use Rattle.spec_logic.specs.Logic.{IsUnsatisfiable}
use Rattle.spec_logic.specs.Refutation.{IsRefutation}
use Rattle.spec_lrat.specs.Reading.{Fault}
use Rattle.mal_claim.specs.ProofGrammar.{SpellLines}
use Rattle.mal_claim.specs.Proofs.{Numbered, bare, lines_from, verdict_of}
use Rattle.mal_claim.specs.Proofs.Verdict.{Verified}

-- rows spell just the lines that are read of them; so rows have either these lines or a first fault
abbrev pub LinesAreRead : Type 0
LinesAreRead = (number last : ℕ) (rows : List (List (List ℕ))) (lines : List Numbered) → SpellLines number last rows lines ↔ (lines_from number last rows ≡ Ok lines)

-- nothing after a faulty row counts: rows that begin with the same ones, up to it, have the same first fault
abbrev pub RowFaultIsFirst : Type 0
RowFaultIsFirst = (last : ℕ) (rows others : List (List (List ℕ))) (line : ℕ) (fault : Fault) → lines_from 1 last rows ≡ Err (line, fault) → take line others ≡ take line rows → lines_from 1 last others ≡ Err (line, fault)

-- a proof is verified exactly where its lines refute the clauses under the assumptions
abbrev pub VerifiedIsRefutation : Type 0
VerifiedIsRefutation =
    (clauses : List (Option (List ℕ))) (assumptions : List ℕ) (lines : List Numbered)
    → (verdict_of clauses assumptions lines ≡ Verified) ↔ IsRefutation clauses assumptions (bare lines)

-- then nothing satisfies both
abbrev pub VerifiedIsUnsatisfiable : Type 0
VerifiedIsUnsatisfiable =
    (clauses : List (Option (List ℕ))) (assumptions : List ℕ) (lines : List Numbered)
    → verdict_of clauses assumptions lines ≡ Verified → IsUnsatisfiable clauses assumptions
