-- The grammar of a proof's text: which lines its rows spell.
use Rattle.std.specs.Prelude.{◌≡◌, ℕ, suc, true, false, ◌⊎◌, List, [], ◌∷◌}
use Rattle.spec_logic.specs.Refutation.{ProofLine}
use Rattle.spec_dimacs.specs.Rows.{is_passed}
use Rattle.spec_lrat.specs.Grammar.{Spells}
use Rattle.mal_claim.specs.Proofs.{Numbered, last_after}

-- the rows of a proof, of which the first is line `number` of it, spell these lines after the id `last`: a row is
-- passed over, or spells the next line, whose number is that of its row
abbrev pub SpellLines : ℕ → ℕ → List (List (List ℕ)) → List Numbered → Type 0
SpellLines number last [] lines = lines ≡ []
SpellLines number last (row ∷ rows) lines =
    ((is_passed row ≡ true) × SpellLines (suc number) last rows lines)
    ⊎ ((line : ProofLine) × (others : List Numbered) × (is_passed row ≡ false) × Spells last row line × (lines ≡ record { number = number; line = line } ∷ others) × SpellLines (suc number) (last_after last line) rows others)
