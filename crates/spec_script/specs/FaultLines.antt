-- The lines that tell a fault of a script.
use Rattle.std.specs.Prelude.{ℕ, List, [], ◌∷◌, codes}
use Rattle.mal_base.specs.declared.limit_kind.LimitKind.{LimitKind}
use Rattle.mal_base.specs.declared.limit_kind.LimitKind.TheVariants.{Variables, Clauses, Literals, Tenants, Jobs, Revisions}
use Rattle.spec_text.specs.Lines.{line_of}
use Rattle.spec_text.specs.Numbers.{decimal_word}
use Rattle.mal_base.specs.declared.block_fault.BlockFault.{BlockFault}
use Rattle.mal_base.specs.declared.block_fault.BlockFault.TheVariants as block
use Rattle.mal_base.specs.declared.line_fault.LineFault.{LineFault}
use Rattle.mal_base.specs.declared.line_fault.LineFault.TheVariants as line

-- the word of a limit
abbrev pub which_word : LimitKind → List ℕ
which_word Variables = codes "Variables"
which_word Clauses = codes "Clauses"
which_word Literals = codes "Literals"
which_word Tenants = codes "Tenants"
which_word Jobs = codes "Jobs"
which_word Revisions = codes "Revisions"

-- the words of a fault of a block
abbrev pub block_words : BlockFault → List (List ℕ)
block_words block.BadHeader = codes "BadHeader" ∷ []
block_words block.BadNumber = codes "BadNumber" ∷ []
block_words block.VarTooLarge = codes "VarTooLarge" ∷ []
block_words (block.ClauseCount declared found) = codes "ClauseCount" ∷ decimal_word declared ∷ decimal_word found ∷ []
block_words (block.Limit which) = codes "Limit" ∷ which_word which ∷ []
block_words block.Trailing = codes "Trailing" ∷ []

-- the words of a fault
abbrev pub fault_words : LineFault → List (List ℕ)
fault_words line.BadLine = codes "BadLine" ∷ []
fault_words (line.Dimacs fault) = block_words fault
fault_words (line.Opposite var) = codes "Opposite" ∷ decimal_word var ∷ []
fault_words (line.Duplicate tenant job) = codes "Duplicate" ∷ tenant ∷ job ∷ []
fault_words line.Range = codes "Range" ∷ []
fault_words (line.Limit which) = codes "Limit" ∷ which_word which ∷ []

-- the line that tells these words of a line of this part of a text
abbrev pub part_line : List ℕ → ℕ → List (List ℕ) → List ℕ
part_line part n words = line_of (codes "fault:" ∷ part ∷ codes "line" ∷ decimal_word n ∷ words)

-- the line that tells a fault of this line of a script
abbrev pub fault_line : ℕ → LineFault → List ℕ
fault_line n fault = part_line (codes "script") n (fault_words fault)
