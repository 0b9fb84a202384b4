-- The two numbers of a header, as the block that they open.
use Rattle.std.specs.Prelude.{ℕ, Result, Ok, Err}
use Rattle.mal_base.specs.declared.block_fault.BlockFault.{BlockFault}
use Rattle.spec_dimacs.specs.Reading.{Block, block_of}

-- the block that such numbers open
abbrev pub opens_with : Result (ℕ × ℕ) BlockFault → Result Block BlockFault
opens_with (Ok counts) = Ok (block_of counts.0 counts.1)
opens_with (Err fault) = Err fault
