-- What a pointer owns that C holds.
use Rattle.std.specs.Prelude.{Option, Some, None}
use Rattle.std.specs.Global.{Global}
use Rattle.std.specs.Box.Ownership.{box_owns}
use Rattle.std.specs.contracts.impls.GlobalAllocator.TheImpl.{ghosts}
use mir.Syntax.{Ty}
use base.Fml.{Fml, ftrue, ffalse}
use denote.RattleType.{RattleType}
use denote.RawPtr.{Ptr, block_ptr, null_ptr}

-- the heap, which every `Global` stands for
abbrev pub heap : Global
heap = record { memory = record { seal = tt } }

-- the right to free a chunk of it
abbrev pub chunk : Ty → Ptr → Fml
chunk = ghosts.dealloc_token heap

-- nothing where it is null, else the box of a value. The other two cases never are
abbrev pub held : (R : RattleType) → Ptr → Option R.Denot → Fml
held R null_ptr None = ftrue
held R null_ptr (Some x) = ffalse
held R (block_ptr b o) None = ffalse
held R (block_ptr b o) (Some x) = box_owns chunk R (block_ptr b o) x
