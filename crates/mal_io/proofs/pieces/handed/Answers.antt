use Rattle.std.proofs.Common.{refl}
use Rattle.mal_io.proofs.Moved.{puts-failed}
use Rattle.mal_io.proofs.pieces.handed.Goals as goal

pub returns-then-failed : goal.returns-then-failed
returns-then-failed g c = puts-failed _ _ _ _ _ _ c.if-failed.true refl
