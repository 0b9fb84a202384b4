use Rattle.mal_io.proofs.Moved.{puts-kept, puts-more}
use Rattle.mal_io.proofs.pieces.Pieces.put.Goals as goal

pub returns-then-bytes-room : goal.returns-then-bytes-room
returns-then-bytes-room g c = puts-kept _ _ _ _ _ _ c.keep.ensures.bytes c.keep.ensures.failed

pub returns : goal.returns
returns g c = puts-more c.hand_on.ensures.puts c.begin.ensures
