use Rattle.std.proofs.Common.{◌≡◌, length}
use Rattle.mal_parts.proofs.ReadingLemmas.{StandsIn}
use Rattle.mal_parts.proofs.reading.take_piece.Given as goal

abbrev pub invariant-lines : goal.invariant-lines
invariant-lines g l = let desk = g.D.LiveDesk in record {
  of : desk.is_of l.desk l.pass;
  numbers : desk.numbers l.pass ≡ desk.numbers l.fn.pass;
  stands : StandsIn l.fn.progress.feeder l.fn.progress.open l.piece l.rest (desk.said l.fn.pass) (desk.said l.pass) l.progress.feeder l.progress.open;
}

abbrev pub decreases-lines : goal.decreases-lines
decreases-lines g l = length l.rest
