use Rattle.std.proofs.Common.{refl}
use Rattle.mal_parts.proofs.ReadingLemmas.{if_some, nothing_has_come}
use Rattle.mal_parts.proofs.reading.read_pieces.Goals as goal

pub loop-init : goal.loop-init
loop-init g c = (tt, tt, c.requires.of, refl, refl, nothing_has_come _ _ _ _ c.new-progress.ensures.feeder c.new-progress.ensures.open)

pub returns-in-Some-end-clause-read : goal.returns-in-Some-end-clause-read
returns-in-Some-end-clause-read g c = if_some _ _ _ _ c.in-Some-end.is (c.read_piece-back.ensures.read _ _ c.loop.invariant.5)
