use Rattle.spec_learn.proofs.StayLemmas.{stays-gone}
use Rattle.spec_learn.proofs.WithinLemmas.{shorter-within}
use Rattle.spec_learn.proofs.shorter_is_within.Goals as goal

pub returns : goal.returns
returns c = record { stay = stays-gone; within = shorter-within }
