use Rattle.std.proofs.Common.{◌≡◌}
use Rattle.mal_hall.proofs.TellingLemmas.{told_before}
use Rattle.mal_hall.proofs.telling.own_among.Given as goal

abbrev pub invariant-loop-at : goal.invariant-loop-at
invariant-loop-at l = l.told ≡ told_before l.key l.events l.contents l.at
