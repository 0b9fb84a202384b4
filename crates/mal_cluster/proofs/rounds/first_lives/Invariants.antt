use Rattle.std.proofs.Common.{◌≡◌, take}
use Rattle.mal_cluster.proofs.FindingLemmas.{firsts}
use Rattle.mal_cluster.proofs.rounds.first_lives.Given as goal

abbrev pub invariant-loop-hall : goal.invariant-loop-hall
invariant-loop-hall l = l.firsts.items ≡ firsts (take l.hall-index l.halls)
