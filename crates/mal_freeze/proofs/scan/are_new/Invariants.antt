use Rattle.std.proofs.Common.{◌≡◌, [], take, drop}
use Rattle.mal_freeze.specs.Imaged.{are_new}
use Rattle.mal_freeze.proofs.OrderLemmas.{Marked}
use Rattle.mal_freeze.proofs.scan.are_new.Given as goal

abbrev pub invariant-loop-var : goal.invariant-loop-var
invariant-loop-var l =
    record {
      done : are_new l.greatest (take l.var-index l.order) (drop l.var-index l.order) ≡ are_new l.greatest [] l.order;
      marked : Marked l.greatest l.marks.items (take l.var-index l.order);
    }
