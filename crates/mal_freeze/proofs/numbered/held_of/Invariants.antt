use Rattle.std.proofs.Common.{◌≡◌, take, drop}
use Rattle.std.specs.List.{list_all}
use Rattle.mal_freeze.specs.Holding.{can_hold}
use Rattle.mal_freeze.proofs.numbered.held_of.Given as goal

abbrev pub invariant-loop-numbered : goal.invariant-loop-numbered
invariant-loop-numbered l =
    record {
      held : l.all.items ≡ take l.numbered-index l.clauses;
      left : list_all can_hold (drop l.numbered-index l.clauses) ≡ list_all can_hold l.clauses;
    }
