use Rattle.std.proofs.Common.{◌≡◌, ℕ, Bool, true, take, drop}
use Rattle.std.specs.List.{list_all}
use Rattle.spec_learn.specs.Analysis.{vars_in}
use Rattle.spec_learn.specs.Order.{moved_all}
use Rattle.mal_cdcl.proofs.BumpLemmas.{are_in}
use Rattle.mal_cdcl.proofs.learning.bump_all.Given as goal

abbrev pub invariant-loop-lit : goal.invariant-loop-lit
invariant-loop-lit l =
    record {
      index_is : l.order.index ≡ l.fn.order.index;
      room_is : l.order.room ≡ l.fn.order.room;
      done : moved_all (vars_in (drop l.lit-index l.lits)) l.order.list ≡ moved_all (vars_in l.lits) l.fn.order.list;
      passed : (p : ℕ → Bool) → list_all p (take l.fn.order.passed l.fn.order.list) ≡ true → list_all p (take l.order.passed l.order.list) ≡ true;
      has : are_in l.order.list (vars_in (drop l.lit-index l.lits)) ≡ true;
    }
