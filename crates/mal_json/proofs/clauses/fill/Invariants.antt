use Rattle.std.proofs.Common.{◌≡◌, ◌++◌, false, length}
use Rattle.std.specs.List.{list_any}
use Rattle.mal_base.specs.Limits.{greatest_variable}
use Rattle.spec_json.specs.Numbers.{is_above, is_none}
use Rattle.spec_json.specs.Reading.{literals}
use Rattle.mal_json.specs.Values.{numbers_of}
use Rattle.mal_json.proofs.clauses.fill.Given as goal

abbrev pub invariant-loop-number : goal.invariant-loop-number
invariant-loop-number l = record {
  same : l.lits.items ++ literals (numbers_of l.rest) ≡ l.fn.lits.items ++ literals (numbers_of l.numbers);
  some : list_any is_none (numbers_of l.rest) ≡ false;
  bound : list_any (is_above greatest_variable) (numbers_of l.rest) ≡ false;
}

abbrev pub decreases-loop-number : goal.decreases-loop-number
decreases-loop-number l = length l.rest
