use Rattle.std.proofs.Common.{◌≡◌, ◌++◌, false, length, map}
use Rattle.std.specs.List.{list_any}
use Rattle.mal_base.specs.Limits.{greatest_variable}
use Rattle.spec_dimacs.specs.Merged.{clause_of}
use Rattle.spec_json.specs.Numbers.{is_above, is_none}
use Rattle.spec_json.specs.Reading.{literals}
use Rattle.mal_json.specs.Values.{lists_of}
use Rattle.mal_json.proofs.clauses.clause_list.Given as goal

abbrev pub invariant-loop-list : goal.invariant-loop-list
invariant-loop-list l = record {
  same : l.clauses ++ map (λ numbers. clause_of (literals numbers)) (lists_of l.rest) ≡ map (λ numbers. clause_of (literals numbers)) (lists_of l.lists);
  some : list_any (list_any is_none) (lists_of l.rest) ≡ false;
  bound : list_any (list_any (is_above greatest_variable)) (lists_of l.rest) ≡ false;
}

abbrev pub decreases-loop-list : goal.decreases-loop-list
decreases-loop-list l = length l.rest
