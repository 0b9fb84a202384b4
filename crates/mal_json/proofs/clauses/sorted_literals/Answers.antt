use Rattle.std.proofs.Common.{◌++◌, ℕ, List, ap, ◌∙◌}
use Rattle.spec_dimacs.specs.Merged.{sorted}
use Rattle.spec_json.specs.Reading.{literals}
use Rattle.spec_script.proofs.Sorted.{sorted-unique}
use Rattle.mal_json.specs.Values.{numbers_of}
use Rattle.mal_json.proofs.clauses.sorted_literals.Goals as goal

pub returns : goal.returns
returns c =
    sorted-unique c.fill.new.lits.items c.sort.new.lits.items c.sort.ensures.rising c.sort.ensures.same
    ∙ ap sorted (c.in_ok-fill.ensures ∙ ap (λ (xs : List ℕ). xs ++ literals (numbers_of c.args.numbers.now)) c.new-lits.ensures.items)
