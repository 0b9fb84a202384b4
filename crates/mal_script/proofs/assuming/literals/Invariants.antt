use Rattle.std.proofs.Common.{◌≡◌, true, false, [], map, length}
use Rattle.mal_base.specs.Formulas.{is_within}
use Rattle.spec_text.specs.Inputs.{words_of}
use Rattle.spec_text.specs.Numbers.{number_in}
use Rattle.spec_script.specs.Assumptions.{literals_from}
use Rattle.mal_script.proofs.assuming.literals.Given as goal

abbrev pub invariant-loop-word : goal.invariant-loop-word
invariant-loop-word l =
    (literals_from l.lits.items l.above (map (λ word. number_in word l.variables) (words_of l.rest)) ≡ literals_from [] false (map (λ word. number_in word l.variables) (words_of l.line)))
    × (is_within l.variables l.lits.items ≡ true)

abbrev pub decreases-loop-word : goal.decreases-loop-word
decreases-loop-word l = length l.rest
