use Rattle.std.proofs.Common.{◌≡◌, length}
use Rattle.spec_text.specs.Inputs.{words_of}
use Rattle.spec_lrat.specs.Reading.{before_end, behind_end, literals_of}
use Rattle.mal_lrat.proofs.Fronts.{behind}
use Rattle.mal_lrat.proofs.reading.literals.Given as goal

abbrev pub invariant-loop-word : goal.invariant-loop-word
invariant-loop-word l =
    (behind l.lits.items (literals_of (before_end (words_of l.rest))) ≡ literals_of (before_end (words_of l.fn.words)))
    × (behind_end (words_of l.rest) ≡ behind_end (words_of l.fn.words))

abbrev pub decreases-loop-word : goal.decreases-loop-word
decreases-loop-word l = length l.rest
