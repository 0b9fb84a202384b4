use Rattle.std.proofs.Common.{◌≡◌, false, length}
use Rattle.spec_text.specs.Inputs.{words_of}
use Rattle.mal_lrat.specs.IdLists.{list_said, continued}
use Rattle.mal_lrat.proofs.reading.plain_ids.Given as goal

abbrev pub invariant-loop-number : goal.invariant-loop-number
invariant-loop-number l = continued l.ids.items false (list_said (words_of l.rest)) ≡ continued l.fn.ids.items false (list_said (words_of l.fn.words))

abbrev pub decreases-loop-number : goal.decreases-loop-number
decreases-loop-number l = length l.rest
