use Rattle.std.proofs.Common.{◌≡◌, length}
use Rattle.spec_text.specs.Inputs.{words_of}
use Rattle.mal_lrat.specs.IdLists.{list_said, continued}
use Rattle.mal_lrat.proofs.reading.id_list.Given as goal

abbrev pub invariant-loop-ids : goal.invariant-loop-ids
invariant-loop-ids l = continued l.ids.items l.has_negative (list_said (words_of l.rest)) ≡ list_said (words_of l.fn.words)

abbrev pub decreases-loop-ids : goal.decreases-loop-ids
decreases-loop-ids l = length l.rest
