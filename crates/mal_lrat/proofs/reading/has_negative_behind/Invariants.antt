use Rattle.std.proofs.Common.{◌≡◌, length}
use Rattle.std.specs.Option.{option_map}
use Rattle.spec_text.specs.Inputs.{words_of}
use Rattle.spec_lrat.specs.Reading.{numbers_of}
use Rattle.mal_lrat.specs.IdLists.{negative_behind}
use Rattle.mal_lrat.proofs.reading.has_negative_behind.Given as goal

abbrev pub invariant-loop-number : goal.invariant-loop-number
invariant-loop-number l = option_map (negative_behind l.has_negative) (numbers_of (words_of l.rest)) ≡ option_map (negative_behind l.fn.before) (numbers_of (words_of l.fn.words))

abbrev pub decreases-loop-number : goal.decreases-loop-number
decreases-loop-number l = length l.rest
