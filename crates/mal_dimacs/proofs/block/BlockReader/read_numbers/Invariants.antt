use Rattle.std.proofs.Common.{◌≡◌, length}
use Rattle.spec_text.specs.Inputs.{words_of}
use Rattle.spec_dimacs.specs.Reading.{after_words}
use Rattle.mal_dimacs.proofs.block.BlockReader.read_numbers.Given as goal

abbrev pub invariant-loop-number : goal.invariant-loop-number
invariant-loop-number l = after_words (words_of l.rest) l.self ≡ after_words (words_of l.line) l.fn.self

abbrev pub decreases-loop-number : goal.decreases-loop-number
decreases-loop-number l = length l.rest
