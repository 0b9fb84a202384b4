use Rattle.std.proofs.Common.{◌≡◌, length}
use Rattle.spec_text.specs.Inputs.{words_of}
use Rattle.spec_dimacs.specs.Reading.{after_words}
use Rattle.mal_dimacs.proofs.block.BlockReader.read_words.Given as goal

abbrev pub invariant-loop-word : goal.invariant-loop-word
invariant-loop-word l = after_words (words_of l.rest) l.self ≡ after_words (words_of l.line) l.fn.self

abbrev pub decreases-loop-word : goal.decreases-loop-word
decreases-loop-word l = length l.rest
