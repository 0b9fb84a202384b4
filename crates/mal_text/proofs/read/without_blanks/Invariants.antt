use Rattle.std.proofs.Common.{◌≡◌, drop}
use Rattle.spec_text.specs.Inputs.{words_of}
use Rattle.mal_text.proofs.read.without_blanks.Given as goal

abbrev pub invariant-loop-index : goal.invariant-loop-index
invariant-loop-index l = words_of (drop l.index l.line) ≡ words_of l.line
