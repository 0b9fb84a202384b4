use Rattle.std.proofs.Common.{arith, sym, ◌∙◌}
use Rattle.spec_text.proofs.Read.{only_word}
use Rattle.mal_text.proofs.Cuts.{word_up_to}
use Rattle.mal_text.proofs.read.word_in_front.Goals as goal

pub returns-then-is_blank-clause-words : goal.returns-then-is_blank-clause-words
returns-then-is_blank-clause-words c = word_up_to c.args.line.now c.loop-index.index c.requires.some c.requires.first (omega arith) (sym c.is_blank.ensures ∙ c.if-is_blank.true) c.loop-index.invariant

pub returns-clause-words : goal.returns-clause-words
returns-clause-words c = only_word c.args.line.now c.requires.some (λ k low. c.loop-index.invariant k (omega arith))
