use Rattle.mal_text.proofs.Cuts.{words_from}
use Rattle.mal_text.proofs.read.without_blanks.Goals as goal

pub returns-then-not-is_blank-clause-words : goal.returns-then-not-is_blank-clause-words
returns-then-not-is_blank-clause-words c = words_from c.args.line.now c.loop-index.index c.loop-index.invariant
