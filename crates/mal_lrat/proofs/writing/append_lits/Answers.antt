use Rattle.std.proofs.Common.{arith}
use Rattle.spec_text.specs.Numbers.{literal_word}
use Rattle.mal_lrat.proofs.Texts.{closed-written}
use Rattle.mal_lrat.proofs.writing.append_lits.Goals as goal

pub returns-clause-written : goal.returns-clause-written
returns-clause-written c = closed-written literal_word c.args.out.now.items c.loop-lit.out.items c.put_word.new.out.items c.args.lits.now c.loop-lit.lit-index (omega arith) c.loop-lit.invariant c.in_ok-put_word.ensures.written
