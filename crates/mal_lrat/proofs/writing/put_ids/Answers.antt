use Rattle.std.proofs.Common.{arith}
use Rattle.spec_text.specs.Numbers.{decimal_word}
use Rattle.mal_lrat.proofs.Texts.{closed-written}
use Rattle.mal_lrat.proofs.writing.put_ids.Goals as goal

pub returns-clause-written : goal.returns-clause-written
returns-clause-written c = closed-written decimal_word c.args.out.now.items c.loop-id.out.items c.put_word.new.out.items c.args.ids.now c.loop-id.id-index (omega arith) c.loop-id.invariant c.in_ok-put_word.ensures.written
