use Rattle.std.proofs.Common.{◌+◌, arith}
use Rattle.mal_report.proofs.Models.{written_model}
use Rattle.mal_report.proofs.replies.put_model.Goals as goal

pub returns : goal.returns
returns c = written_model c.args.out.now.items c.loop-value.out.items c.put_word.new.out.items c.end_line.new.out.items c.args.model.now (c.loop-value.number + 1) c.loop-value.value-index (omega arith) c.loop-value.invariant.1 c.in_ok-put_word.ensures.written c.in_ok-end_line.ensures.written
