use Rattle.spec_lrat.specs.Written.{words_of_ids}
use Rattle.mal_lrat.proofs.Texts.{deletion-written}
use Rattle.mal_lrat.proofs.writing.deletion.Goals as goal

pub returns : goal.returns
returns c = deletion-written c.in_ok-out.out.items c.put_ids.new.out.items c.end_line.new.out.items (words_of_ids c.args.ids.now) c.in_ok-out.ensures.items c.in_ok-put_ids.ensures.written c.in_ok-end_line.ensures.written
