use Rattle.spec_text.specs.Numbers.{decimal_word}
use Rattle.spec_lrat.specs.Written.{words_of_ids, words_of_lits}
use Rattle.mal_lrat.proofs.Texts.{line-written, front-kept-on-err}
use Rattle.mal_lrat.proofs.writing.append_added.Goals as goal

pub returns-clause-written : goal.returns-clause-written
returns-clause-written c = line-written c.args.out.now.items (decimal_word c.args.id) c.put_first_id.new.out.items c.put_lits.new.out.items c.put_ids.new.out.items c.end_line.new.out.items (words_of_lits c.args.lits.now) (words_of_ids c.args.hints.now) c.in_ok-put_first_id.ensures.written c.in_ok-put_lits.ensures.written c.in_ok-put_ids.ensures.written c.in_ok-end_line.ensures.written

pub returns-in_err-put_ids-clause-kept : goal.returns-in_err-put_ids-clause-kept
returns-in_err-put_ids-clause-kept c = front-kept-on-err c.from_residual-in_err-put_ids.result c.args.out.now.items (decimal_word c.args.id) c.put_first_id.new.out.items c.put_lits.new.out.items c.put_ids.new.out.items (words_of_lits c.args.lits.now) c.in_ok-put_first_id.ensures.written c.in_ok-put_lits.ensures.written c.in_err-put_ids.ensures.kept
