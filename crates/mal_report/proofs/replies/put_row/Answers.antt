use Rattle.mal_report.proofs.Refutations.{row_written}
use Rattle.mal_report.proofs.replies.put_row.Goals as goal

pub returns : goal.returns
returns c = row_written c.args.out.now.items c.extend_from_slice.new.self.items c.put_added.new.out.items c.args.lines.now.lines c.args.n c.id.result c.lits.result.now c.hints.result.now c.id.ensures c.lits.ensures c.hints.ensures c.in_ok-extend_from_slice.ensures.items c.in_ok-put_added.ensures.written
