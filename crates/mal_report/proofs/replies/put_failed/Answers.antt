use Rattle.std.proofs.Common.{codes}
use Rattle.spec_lrat.specs.Written.{words_of_lits}
use Rattle.mal_report.proofs.Refutations.{words_written}
use Rattle.mal_report.proofs.replies.put_failed.Goals as goal

pub returns : goal.returns
returns c = words_written c.args.out.now.items (codes "k") c.push.new.self.items c.put_lits.new.out.items c.end_line.new.out.items (words_of_lits c.args.failed.now) c.in_ok-push.ensures.items c.in_ok-put_lits.ensures.written c.in_ok-end_line.ensures.written
