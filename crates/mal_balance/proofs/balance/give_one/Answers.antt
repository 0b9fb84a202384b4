use Rattle.mal_balance.proofs.Giving.{greedy-more}
use Rattle.mal_balance.proofs.balance.give_one.Goals as goal

pub returns-then-out-job : goal.returns-then-out-job
returns-then-out-job c = λ made g. greedy-more c.args.jobs.now c.args.first made c.args.out.now c.args.job g c.requires.next
