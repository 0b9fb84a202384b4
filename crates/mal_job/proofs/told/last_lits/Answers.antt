use Rattle.std.proofs.Common.{◌≤◌, arith}
use Rattle.mal_job.proofs.ToldLemmas.{last-none, last-some}
use Rattle.mal_job.proofs.told.last_lits.Goals as goal

pub returns-in-None : goal.returns-in-None
returns-in-None c =
    let none : 1 ≤ c.count.result → ⊥ = c.in-None.ensures in
    last-none c.args.lines.now.lines (omega (arith, none, c.count.ensures))

pub returns-in-Some : goal.returns-in-Some
returns-in-Some c =
    last-some c.args.lines.now.lines c.in-Some.last c.lits.result.now (omega arith) c.lits.ensures
