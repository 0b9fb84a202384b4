use Rattle.std.proofs.Common.{◌≡◌, ◌<◌, ◌≤◌, length, min, arith}
use Rattle.spec_balance.proofs.Unique.{unique}
use Rattle.mal_balance.specs.Greedy.{IsGreedy, IsClosed}
use Rattle.mal_balance.proofs.Giving.{fair-full, fair-closed}
use Rattle.mal_balance.proofs.balance.fair.Goals as goal

pub returns-in-None-clause-fair : goal.returns-in-None-clause-fair
returns-in-None-clause-fair c =
    let closed : IsClosed c.args.jobs.now c.loop-made.out c.min-first.result = rw c.in-None.is at c.neediest.ensures in
    let first : c.min-first.result ≡ min (length c.args.jobs.now) c.args.workers = omega (arith, c.min-first.ensures) in
    let some : c.min-first.result ≤ c.loop-made.made = omega arith in
    let low : c.loop-made.made < c.args.workers = omega arith in
    fair-closed c.args.workers c.args.jobs.now c.min-first.result c.loop-made.made c.loop-made.out c.loop-made.invariant closed some low first

pub returns-in-None-clause-unique : goal.returns-in-None-clause-unique
returns-in-None-clause-unique c = λ vs other.
    unique c.args.workers c.args.jobs.now vs c.loop-made.out other (returns-in-None-clause-fair c)

pub loop-made-preserved : goal.loop-made-preserved
loop-made-preserved c = c.give_one.ensures c.loop-made.made c.loop-made.invariant

pub returns-clause-fair : goal.returns-clause-fair
returns-clause-fair c =
    let first : c.min-first.result ≡ min (length c.args.jobs.now) c.args.workers = omega (arith, c.min-first.ensures) in
    let all : c.loop-made.made ≡ c.args.workers = omega arith in
    let given : IsGreedy c.args.jobs.now c.min-first.result c.args.workers c.loop-made.out = rw (← all) c.loop-made.invariant in
    fair-full c.args.workers c.args.jobs.now c.min-first.result c.loop-made.out given first

pub returns-clause-unique : goal.returns-clause-unique
returns-clause-unique c = λ vs other.
    unique c.args.workers c.args.jobs.now vs c.loop-made.out other (returns-clause-fair c)
