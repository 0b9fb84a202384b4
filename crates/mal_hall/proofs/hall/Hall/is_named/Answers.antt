use Rattle.std.proofs.Common.{arith}
use Rattle.spec_hall.specs.Dressed.{keyed}
use Rattle.mal_hall.proofs.ApplyLemmas.{named-none, named-some}
use Rattle.mal_hall.proofs.hall.Hall.is_named.Goals as goal

pub returns-then-at-len : goal.returns-then-at-len
returns-then-at-len c = rw (← c.self.view_is) (named-none _ c.args.at (keyed c.args.tenant.now c.args.job.now) c.self.invariant (omega (arith, c.len.ensures.len)))

pub returns : goal.returns
returns c = rw (← c.self.view_is) (named-some _ c.args.at (keyed c.args.tenant.now c.args.job.now) c.at.result.now _ c.self.invariant (omega (arith, c.len.ensures.len)) c.at.ensures c.is_named.ensures)
