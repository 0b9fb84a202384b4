use Rattle.std.proofs.Common.{arith}
use Rattle.mal_cdcl.proofs.RestartLemmas.{none-due}
use Rattle.mal_cdcl.proofs.restart.is_due.Goals as goal

pub returns-then-units-eq0 : goal.returns-then-units-eq0
returns-then-units-eq0 c = none-due c.args.conflicts_since_restart c.args.restart_number (omega (arith, c.if-units-eq0.true))
