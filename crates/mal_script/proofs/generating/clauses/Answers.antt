use Rattle.std.proofs.Common.{arith}
use Rattle.spec_script.proofs.GeneratedSteps.{clauses-end}
use Rattle.mal_script.proofs.generating.clauses.Goals as goal

pub returns-clause-value : goal.returns-clause-value
returns-clause-value c = clauses-end _ _ c.args.count c.loop-made.made c.loop-made.draws (omega (arith, c.loop-made-test.false)) c.loop-made.invariant.made
