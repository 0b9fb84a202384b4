use Rattle.std.proofs.Common.{arith}
use Rattle.std.proofs.lemmas.Result.{IfOk-weaker}
use Rattle.mal_cli.proofs.Stopping.{stopped-run}
use Rattle.mal_cli.proofs.running.run_script_by_many.Goals as goal

pub returns-in-Ok : goal.returns-in-Ok
returns-in-Ok g c = IfOk-weaker c.texts_of.result _ _ (λ t run. stopped-run (g.G.Gate.stops c.args.gate.now) c.args.workers c.args.script.now c.in_ok-hall.hall.events _ _ run (λ one. absurd (omega arith)) c.in_ok-hall.ensures.lost) (c.texts_of.ensures c.args.workers c.args.script.now c.in_ok-hall.ensures.run c.in-Ok.ensures)
