use Rattle.std.proofs.lemmas.Result.{IfOk-weaker}
use Rattle.mal_cli.proofs.Stopping.{unstopped-run}
use Rattle.mal_cli.proofs.running.run_script_alone.Goals as goal

pub returns-in-Ok : goal.returns-in-Ok
returns-in-Ok c = λ stops. IfOk-weaker c.texts_of.result _ _ (λ t run. unstopped-run stops 1 c.args.script.now c.in_ok-hall.hall.events _ _ run c.in_ok-hall.ensures.sequential c.in_ok-hall.ensures.none_lost) (c.texts_of.ensures 1 c.args.script.now c.in_ok-hall.ensures.run c.in-Ok.ensures)
