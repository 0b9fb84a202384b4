use Rattle.mal_cli.proofs.CountLemmas.{run-counted}
use Rattle.mal_cli.specs.Stopping.{stops_of}
use Rattle.mal_cli.proofs.generating.run_generated.Goals as goal

pub returns-in-Ok-run_script : goal.returns-in-Ok-run_script
returns-in-Ok-run_script g c = λ text. run-counted (stops_of (g.G.Gate.stops c.args.gate.now)) c.args.seed c.args.jobs c.args.workers text _ _ _ c.summarized.result c.in-Ok.ensures.value c.in-Ok.ensures.formed c.in-Ok-run_script.ensures c.summarized.ensures
