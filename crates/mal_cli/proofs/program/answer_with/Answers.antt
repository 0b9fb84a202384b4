use Rattle.std.specs.Prelude.{None}
use Rattle.mal_cli.proofs.Rules.{calm-told, request-done}
use Rattle.mal_cli.specs.Stopping.{stops_of}
use Rattle.mal_cli.proofs.program.answer_with.Goals as goal

pub returns-clause-done : goal.returns-clause-done
returns-clause-done g c = request-done (stops_of (g.G.Gate.stops c.args.gate.now)) c.args.request _ _ _ c.answer_to.result c.conclude.result c.answer_to.ensures.answer c.conclude.ensures

pub returns-clause-calm : goal.returns-clause-calm
returns-clause-calm g c = calm-told (record { bytes = None; bytes_now = None; faults = _; faults_now = _ }) _ _ c.answer_to.result c.conclude.result c.answer_to.ensures.calm c.conclude.ensures
