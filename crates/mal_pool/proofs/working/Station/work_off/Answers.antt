use Rattle.mal_pool.proofs.Gating.{stopped-before}
use Rattle.mal_pool.proofs.working.Station.work_off.Goals as goal

pub returns-in-Stop-clause-calls : goal.returns-in-Stop-clause-calls
returns-in-Stop-clause-calls g c = stopped-before (g.G.Gate.stops c.args.self.now.gate.now) c.args.self.now.worker c.start-start.result c.args.lease (g.D.Desk.calls c.args.pass) c.at.result c.start-start.ensures c.at.ensures c.in-Stop.is
