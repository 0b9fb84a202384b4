use Rattle.mal_pool.proofs.Gating.{stopped-after, gave-back}
use Rattle.mal_pool.proofs.working.Station.work_on.Goals as goal

pub returns-in-Stop-clause-calls : goal.returns-in-Stop-clause-calls
returns-in-Stop-clause-calls g c = stopped-after (g.G.Gate.stops c.args.self.now.gate.now) c.args.self.now.worker c.start-start.result c.args.lease (g.D.Desk.calls c.args.pass) c.at.result c.start-start.ensures c.requires.passed c.at.ensures c.in-Stop.is

pub returns-in-Go-clause-calls : goal.returns-in-Go-clause-calls
returns-in-Go-clause-calls g c = gave-back (g.G.Gate.stops c.args.self.now.gate.now) c.args.self.now.worker c.start-start.result c.args.lease c.work-back.result (g.D.Desk.calls c.args.pass) (g.D.Desk.calls c.give_back.result.0) c.at.result c.give_back.result.1 c.start-start.ensures c.requires.passed c.at.ensures c.in-Go.is c.work-back.ensures.worker c.work-back.ensures.becomes c.work-back.ensures.tells c.give_back.ensures.calls
