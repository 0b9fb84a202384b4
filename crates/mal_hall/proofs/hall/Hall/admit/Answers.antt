use Rattle.std.proofs.Common.{Err}
use Rattle.spec_hall.specs.Calls.{Admits}
use Rattle.mal_hall.proofs.HallLemmas.{called-none}
use Rattle.mal_hall.proofs.MovingLemmas.{not-admitted}
use Rattle.mal_hall.proofs.hall.Hall.admit.Goals as goal

pub returns-in-Err-clause-call : goal.returns-in-Err-clause-call
returns-in-Err-clause-call c = called-none c.args.self.now.workers c.args.self.now.events (Admits c.args.parcel.now.key c.args.parcel.now.own) (Err c.in-Err.fault) (not-admitted c.args.self.now.events c.args.parcel.now.key c.args.parcel.now.own c.in-Err.fault c.in-Err.ensures)
