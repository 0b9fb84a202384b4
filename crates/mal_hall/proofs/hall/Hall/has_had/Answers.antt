use Rattle.std.proofs.Common.{sym}
use Rattle.spec_hall.specs.Dressed.{keyed}
use Rattle.mal_hall.proofs.HallLemmas.{hall-named}
use Rattle.mal_hall.proofs.hall.Hall.has_had.Goals as goal

pub returns : goal.returns
returns c = rw (← c.self.view_is) (sym (hall-named _ (keyed c.args.tenant.now c.args.job.now) _ _ c.self.invariant c.number_of.ensures c.is_some.ensures))
