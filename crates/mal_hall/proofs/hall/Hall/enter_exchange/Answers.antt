use Rattle.std.proofs.Common.{refl}
use Rattle.spec_hall.specs.Dressed.{keyed}
use Rattle.spec_hall.specs.Events.{Exchange}
use Rattle.mal_hall.proofs.ApplyLemmas.{exchange-entered}
use Rattle.mal_hall.proofs.InsideLemmas.{enters-same, stands}
use Rattle.mal_hall.proofs.PhaseLemmas.{test-yes}
use Rattle.mal_hall.proofs.hall.Hall.enter_exchange.Goals as goal

pub returns-in-Ok-clause-entered : goal.returns-in-Ok-clause-entered
returns-in-Ok-clause-entered c =
    let is = stands _ _ refl c.is_due.ensures.some c.is_due.ensures.bound c.is_due.ensures.legal c.requires in
    enters-same _ _ (Exchange (keyed c.args.tenant.now c.args.job.now)) is c.in-Ok.ensures.workers c.in-Ok.ensures.inside (exchange-entered _ _ _ c.in-Some.at (keyed c.args.tenant.now c.args.job.now) c.in-Some.ensures.value (test-yes c.is_named.result c.is_named.ensures c.if-not-is_named.false) c.in-Ok.ensures.ok) refl
