use Rattle.std.proofs.Common.{◌∙◌}
use Rattle.spec_hall.specs.Dressed.{keyed}
use Rattle.mal_hall.proofs.ApplyLemmas.{enters-start}
use Rattle.mal_hall.proofs.InsideLemmas.{stands}
use Rattle.mal_hall.proofs.hall.Hall.enter_start.Goals as goal

pub returns-clause-entered : goal.returns-clause-entered
returns-clause-entered c =
    let is = stands _ c.workers.result (c.workers.ensures.value ∙ c.history.ensures.workers) c.workers.ensures.some c.workers.ensures.bound c.history.ensures.legal c.requires in
    enters-start _ _ _ (keyed c.args.tenant.now c.args.job.now) c.args.index c.args.worker c.in-Some.at _ is c.in-Some.ensures c.in-Ok.ensures.ok c.in-Ok.ensures.workers c.in-Ok.ensures.inside c.lodge.ensures.workers c.lodge.ensures.events c.lodge.ensures.inside
