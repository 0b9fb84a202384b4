use Rattle.std.proofs.Common.{refl, ◌∙◌}
use Rattle.spec_hall.specs.Dressed.{keyed}
use Rattle.spec_hall.specs.Events.{Open}
use Rattle.mal_hall.proofs.ApplyLemmas.{fault-is, open-entered, open-refused}
use Rattle.mal_hall.proofs.InsideLemmas.{enters-same, stands}
use Rattle.mal_hall.proofs.hall.Hall.enter_open.Goals as goal

pub returns-in-Ok-clause-entered : goal.returns-in-Ok-clause-entered
returns-in-Ok-clause-entered c =
    let is = stands _ c.workers.result (c.workers.ensures.value ∙ c.history.ensures.workers) c.workers.ensures.some c.workers.ensures.bound c.history.ensures.legal c.requires in
    enters-same _ _ (Open (keyed c.args.tenant c.args.job) c.args.ask) is c.in-Ok.ensures.workers c.in-Ok.ensures.inside (open-entered _ _ _ (keyed c.args.tenant c.args.job) c.args.ask c.in-Ok.ensures.call) refl

pub returns-in-Err-clause-refused : goal.returns-in-Err-clause-refused
returns-in-Err-clause-refused c = λ is may. open-refused _ _ _ (keyed c.args.tenant c.args.job) c.args.ask c.in-Err.fault c.in-Err.ensures.call (c.refusal_to_open.ensures.refused (fault-is _ _ is) (keyed c.args.tenant c.args.job) c.args.ask) may
