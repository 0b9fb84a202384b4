use Rattle.std.proofs.Common.{◌∙◌}
use Rattle.mal_hall.proofs.PhaseLemmas.{arranged-more}
use Rattle.mal_hall.proofs.hall.Hall.arrange.Goals as goal

pub returns-in_err-exchange_due-clause-due : goal.returns-in_err-exchange_due-clause-due
returns-in_err-exchange_due-clause-due c = arranged-more _ _ _ _ _ c.loop.invariant.workers c.loop.invariant.due c.in_err-exchange_due.ensures.due

pub loop-preserved : goal.loop-preserved
loop-preserved c = record {
  workers = c.exchange_due.ensures.workers ∙ c.loop.invariant.workers;
  inside = c.exchange_due.ensures.inside ∙ c.loop.invariant.inside;
  due = arranged-more _ _ _ _ _ c.loop.invariant.workers c.loop.invariant.due c.exchange_due.ensures.due;
  calm = c.in_ok-exchange_due.ensures.calm;
}

pub returns-clause-due : goal.returns-clause-due
returns-clause-due c = arranged-more _ _ _ _ _ c.loop.invariant.workers c.loop.invariant.due c.exchange_due.ensures.due
