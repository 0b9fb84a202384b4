use Rattle.std.proofs.Common.{◌∙◌}
use Rattle.mal_hall.proofs.DriveLemmas.{turns-behind}
use Rattle.mal_hall.proofs.hall.Hall.drive.Goals as goal

pub returns-in_err-turn-clause-turns : goal.returns-in_err-turn-clause-turns
returns-in_err-turn-clause-turns c = turns-behind _ _ _ _ _ c.loop.invariant.workers c.loop.invariant.turns c.in_err-turn.ensures.turned.turns

pub loop-preserved : goal.loop-preserved
loop-preserved c = record {
  workers = c.turn.ensures.workers ∙ c.loop.invariant.workers;
  inside = c.turn.ensures.inside ∙ c.loop.invariant.inside;
  turns = turns-behind _ _ _ _ _ c.loop.invariant.workers c.loop.invariant.turns c.turn.ensures.turned.turns;
  home = c.turn.ensures.turned.home;
}

pub returns-clause-turns : goal.returns-clause-turns
returns-clause-turns c = turns-behind _ _ _ _ _ c.loop.invariant.workers c.loop.invariant.turns c.turn.ensures.turned.turns
