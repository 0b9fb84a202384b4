use Rattle.std.proofs.Common.{refl, ◌∙◌}
use Rattle.mal_cluster.proofs.MovingLemmas.{on-err}
use Rattle.mal_cluster.proofs.TurningLemmas.{goes-first, goes-last, goes-sliced, goes-waited, stops-first, stops-sliced, stops-wanting, turned-first, turned-more}
use Rattle.mal_cluster.proofs.rounds.take_turn.Goals as goal

pub loop-init : goal.loop-init
loop-init c = record { workers = refl; turns = turned-first c.args.hall.now.workers c.args.hall.now.events c.requires; goes = goes-first c.args.hall.now.workers c.args.every c.args.hall.now.events; stops = stops-first c.args.hall.now.workers c.args.every c.args.hall.now.events }

pub turn-requires : goal.turn-requires
turn-requires c = record { home = c.loop.invariant.turns.home }

pub returns-in_err-turn-clause-workers : goal.returns-in_err-turn-clause-workers
returns-in_err-turn-clause-workers c = c.turn.ensures.workers ∙ c.loop.invariant.workers

pub returns-in_err-turn-clause-short : goal.returns-in_err-turn-clause-short
returns-in_err-turn-clause-short c = on-err _ c.from_residual.result (stops-wanting c.args.hall.now.workers c.loop.hall.workers c.args.every c.loop.counter c.args.hall.now.events c.loop.hall.events c.turn.new.self.events _ c.loop-test.true c.loop.invariant.workers c.loop.invariant.stops c.in_err-turn.ensures.turned)

pub returns-in_err-turn-clause-turns : goal.returns-in_err-turn-clause-turns
returns-in_err-turn-clause-turns c = turned-more c.args.hall.now.workers c.loop.hall.workers c.args.hall.now.events c.loop.hall.events c.turn.new.self.events c.turn.result c.loop.invariant.workers c.loop.invariant.turns c.turn.ensures.turned

pub returns-then-not-branch-clause-workers : goal.returns-then-not-branch-clause-workers
returns-then-not-branch-clause-workers c = c.turn.ensures.workers ∙ c.loop.invariant.workers

pub returns-then-not-branch-clause-turn : goal.returns-then-not-branch-clause-turn
returns-then-not-branch-clause-turn c = goes-waited c.args.hall.now.workers c.loop.hall.workers c.args.every c.loop.counter c.args.hall.now.events c.loop.hall.events c.turn.new.self.events c.in_ok-turn.field-0 c.loop-test.true c.loop.invariant.workers c.loop.invariant.goes c.in_ok-turn.ensures.turned c.if-not-branch.true

pub returns-then-not-branch-clause-turns : goal.returns-then-not-branch-clause-turns
returns-then-not-branch-clause-turns c = turned-more c.args.hall.now.workers c.loop.hall.workers c.args.hall.now.events c.loop.hall.events c.turn.new.self.events c.turn.result c.loop.invariant.workers c.loop.invariant.turns c.turn.ensures.turned

pub loop-preserved : goal.loop-preserved
loop-preserved c = record {
  workers = c.turn.ensures.workers ∙ c.loop.invariant.workers;
  turns = turned-more c.args.hall.now.workers c.loop.hall.workers c.args.hall.now.events c.loop.hall.events c.turn.new.self.events c.turn.result c.loop.invariant.workers c.loop.invariant.turns c.turn.ensures.turned;
  goes = goes-sliced c.args.hall.now.workers c.loop.hall.workers c.args.every c.loop.counter c.args.hall.now.events c.loop.hall.events c.turn.new.self.events c.in_ok-turn.field-0 c.loop-test.true c.loop.invariant.workers c.loop.invariant.goes c.in_ok-turn.ensures.turned c.if-not-branch.false;
  stops = stops-sliced c.args.hall.now.workers c.loop.hall.workers c.args.every c.loop.counter c.args.hall.now.events c.loop.hall.events c.turn.new.self.events c.in_ok-turn.field-0 c.loop-test.true c.loop.invariant.workers c.loop.invariant.stops c.in_ok-turn.ensures.turned c.if-not-branch.false;
}

pub returns-clause-workers : goal.returns-clause-workers
returns-clause-workers c = c.loop.invariant.workers

pub returns-clause-turn : goal.returns-clause-turn
returns-clause-turn c = goes-last c.args.hall.now.workers c.args.every c.loop.counter c.args.hall.now.events c.loop.hall.events c.loop-test.false c.loop.invariant.goes

pub returns-clause-turns : goal.returns-clause-turns
returns-clause-turns c = c.loop.invariant.turns
