use Rattle.std.proofs.Common.{inl, refl}
use Rattle.mal_cluster.proofs.MovingLemmas.{on-err}
use Rattle.mal_cluster.proofs.TurningLemmas.{begun-more, err-then, going-broken}
use Rattle.mal_cluster.proofs.cluster.Cluster.go_round.Goals as goal

pub returns-clause-begun : goal.returns-clause-begun
returns-clause-begun c = begun-more c.args.self.now c.turn_all.new.self c.carry-carried.new.self c.turn_all.ensures.begun c.carry-carried.ensures.begun

pub returns-in_err-turn_all-clause-part : goal.returns-in_err-turn_all-clause-part
returns-in_err-turn_all-clause-part c = on-err _ c.from_residual.result (inl c.in_err-turn_all.ensures.turning)

pub returns-in_err-chosen-clause-part : goal.returns-in_err-chosen-clause-part
returns-in_err-chosen-clause-part c = on-err _ _ (going-broken c.args.every 0 c.args.self.now c.turn_all.new.self c.turn_all.new.self c.turn_all.ensures.begun.workers c.turn_all.ensures.moves c.in_ok-turn_all.ensures.turned refl)

pub returns-clause-part : goal.returns-clause-part
returns-clause-part c = err-then _ _ c.carry-carried.result (λ gone. going-broken c.args.every gone.0 c.args.self.now c.turn_all.new.self c.carry-carried.new.self c.turn_all.ensures.begun.workers c.turn_all.ensures.moves c.in_ok-turn_all.ensures.turned gone.1) c.carry-carried.ensures.gone
