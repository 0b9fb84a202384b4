use Rattle.std.proofs.Common.{◌≡◌, ◌<◌, ◌≤◌, length, ◌∙◌, ap, arith}
use Rattle.spec_cluster.specs.Clusters.{Cluster}
use Rattle.mal_cluster.proofs.KeptLemmas.{histories-length}
use Rattle.mal_cluster.proofs.MovingLemmas.{on-err}
use Rattle.mal_cluster.proofs.TurningLemmas.{begun-more, turned-begun, turning-begun, turning-broken, turning-first, turning-last, turning-next}
use Rattle.mal_cluster.proofs.cluster.Cluster.turn_all.Goals as goal

pub loop-at-init : goal.loop-at-init
loop-at-init c = turning-first c.args.every c.args.self.now

pub turn_at-requires : goal.turn_at-requires
turn_at-requires c =
    let many : length c.args.self.now.halls ≡ length c.self.inside.halls.items = rw (← c.self.view_is) (histories-length c.self.inside.halls.items) in
    omega (arith, many, c.loop-at.invariant.size, c.loop-at-test.true, c.len-at-end.ensures)

pub returns-in_err-turn_at-clause-moves : goal.returns-in_err-turn_at-clause-moves
returns-in_err-turn_at-clause-moves c = ap (λ (x : Cluster). x.moves) c.turn_at.ensures.turns.kept ∙ c.loop-at.invariant.moves

pub returns-in_err-turn_at-clause-begun : goal.returns-in_err-turn_at-clause-begun
returns-in_err-turn_at-clause-begun c =
    let many : length c.args.self.now.halls ≡ length c.self.inside.halls.items = rw (← c.self.view_is) (histories-length c.self.inside.halls.items) in
    let low : c.loop-at.at < length c.loop-at.self.halls = omega (arith, many, c.loop-at.invariant.size, c.loop-at-test.true, c.len-at-end.ensures) in
    begun-more c.args.self.now c.loop-at.self c.turn_at.new.self (turning-begun c.args.every c.loop-at.at c.args.self.now c.loop-at.self c.loop-at.invariant) (turned-begun c.loop-at.self c.loop-at.at c.turn_at.new.self low c.turn_at.ensures.turns)

pub returns-in_err-turn_at-clause-turning : goal.returns-in_err-turn_at-clause-turning
returns-in_err-turn_at-clause-turning c =
    let many : length c.args.self.now.halls ≡ length c.self.inside.halls.items = rw (← c.self.view_is) (histories-length c.self.inside.halls.items) in
    let low : c.loop-at.at < length c.loop-at.self.halls = omega (arith, many, c.loop-at.invariant.size, c.loop-at-test.true, c.len-at-end.ensures) in
    on-err _ c.from_residual.result (c.loop-at.at, turning-broken c.args.every c.loop-at.at c.args.self.now c.loop-at.self c.turn_at.new.self c.loop-at.invariant low c.turn_at.ensures.turns c.in_err-turn_at.ensures.short)

pub loop-at-preserved : goal.loop-at-preserved
loop-at-preserved c =
    let many : length c.args.self.now.halls ≡ length c.self.inside.halls.items = rw (← c.self.view_is) (histories-length c.self.inside.halls.items) in
    let low : c.loop-at.at < length c.loop-at.self.halls = omega (arith, many, c.loop-at.invariant.size, c.loop-at-test.true, c.len-at-end.ensures) in
    turning-next c.args.every c.loop-at.at c.args.self.now c.loop-at.self c.turn_at.new.self c.loop-at.invariant low c.turn_at.ensures.turns c.in_ok-turn_at.ensures.turn

pub returns-clause-turned : goal.returns-clause-turned
returns-clause-turned c =
    let many : length c.args.self.now.halls ≡ length c.self.inside.halls.items = rw (← c.self.view_is) (histories-length c.self.inside.halls.items) in
    let high : length c.args.self.now.halls ≤ c.loop-at.at = omega (arith, many, c.loop-at-test.false, c.len-at-end.ensures) in
    turning-last c.args.every c.loop-at.at c.args.self.now c.loop-at.self c.loop-at.invariant high

pub returns-clause-moves : goal.returns-clause-moves
returns-clause-moves c = c.loop-at.invariant.moves

pub returns-clause-begun : goal.returns-clause-begun
returns-clause-begun c = turning-begun c.args.every c.loop-at.at c.args.self.now c.loop-at.self c.loop-at.invariant
