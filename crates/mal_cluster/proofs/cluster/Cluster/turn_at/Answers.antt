use Rattle.std.proofs.Common.{◌<◌, List, length, subst}
use Rattle.spec_hall.specs.Turns.{TakesTurn}
use Rattle.mal_hall.specs.HallView.{HallView}
use Rattle.spec_cluster.specs.Rounds.{StopsShort}
use Rattle.mal_cluster.proofs.KeptLemmas.{histories-length}
use Rattle.mal_cluster.proofs.TurningLemmas.{calm-at, err-then, ok-then, turn-at, turned-at, turned-kept}
use Rattle.mal_cluster.proofs.cluster.Cluster.turn_at.Goals as goal

pub take_turn-requires : goal.take_turn-requires
take_turn-requires c =
    let halls : List HallView = c.self.inside.halls.items in
    let low : c.args.at < length halls = subst (λ n. c.args.at < n) (histories-length halls) (rw (← c.self.view_is) at c.requires) in
    calm-at c.self.inside.workers halls c.self.inside.moves.items c.args.at c.index_mut.result.now c.index_mut.result.now c.self.invariant low c.index_mut.ensures.value

pub invariant_of-self : goal.invariant_of-self
invariant_of-self c =
    let halls : List HallView = c.self.inside.halls.items in
    let low : c.args.at < length halls = subst (λ n. c.args.at < n) (histories-length halls) (rw (← c.self.view_is) at c.requires) in
    turned-kept c.self.inside.workers halls c.self.inside.moves.items c.args.at c.index_mut.result.now c.take_turn.new.hall c.self.invariant low c.index_mut.ensures.value c.take_turn.ensures.workers c.take_turn.ensures.turns

pub returns-clause-turn : goal.returns-clause-turn
returns-clause-turn c =
    let halls : List HallView = c.self.inside.halls.items in
    let low : c.args.at < length halls = subst (λ n. c.args.at < n) (histories-length halls) (rw (← c.self.view_is) at c.requires) in
    rw (← c.self.view_is) (ok-then _ _ c.take_turn.result (turn-at c.self.inside.workers halls c.self.inside.moves.items c.args.at c.index_mut.result.now c.take_turn.new.hall c.self.invariant low c.index_mut.ensures.value (λ v past now. TakesTurn v c.args.every past now)) c.take_turn.ensures.turn)

pub returns-clause-short : goal.returns-clause-short
returns-clause-short c =
    let halls : List HallView = c.self.inside.halls.items in
    let low : c.args.at < length halls = subst (λ n. c.args.at < n) (histories-length halls) (rw (← c.self.view_is) at c.requires) in
    rw (← c.self.view_is) (err-then _ _ c.take_turn.result (turn-at c.self.inside.workers halls c.self.inside.moves.items c.args.at c.index_mut.result.now c.take_turn.new.hall c.self.invariant low c.index_mut.ensures.value (λ v past now. StopsShort v c.args.every past now)) c.take_turn.ensures.short)

pub returns-clause-turns : goal.returns-clause-turns
returns-clause-turns c =
    let halls : List HallView = c.self.inside.halls.items in
    let low : c.args.at < length halls = subst (λ n. c.args.at < n) (histories-length halls) (rw (← c.self.view_is) at c.requires) in
    rw (← c.self.view_is) (turned-at c.self.inside.workers halls c.self.inside.moves.items c.args.at c.index_mut.result.now c.take_turn.new.hall c.self.invariant low c.index_mut.ensures.value c.take_turn.ensures.turns)
