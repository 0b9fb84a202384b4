use denote.Param.Send.{sendable}
use Rattle.std.proofs.Common.{ℕ, refl, sym, subst}
use Rattle.mal_turn.specs.Tokens.{view}
use Rattle.mal_service.specs.Passes.{LeavesHall}
use Rattle.mal_pool.proofs.Sharings.{come_known}
use Rattle.mal_pool.specs.Calls.{calls_of}
use Rattle.mal_pool.proofs.Crossings.{board-sync, pass-send}
use Rattle.mal_pool.proofs.run.run_by_service.Goals as goal

pub run_with-requires-send-B-Pass : goal.run_with-requires-send-B-Pass
run_with-requires-send-B-Pass g c κs within = search (pass-send, sendable) depth 20

pub run_with-requires-sync-B : goal.run_with-requires-sync-B
run_with-requires-sync-B g c κs within = search (board-sync, sendable) depth 20

pub returns-clause-came : goal.returns-clause-came
returns-clause-came g c =
    come_known view _ _ calls_of (λ v past. LeavesHall c.args.workers past v) _ _ _ c.run_with.result
    (λ p. refl)
    (λ p past left. subst (λ (w : ℕ). LeavesHall w past (view p)) (sym c.requires.size) left)
    c.run_with.ensures.came
