use denote.Param.Send.{sendable}
use Rattle.mal_pool.proofs.Crossings.{board-sync, pass-send}
use Rattle.mal_tests.proofs.tests.boards.run_refused.Goals as goal

pub run_with-requires-send-B-Pass : goal.run_with-requires-send-B-Pass
run_with-requires-send-B-Pass g c κs within = search (pass-send, sendable) depth 20

pub run_with-requires-sync-B : goal.run_with-requires-sync-B
run_with-requires-sync-B g c κs within = search (board-sync, sendable) depth 20
