use Rattle.mal_hall.proofs.DriveLemmas.{turns-behind}
use Rattle.mal_serve.proofs.finishing.bring_to_end.Goals as goal

pub returns-in-Err-clause-turns : goal.returns-in-Err-clause-turns
returns-in-Err-clause-turns c = turns-behind _ _ _ _ _ c.drive_once.ensures.workers c.drive_once.ensures.turns c.drive_once-in-Err.ensures.turns
