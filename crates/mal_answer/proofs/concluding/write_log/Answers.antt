use Rattle.std.proofs.Common.{arith}
use Rattle.mal_answer.proofs.Prefixes.{prefix-behind}
use Rattle.mal_answer.specs.Answers.{hall_text}
use Rattle.mal_answer.proofs.concluding.write_log.Goals as goal

pub returns-in_err-write_history-clause-prefix : goal.returns-in_err-write_history-clause-prefix
returns-in_err-write_history-clause-prefix g c = prefix-behind hall_text c.args.halls.now c.loop-hall.hall-index c.hall-item.result c.hall-item.result _ _ _ (omega arith) c.hall-item.is c.loop-hall.invariant.gained c.write_history.ensures.prefix
