use Rattle.std.proofs.Common.{◌≡◌, take}
use Rattle.std.specs.Io.KnownBytes.{Appends}
use Rattle.mal_answer.specs.Answers.{logged}
use Rattle.mal_answer.proofs.concluding.write_log.Given as goal

abbrev pub invariant-loop-hall : goal.invariant-loop-hall
invariant-loop-hall g l = let sink = g.L.Sink in record { gained : Appends (sink.got l.fn.log) (sink.got l.log) (logged (take l.hall-index l.halls)); counted : sink.faults l.log ≡ sink.faults l.fn.log }
