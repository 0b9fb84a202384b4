use Rattle.std.proofs.Common.{Err, ap}
use Rattle.mal_history.specs.Written.{line_at}
use Rattle.mal_replay.proofs.EnterLemmas.{refused-at, replayed-more}
use Rattle.mal_replay.proofs.replaying.enter.Goals as goal

pub returns-in-Ok-apply-clause-ok : goal.returns-in-Ok-apply-clause-ok
returns-in-Ok-apply-clause-ok c =
    let read = rw c.events.ensures at c.index-events-n.is in
    replayed-more c.args.script.now c.args.history.now c.args.n c.args.hall _ c.index-events-n.result c.requires.replayed c.requires.within read c.in-Ok-apply.ensures.workers (rw c.in-Ok.ensures at c.in-Ok-apply.ensures.applied) c.in-Ok-apply.ensures.inside

pub returns-in-Err-NotAllowed-clause-err : goal.returns-in-Err-NotAllowed-clause-err
returns-in-Err-NotAllowed-clause-err c =
    let read = rw c.events.ensures at c.index-events-n.is in
    let refused = c.in-Err-NotAllowed.ensures.refused (ap Err c.in-Err-NotAllowed.field-0-is) in
    refused-at c.args.script.now c.args.history.now c.args.n c.line.result (line_at c.args.history.now.lines) c.args.hall c.index-events-n.result c.requires.replayed c.history.ensures.legal c.requires.within read (rw c.in-Ok.ensures at refused) c.line.ensures
