use Rattle.std.proofs.Common.{refl}
use Rattle.mal_parts.proofs.ReadingLemmas.{by_fault, by_same, ends_broken, ends_failed, ends_in, if_err, more_has_come, on_ok}
use Rattle.mal_parts.specs.Reading.{end_by}
use Rattle.mal_parts.specs.declared.reading.ReadEnd.TheVariants as stop
use Rattle.mal_parts.proofs.reading.read_piece.Goals as goal

pub returns-in_default-clause-read : goal.returns-in_default-clause-read
returns-in_default-clause-read g c said left h =
    ends_failed said _ _ left _ _ c.args.progress.now.feeder c.args.progress.now.open _ h c.in_default.ensures.bytes
    (by_same stop.Failed _ _ _ _ c.args.progress.now.open c.keys.result.now refl c.keys.ensures c.close_after-pass.ensures.ends)

pub returns-then-is_broken-clause-read : goal.returns-then-is_broken-clause-read
returns-then-is_broken-clause-read g c said left h =
    let (posts, posted, went) = on_ok _ _ c.in-Ok-answer.is c.take_piece-pass.ensures.went in
    ends_broken _ _ _ _ _ _ (more_has_come _ _ _ _ _ _ _ _ _ _ _ posts h c.in-Ok.ensures.bytes.0 posted went)

pub returns-in-Err-clause-read : goal.returns-in-Err-clause-read
returns-in-Err-clause-read g c said left h =
    let (posts, posted, stops) = if_err _ _ _ c.in-Err.is c.take_piece-pass.ensures.stopped in
    ends_in said _ _ _ left _ _ c.args.progress.now.feeder c.args.progress.now.open c.take_piece-pass.new.progress.open _ posts c.in-Err.fault _
    c.read_from_the_start.ensures h c.in-Ok.ensures.bytes.0 posted stops
    (by_fault (end_by c.in-Err.fault) c.end_by.result _ _ _ c.take_piece-pass.new.progress.open c.keys-in-Err.result.now c.end_by.ensures c.keys-in-Err.ensures c.close_after-pass-in-Err.ensures.ends)

pub returns-else-is_broken-clause-read : goal.returns-else-is_broken-clause-read
returns-else-is_broken-clause-read g c said left h =
    let (posts, posted, went) = on_ok _ _ c.in-Ok-answer.is c.take_piece-pass.ensures.went in
    more_has_come _ _ _ _ _ _ _ _ _ _ _ posts h c.in-Ok.ensures.bytes.0 posted went
