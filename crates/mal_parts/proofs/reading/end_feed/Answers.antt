use Rattle.std.proofs.Common.{option_to_list, ◌∙◌}
use Rattle.spec_feed.specs.Reading.{closings}
use Rattle.mal_parts.proofs.ReadingLemmas.{by_fault, by_same, ends_at_fault, ends_short, ends_whole, on_err, on_ok}
use Rattle.mal_parts.specs.Reading.{end_by}
use Rattle.mal_parts.specs.declared.reading.ReadEnd.TheVariants as stop
use Rattle.mal_parts.proofs.reading.end_feed.Goals as goal

pub returns-in-Ok-answer-clause-read : goal.returns-in-Ok-answer-clause-read
returns-in-Ok-answer-clause-read g c said left left_now at h =
    ends_whole said _ _ _ left left_now c.args.progress.now.feeder c.args.progress.now.open (option_to_list c.in-Ok.post) (closings c.end.new.self.feed) _
    c.read_from_the_start.ensures at h c.in-Ok.ensures.ends (on_ok _ _ c.in-Ok-answer.is c.post_line-pass.ensures.posted) c.close_rest.ensures.ends

pub returns-in-Err-answer-clause-read : goal.returns-in-Err-answer-clause-read
returns-in-Err-answer-clause-read g c said left left_now at h =
    ends_short said _ _ left left_now c.args.progress.now.feeder c.args.progress.now.open _ h
    (by_same stop.OutOfMemory _ _ _ _ c.args.progress.now.open c.keys-in-Err-answer.result.now
    (on_err _ _ c.in-Err-answer.is c.post_line-pass.ensures.refused)
    (c.keys-in-Err-answer.ensures ∙ on_err _ _ c.in-Err-answer.is c.post_line-pass.ensures.kept)
    c.close_after-in-Err-answer.ensures.ends)

pub returns-in-Err-clause-read : goal.returns-in-Err-clause-read
returns-in-Err-clause-read g c said left left_now at h =
    ends_at_fault said _ _ left left_now c.args.progress.now.feeder c.args.progress.now.open c.in-Err.fault _
    c.read_from_the_start.ensures at h c.in-Err.ensures.next c.in-Err.ensures.fails
    (by_fault (end_by c.in-Err.fault) c.end_by.result _ _ _ c.args.progress.now.open c.keys.result.now c.end_by.ensures c.keys.ensures c.close_after.ensures.ends)
