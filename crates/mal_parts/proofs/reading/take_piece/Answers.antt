use Rattle.std.proofs.Common.{refl, option_to_list, rules, ◌∙◌}
use Rattle.mal_parts.proofs.ReadingLemmas.{on_err, on_ok, stands_first, stands_last, stands_next, stands_refused}
use Rattle.mal_parts.proofs.reading.take_piece.Goals as goal

pub lines-init : goal.lines-init
lines-init g c = record { of = c.requires.of; numbers = refl; stands = stands_first _ _ _ _ c.requires.inside }

pub returns-in-Err-answer-clause-stopped : goal.returns-in-Err-answer-clause-stopped
returns-in-Err-answer-clause-stopped g c =
    stands_refused _ _ _ _ _ _ _ _ _ _ c.lines.invariant.stands
    (on_err _ _ c.in-Err-answer.is c.post_line-back.ensures.refused) (on_err _ _ c.in-Err-answer.is c.post_line-back.ensures.kept)

pub returns-in-None-clause-went : goal.returns-in-None-clause-went
returns-in-None-clause-went g c =
    stands_last _ c.lines.progress.feeder c.take.new.self _ _ _ _ c.lines.rest.now _ _ _ (option_to_list c.in-Ok.field-0.post) c.lines.invariant.stands
    (search rules) c.in-Ok.ensures.inside
    (on_ok _ _ c.in-Ok-answer.is c.post_line-back.ensures.posted) (on_ok _ _ c.in-Ok-answer.is c.post_line-back.ensures.noted)

pub lines-preserved : goal.lines-preserved
lines-preserved g c = record {
  of = c.post_line-back.ensures.of;
  numbers = c.post_line-back.ensures.numbers ∙ c.lines.invariant.numbers;
  stands =
      stands_next _ c.lines.progress.feeder c.take.new.self _ _ _ _ c.lines.rest.now c.in-Some.behind.now _ _ _ (option_to_list c.in-Ok.field-0.post) c.lines.invariant.stands
      (search rules) c.in-Ok.ensures.inside
      (on_ok _ _ c.in-Ok-answer.is c.post_line-back.ensures.posted) (on_ok _ _ c.in-Ok-answer.is c.post_line-back.ensures.noted);
}
