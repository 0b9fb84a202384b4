use Rattle.std.proofs.Common.{◌+◌, ◌≤◌, length, take, refl, sym, ◌∙◌, arith}
use Rattle.std.proofs.lemmas.List.{length-take-le}
use Rattle.mal_account.proofs.Parts.{passed-more, passed-line, passed-cut}
use Rattle.mal_account.proofs.reading.cut.Goals as goal

pub slice_bounds-result-end : goal.slice_bounds-result-end
slice_bounds-result-end c =
    let line : c.loop-row.start + length c.in-Some.row.now ≤ length c.args.text.now = passed-line c.args.text.now c.loop-row.rest.now c.in-Some.after.now c.in-Some.row.now c.loop-row.start c.loop-row.invariant c.in-Some.ensures.lines in
    sym (length-take-le c.loop-row.start c.args.text.now (omega arith))

pub returns-then-is_word_line : goal.returns-then-is_word_line
returns-then-is_word_line c =
    passed-cut c.args.text.now c.loop-row.rest.now c.in-Some.after.now c.in-Some.row.now (take c.loop-row.start c.args.text.now) c.loop-row.start c.loop-row.invariant c.in-Some.ensures.lines (sym c.is_word_line.ensures ∙ c.if-is_word_line.true) refl

pub overflow_add-start-in-Some : goal.overflow_add-start-in-Some
overflow_add-start-in-Some c =
    let line : c.loop-row.start + length c.in-Some.row.now ≤ length c.args.text.now = passed-line c.args.text.now c.loop-row.rest.now c.in-Some.after.now c.in-Some.row.now c.loop-row.start c.loop-row.invariant c.in-Some.ensures.lines in
    omega arith

pub loop-row-preserved : goal.loop-row-preserved
loop-row-preserved c =
    passed-more c.args.text.now c.loop-row.rest.now c.in-Some.after.now c.in-Some.row.now c.loop-row.start (c.loop-row.start + (length c.in-Some.row.now + 1)) c.loop-row.invariant c.in-Some.ensures.lines (sym c.is_word_line.ensures ∙ c.if-is_word_line.false) refl
