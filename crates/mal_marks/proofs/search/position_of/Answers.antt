use Rattle.std.proofs.Common.{sym, ◌∙◌, ◌<◌, length, arith}
use Rattle.std.proofs.lemmas.Bool.{false≢true}
use Rattle.mal_marks.proofs.MarkLemmas.{under-at, under-past, other-at}
use Rattle.mal_marks.proofs.search.position_of.Goals as goal
use Rattle.mal_marks.proofs.search.position_of.Goals.{else-place-marks-via-then-place-marks+else-has_id, else-place-marks-via-else-place-marks}

pub returns-then-has_id : goal.returns-then-has_id
returns-then-has_id c =
    let inside : c.place_of-place.result < length c.args.marks.now = omega (arith, c.if-place-marks.true) in
    (inside, under-at 1 c.args.id c.args.marks.now c.place_of-place.result c.index-marks-place.result c.requires inside c.index-marks-place.is (c.has_id.ensures.0 c.if-has_id.true))

pub returns : goal.returns
returns c =
    let place = c.place_of-place in
    under-past c.args.id place.result c.args.marks.now c.requires place.ensures.below place.ensures.above (elim c.else-place-marks.branch [
      | else-place-marks-via-then-place-marks+else-has_id w ↦ λ d l. other-at c.args.id place.result c.args.marks.now w.index-marks-place.result d l w.index-marks-place.is (λ q. false≢true (sym w.if-has_id.false ∙ w.has_id.ensures.1 q))
      | else-place-marks-via-else-place-marks w ↦ λ d l. absurd (omega (arith, l, w.if-place-marks.false))
    ])
