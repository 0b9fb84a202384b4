use Rattle.std.proofs.Common.{sym, ◌∙◌, ◌<◌, length, arith}
use Rattle.std.proofs.lemmas.Bool.{false≢true}
use Rattle.mal_store.proofs.EntryLemmas.{under-at, under-past, other-at}
use Rattle.mal_store.proofs.index.position_of.Goals as goal
use Rattle.mal_store.proofs.index.position_of.Goals.{else-place-entries-via-then-place-entries+else-has_id-2, else-place-entries-via-else-place-entries}

pub returns-then-has_id : goal.returns-then-has_id
returns-then-has_id c =
    let inside : c.guess_of-guess.result < length c.args.entries.now = omega (arith, c.if-guess-entries.true) in
    (inside, under-at 1 c.args.id c.args.entries.now c.guess_of-guess.result c.index-entries-guess.result c.requires inside c.index-entries-guess.is (c.has_id.ensures.0 c.if-has_id.true))

pub returns-then-has_id-2 : goal.returns-then-has_id-2
returns-then-has_id-2 c =
    let inside : c.place_of-place.result < length c.args.entries.now = omega (arith, c.if-place-entries.true) in
    (inside, under-at 1 c.args.id c.args.entries.now c.place_of-place.result c.index-entries-place.result c.requires inside c.index-entries-place.is (c.has_id-then-place-entries.ensures.0 c.if-has_id-2.true))

pub returns : goal.returns
returns c =
    let place = c.place_of-place in
    under-past c.args.id place.result c.args.entries.now c.requires place.ensures.below place.ensures.above (elim c.else-place-entries.branch [
      | else-place-entries-via-then-place-entries+else-has_id-2 w ↦ λ d l. other-at c.args.id place.result c.args.entries.now w.index-entries-place.result d l w.index-entries-place.is (λ q. false≢true (sym w.if-has_id-2.false ∙ w.has_id-then-place-entries.ensures.1 q))
      | else-place-entries-via-else-place-entries w ↦ λ d l. absurd (omega (arith, l, w.if-place-entries.false))
    ])
