use Rattle.std.proofs.Common.{arith, refl, sym, ◌∙◌}
use Rattle.std.proofs.lemmas.Option.{slice_get_read}
use Rattle.mal_posts.proofs.CursorLemmas.{place-found, place-none, place-passed}
use Rattle.mal_posts.proofs.cursor.place_of.Goals as goal

pub returns-then-is_of : goal.returns-then-is_of
returns-then-is_of c =
    place-found c.args.tenant c.args.jobs.now c.loop-place.place c.index-jobs-place.result _ c.loop-place.invariant (slice_get_read c.args.jobs.now _ c.loop-place.place c.index-jobs-place.result refl (omega arith) c.index-jobs-place.is) (sym c.is_of.ensures ∙ c.if-is_of.true)

pub loop-place-preserved : goal.loop-place-preserved
loop-place-preserved c =
    place-passed c.args.tenant c.args.jobs.now c.loop-place.place c.index-jobs-place.result _ c.loop-place.invariant (slice_get_read c.args.jobs.now _ c.loop-place.place c.index-jobs-place.result refl (omega arith) c.index-jobs-place.is) (sym c.is_of.ensures ∙ c.if-is_of.false)

pub returns : goal.returns
returns c = place-none c.args.tenant c.args.jobs.now c.loop-place.place _ _ c.loop-place.invariant (omega arith) refl
