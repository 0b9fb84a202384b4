use Rattle.std.proofs.Common.{◌∙◌, refl}
use Rattle.mal_freeze.specs.Imaged.{IsImage}
use Rattle.mal_freeze.specs.Parted.{node_of}
use Rattle.mal_cdcl.proofs.ImageLemmas.{formed-node, formed-turned}
use Rattle.mal_cdcl.proofs.node.Node.of_image.Goals as goal

pub invariant_of-result : goal.invariant_of-result
invariant_of-result g c =
    let n = node_of c.parts-parts.result.now in
    let image : IsImage n = rw (← c.parts-parts.ensures.value) at c.parts-parts.ensures.form in
    let room = rw (← c.parts-parts.ensures.value) at c.in_ok-trail.ensures.room in (
      rw (c.in_ok-from_slice.ensures.items, c.in_ok-from_slice-2.ensures.items, c.as_slice-2.ensures.value, c.as_slice-4.ensures.value, c.in_ok-engine.ensures.clauses, c.as_slice.ensures.value) (formed-node n c.in_ok-trail.trail.room c.in_ok-of_list.field-0 room c.in_ok-of_list.ensures.index (c.in_ok-of_list.ensures.list ∙ c.as_slice-3.ensures.value) image.form),
      c.in_ok-engine.ensures.fits,
      record { valued = rw c.in_ok-of_list.ensures.passed refl; assumed = refl },
    )

pub of_list-requires-clause-turned : goal.of_list-requires-clause-turned
of_list-requires-clause-turned g c =
    let n = node_of c.parts-parts.result.now in
    let image : IsImage n = rw (← c.parts-parts.ensures.value) at c.parts-parts.ensures.form in
    rw c.as_slice-3.ensures.value (formed-turned n image.form)
