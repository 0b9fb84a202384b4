use Rattle.std.proofs.Common.{ap, sym, subst, ◌∙◌}
use Rattle.spec_node.specs.State.{Node}
use Rattle.mal_freeze.specs.Imaged.{IsImage}
use Rattle.mal_freeze.specs.Reading.{ArePartsOf}
use Rattle.mal_freeze.specs.Parted.{node_of}
use Rattle.mal_freeze.proofs.FieldLemmas.{good}
use Rattle.mal_freeze.proofs.CanonicalLemmas.{known_canonical, known_image, known_read}
use Rattle.mal_freeze.proofs.thawing.thaw_known.Goals as goal

pub of_form-requires : goal.of_form-requires
of_form-requires c =
    let p : ArePartsOf c.in-Ok.fields (node_of c.in-Some.parts) = rw c.in-Some.is at c.in_ok-parts_of.ensures in
    subst (λ (n : Node). IsImage n) (sym p.node) (known_image c.args.bytes.now c.in-Ok.fields c.in-Ok.ensures c.requires).1

pub returns : goal.returns
returns c =
    let p : ArePartsOf c.in-Ok.fields (node_of c.in-Some.parts) = rw c.in-Some.is at c.in_ok-parts_of.ensures in
    (known_image c.args.bytes.now c.in-Ok.fields c.in-Ok.ensures c.requires).0 ∙ ap (λ (n : Node). good n) (sym p.node ∙ sym c.of_form.ensures)

pub unreachable-requires : goal.unreachable-requires
unreachable-requires c = known_read c.args.bytes.now _ (rw c.in-Err-BadMagic.field-0-is at c.in-Err-BadMagic.ensures) c.requires

pub unreachable-requires-in-Err-Truncated : goal.unreachable-requires-in-Err-Truncated
unreachable-requires-in-Err-Truncated c = known_read c.args.bytes.now _ (rw c.in-Err-Truncated.field-0-is at c.in-Err-Truncated.ensures) c.requires

pub unreachable-requires-in-Err-BadField : goal.unreachable-requires-in-Err-BadField
unreachable-requires-in-Err-BadField c = known_read c.args.bytes.now _ (rw c.in-Err-BadField.field-0-is at c.in-Err-BadField.ensures) c.requires

pub unreachable-requires-in-Err-NotCanonical : goal.unreachable-requires-in-Err-NotCanonical
unreachable-requires-in-Err-NotCanonical c = known_read c.args.bytes.now _ (rw c.in-Err-NotCanonical.field-0-is at c.in-Err-NotCanonical.ensures) c.requires

pub unreachable-requires-in-None : goal.unreachable-requires-in-None
unreachable-requires-in-None c = known_canonical c.args.bytes.now c.in-Ok.fields c.in-Ok.ensures c.requires (rw c.in-None.is at c.in_ok-parts_of.ensures)
