use Rattle.std.proofs.Common.{refl, sym, ◌∙◌}
use Rattle.mal_base.proofs.Padding.{padded-name}
use Rattle.mal_base.proofs.name.Name.of.Goals as goal

pub invariant_of-result : goal.invariant_of-result
invariant_of-result c = rw c.copy_from_slice.ensures.after (padded-name _ _ (sym c.is_name_text.ensures ∙ c.if-not-is_name_text.false) refl)
