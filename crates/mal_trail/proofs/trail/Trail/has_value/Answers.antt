use Rattle.std.proofs.Common.{refl, sym, ◌∙◌}
use Rattle.mal_trail.proofs.PlaceLemmas.{has-either}
use Rattle.mal_trail.proofs.trail.Trail.has_value.Goals as goal

pub returns-then-is_true : goal.returns-then-is_true
returns-then-is_true c =
    let t = rw c.literal.ensures at (sym c.is_true.ensures ∙ c.if-is_true.true) in
    c.if-is_true.true ∙ sym (has-either c.args.self.now.entries c.args.var ∙ rw t refl)

pub returns-else-is_true : goal.returns-else-is_true
returns-else-is_true c =
    let t = rw c.literal.ensures at (sym c.is_true.ensures ∙ c.if-is_true.false) in
    c.is_true-else-is_true.ensures ∙ rw c.literal-else-is_true.ensures (sym (has-either c.args.self.now.entries c.args.var ∙ rw t refl))
