use Rattle.std.proofs.Common.{◌∙◌}
use Rattle.spec_json.specs.Numbers.{is_above}
use Rattle.mal_json.proofs.Items.{numbers_any}
use Rattle.mal_json.proofs.numbers.assumptions_have_above.Goals as goal

pub returns : goal.returns
returns c = c.any_above.ensures ∙ numbers_any (is_above c.args.variables) _ _ c.items_at.ensures
