use Rattle.std.proofs.Common.{◌∙◌}
use Rattle.spec_json.specs.Numbers.{is_none}
use Rattle.mal_json.proofs.Items.{numbers_any}
use Rattle.mal_json.proofs.numbers.list_has_none.Goals as goal

pub returns : goal.returns
returns c = c.any_none.ensures ∙ numbers_any is_none _ _ c.items.ensures
