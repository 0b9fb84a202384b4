use Rattle.std.proofs.Common.{◌∙◌}
use Rattle.spec_json.specs.Numbers.{is_none}
use Rattle.mal_json.proofs.Items.{lists_any}
use Rattle.mal_json.proofs.numbers.clauses_have_none.Goals as goal

pub returns : goal.returns
returns c = c.lists_have_none.ensures ∙ lists_any is_none _ _ c.items_at.ensures
