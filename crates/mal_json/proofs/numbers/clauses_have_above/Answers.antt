use Rattle.std.proofs.Common.{◌∙◌}
use Rattle.spec_json.specs.Numbers.{is_above}
use Rattle.mal_json.proofs.Items.{lists_any}
use Rattle.mal_json.proofs.numbers.clauses_have_above.Goals as goal

pub returns : goal.returns
returns c = c.lists_have_above.ensures ∙ lists_any (is_above c.args.variables) _ _ c.items_at.ensures
