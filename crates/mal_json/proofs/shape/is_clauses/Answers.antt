use Rattle.std.proofs.Common.{sym, ◌∙◌}
use Rattle.spec_json.specs.Shape.{is_numbers}
use Rattle.mal_json.proofs.Items.{list_passes}
use Rattle.mal_json.proofs.shape.is_clauses.Goals as goal

pub returns-then-is_list : goal.returns-then-is_list
returns-then-is_list c = list_passes is_numbers _ _ _ c.items.ensures (sym c.is_list.ensures ∙ c.if-is_list.true) c.are_numbers.ensures
