use Rattle.std.proofs.Common.{sym, ◌∙◌}
use Rattle.spec_json.specs.Shape.{is_step_shape}
use Rattle.mal_json.proofs.Items.{list_passes}
use Rattle.mal_json.proofs.shape.is_steps.Goals as goal

pub returns-then-is_list : goal.returns-then-is_list
returns-then-is_list c = list_passes is_step_shape _ _ _ c.items.ensures (sym c.is_list.ensures ∙ c.if-is_list.true) c.are_step_shapes.ensures
