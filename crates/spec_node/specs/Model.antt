use Rattle.std.specs.Prelude.{Bool, true, List, map}
use Rattle.mal_base.specs.Literals.{literal}
use Rattle.spec_node.specs.State.{Node}
use Rattle.spec_node.specs.Value.{is_true}
use Rattle.spec_node.specs.Load.{counted}

-- the value of each variable from 1 on, by the trail; a variable without a value counts as false
abbrev pub model_of : Node → List Bool
model_of n = map (λ v. is_true n.trail (literal v true)) (counted 1 n.variables)
