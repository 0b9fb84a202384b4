-- The values of a list, as they stand in memory.
use Rattle.std.specs.Prelude.{ℤ, List, map}
use Rattle.serde_json.specs.View.{view}
use Rattle.serde_json.specs.declared.value.Value.{Value}
use Rattle.spec_json.specs.Shape.{numbers_in, whole_in}

-- the numbers of values
abbrev pub numbers_of : List Value → List ℤ
numbers_of values = map whole_in (map view values)

-- the numbers of each of several lists
abbrev pub lists_of : List Value → List (List ℤ)
lists_of values = map numbers_in (map view values)
