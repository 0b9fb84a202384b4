-- What the answer of reading an instance says.
use Rattle.spec_core.specs.Core as core
use Rattle.mal_core.specs.declared.input.Instance.{Instance}

-- an instance as definitions see it
abbrev pub seen_instance : Instance → core.Instance
seen_instance w = record { formula = w.formula; assumptions = w.assumptions.items }
