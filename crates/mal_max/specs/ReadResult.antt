-- What the answer of reading an instance says.
use Rattle.spec_max.specs.Optimum as max
use Rattle.mal_max.specs.declared.input.Instance.{Instance}

-- an instance as definitions see it
abbrev pub seen_instance : Instance → max.Instance
seen_instance w = record { formula = w.formula; softs = w.softs.items }
