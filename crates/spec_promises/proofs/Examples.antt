-- The worked examples, by computation.
use Rattle.std.proofs.Common.{refl}
use Rattle.std.specs.Fmt.{digits}
use Rattle.std.specs.Str.{is_utf8, chars}
use Rattle.serde_json.proofs.OnLiterals.{serde_json_on_literals}
use Rattle.spec_json.specs.Shape.{json_in}
use Rattle.spec_promises.specs.Examples.{HasCounts, HasHeadings, HasKeysInJson, HasTaken}
use Rattle.spec_promises.specs.Steps.{HasFirstSteps}

pub headings : HasHeadings
headings = record { none = refl; one = refl; two = refl }

pub first_steps : HasFirstSteps
unfolding json_in is_utf8 chars serde_json_on_literals
first_steps = record { variable = refl; demand = refl }

pub counts : HasCounts
counts = record { all = refl; one = refl; other = refl; none = refl; most = refl }

pub keys_in_json : HasKeysInJson
unfolding json_in is_utf8 chars serde_json_on_literals
keys_in_json = record { two = refl; repeated = refl; no_object = refl }

pub taken : HasTaken
unfolding digits
taken = record { claim = refl; lines = refl; under = refl; failing = refl; other_hints = refl }
