use Rattle.std.proofs.Common.{refl}
use Rattle.std.specs.Fmt.{digits}
use Rattle.std.specs.Str.{is_utf8, chars}
use Rattle.serde_json.proofs.OnLiterals.{serde_json_on_literals}
use Rattle.spec_json.specs.Shape.{json_in}
use Rattle.spec_json.specs.Examples.{ReadingExamples, FaultExamples, LimitExamples}

pub reading_examples : ReadingExamples
unfolding json_in is_utf8 chars serde_json_on_literals
reading_examples = record { no_job = refl; one_job = refl; other_order = refl; last_of_a_key = refl; changed_ask = refl }

pub fault_examples : FaultExamples
unfolding json_in digits is_utf8 chars serde_json_on_literals
fault_examples = record { cut_short = refl; no_text = refl; lone_surrogate = refl; no_object = refl; another_key = refl; no_list = refl; no_job = refl; priority_zero = refl; no_whole_number = refl; shape_before_range = refl; duplicate = refl; negative_variables = refl; literal_zero = refl; too_many_variables = refl; variable_too_large = refl; assumption_too_large = refl; opposite = refl; change_out_of_range = refl; step_of_both = refl; line = refl }

pub limit_examples : LimitExamples
unfolding json_in is_utf8 chars serde_json_on_literals
limit_examples = record { second_job_of_tenant = refl; second_revision = refl }
