use Rattle.std.proofs.Common.{refl}
use Rattle.std.specs.Fmt.{digits}
use Rattle.spec_feed.specs.Reading.{read_feed}
use Rattle.spec_feed.specs.Examples.{FaultExamples, FaultLineExamples, ReadingExamples}

pub reading_examples : ReadingExamples
unfolding read_feed
reading_examples = record { empty = refl; one_job = refl; side_by_side = refl; of_one_tenant = refl; goes_on_with_itself = refl; tenant_in_a_job = refl; end_in_two_jobs = refl; closed_as_opened = refl }

pub fault_examples : FaultExamples
unfolding read_feed
fault_examples = record { no_tenant = refl; never_began = refl; has_ended = refl; of_another_tenant = refl; step_of_no_job = refl; end_of_no_job = refl; end_in_a_block = refl; block_cut_short = refl; tenant_in_a_block = refl; job_in_a_block = refl; duplicate_open = refl; duplicate_ended = refl; priority_zero = refl; third_tenant = refl; second_job_of_tenant = refl; second_revision = refl }

pub fault_line_examples : FaultLineExamples
unfolding digits
fault_line_examples = record { of_a_line = refl; too_long = refl }
