use Rattle.std.proofs.Common.{refl}
use Rattle.spec_seq.specs.Luby.{luby}
use Rattle.spec_learn.specs.Learning.{analysed_in}
use Rattle.spec_search.specs.DroppingLaws.{HasDrops, HasProfiles}
use Rattle.spec_search.specs.Examples.{HasLoads, HasSteps, HasLines, HasExamples}

has-loads : HasLoads
has-loads = record { turned = refl; turned_by_one = refl; odd_phases = refl; even_order = refl; even_phases = refl; tautology_keeps_its_number = refl }

has-steps : HasSteps
unfolding luby
has-steps = record { empty_formula_ends = refl; empty_formula_needs_two = refl; two_variables = refl; two_variables_end = refl; nothing_derived = refl; odd_node = refl; twenty_two_steps = refl; not_twenty_one = refl }

has-lines : HasLines
unfolding luby analysed_in
has-lines = record { learns = refl; goes_on = refl; order = refl; refutes = refl; goal = refl; at_once = refl; conflict_stays = refl; third_node = refl; waits = refl; room_is_used = refl }

pub examples : HasExamples
examples = record { loads = has-loads; steps_made = has-steps; lines = has-lines }

pub has-drops : HasDrops
has-drops = record { five_and_seven = refl; later = refl; spared = refl }

pub has-profiles : HasProfiles
unfolding luby analysed_in
has-profiles = record { waits = refl; longer = refl; shorter = refl; learns = refl; none_counted = refl; one_counted = refl; due = refl; not_yet = refl; never = refl; drops = refl; then_restarts = refl }
