use Rattle.spec_max.proofs.Forms.{counter_in_form, cost_below_within}
use Rattle.spec_max.proofs.counter_is_in_form.Goals as goal

pub returns-clause-clauses : goal.returns-clause-clauses
returns-clause-clauses c = counter_in_form

pub returns-clause-assumptions : goal.returns-clause-assumptions
returns-clause-assumptions c = cost_below_within
