use Rattle.std.proofs.Common.{◌∙◌}
use Rattle.spec_script.proofs.GeneratedFormed.{clause-value, after-three}
use Rattle.mal_script.proofs.generating.clause.Goals as goal

pub returns-clause-value : goal.returns-clause-value
returns-clause-value c = clause-value c.args.draws.now c.of_lits.result c.as_slice.result.now (c.as_slice.ensures.value ∙ c.in_ok-lits.ensures.value) c.of_lits.ensures.rising c.of_lits.ensures.same

pub returns-clause-state : goal.returns-clause-state
returns-clause-state c = after-three c.args.draws.now c.of_lits.result c.literals.new.draws c.in_ok-lits.ensures.state
