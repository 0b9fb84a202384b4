use Rattle.spec_activity.proofs.RankLemmas.{before-itself, before-trans, before-total, before-rise}
use Rattle.spec_activity.proofs.order_is_strict.Goals as goal

pub returns-clause-strict : goal.returns-clause-strict
returns-clause-strict c index = record { irreflexive = before-itself index; transitive = before-trans index; total = before-total index }

pub returns-clause-forward : goal.returns-clause-forward
returns-clause-forward c = before-rise
