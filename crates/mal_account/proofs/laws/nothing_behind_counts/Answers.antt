use Rattle.mal_account.proofs.FirstLemmas.{history_fault_is_first, script_fault_is_first, script_fault_stays}
use Rattle.mal_account.proofs.laws.nothing_behind_counts.Goals as goal

pub returns-clause-stays : goal.returns-clause-stays
returns-clause-stays c = script_fault_stays

pub returns-clause-first : goal.returns-clause-first
returns-clause-first c = script_fault_is_first

pub returns-clause-history : goal.returns-clause-history
returns-clause-history c = history_fault_is_first c.fault_is_first.ensures
