use Rattle.spec_core.proofs.SearchLemmas.{search-goes-on, search-asks}
use Rattle.spec_core.proofs.search_goes_on.Goals as goal

pub returns-clause-goes_on : goal.returns-clause-goes_on
returns-clause-goes_on c = search-goes-on

pub returns-clause-asks : goal.returns-clause-asks
returns-clause-asks c = search-asks
