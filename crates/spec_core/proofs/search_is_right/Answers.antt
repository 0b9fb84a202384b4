use Rattle.spec_core.proofs.SearchLemmas.{search-is-right, unknown-is-told}
use Rattle.spec_core.proofs.search_is_right.Goals as goal

pub returns-clause-right : goal.returns-clause-right
returns-clause-right c = search-is-right

pub returns-clause-unknown : goal.returns-clause-unknown
returns-clause-unknown c = unknown-is-told
