use Rattle.mal_core.proofs.InputLemmas.{spelled_served}
use Rattle.mal_core.proofs.input_laws.spelled_is_served.Goals as goal

pub returns : goal.returns
returns c = spelled_served
