use Rattle.mal_max.proofs.InputLemmas.{spelled_served}
use Rattle.mal_max.proofs.input_laws.spelled_is_served.Goals as goal

pub returns : goal.returns
returns c = spelled_served
