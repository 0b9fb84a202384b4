use Rattle.mal_answer.proofs.Lawful.{max_inputs-read}
use Rattle.mal_cli.proofs.optima.optimize.Goals as goal

pub search_text-requires-clause-lawful : goal.search_text-requires-clause-lawful
search_text-requires-clause-lawful c = max_inputs-read
