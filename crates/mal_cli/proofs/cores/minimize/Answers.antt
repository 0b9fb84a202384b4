use Rattle.mal_answer.proofs.Lawful.{core_inputs-read}
use Rattle.mal_cli.proofs.cores.minimize.Goals as goal

pub search_text-requires-clause-lawful : goal.search_text-requires-clause-lawful
search_text-requires-clause-lawful c = core_inputs-read
