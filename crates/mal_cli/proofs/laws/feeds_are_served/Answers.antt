use Rattle.mal_cli.proofs.LiveLemmas.{feeds-are-served}
use Rattle.mal_cli.proofs.laws.feeds_are_served.Goals as goal

pub returns : goal.returns
returns c = feeds-are-served
