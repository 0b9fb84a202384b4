use Rattle.mal_trail.proofs.FlipLemmas.{flipped}
use Rattle.mal_watch.proofs.watch_lists.partner.Goals as goal

pub returns : goal.returns
returns c = flipped c.args.watch
