use Rattle.mal_watch.specs.LinkLaws.{watch-some}
use Rattle.mal_watch.proofs.link.Link.to.Goals as goal

pub returns : goal.returns
returns c = watch-some c.args.watch c.requires
