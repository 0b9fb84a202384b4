use Rattle.std.proofs.Common.{◌∙◌}
use Rattle.mal_parcel.proofs.ReplayedLemmas.{start-unnumbered}
use Rattle.mal_parcel.proofs.following.start.Goals as goal

pub returns : goal.returns
returns c = c.in_ok-start.ensures.ok ∙ start-unnumbered c.args.job.now c.args.index c.requires.starts
