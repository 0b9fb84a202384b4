use Rattle.mal_learn.proofs.FlagLemmas.{unset-flag}
use Rattle.mal_learn.proofs.flags.Flags.remove.Goals as goal

pub returns : goal.returns
returns c = rw (← c.self.view_is) (unset-flag c.self.inside.stamp c.args.place c.self.inside.stamps.items c.self.invariant.some)
