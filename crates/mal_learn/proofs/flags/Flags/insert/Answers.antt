use Rattle.mal_learn.proofs.FlagLemmas.{set-flag}
use Rattle.mal_learn.proofs.flags.Flags.insert.Goals as goal

pub returns : goal.returns
returns c = rw (← c.self.view_is) (set-flag c.self.inside.stamp c.args.place c.self.inside.stamps.items)
