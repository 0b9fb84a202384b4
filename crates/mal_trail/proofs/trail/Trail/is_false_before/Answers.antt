use Rattle.std.proofs.Common.{sym}
use Rattle.mal_trail.proofs.trail.Trail.is_false_before.Goals as goal

pub returns : goal.returns
returns c = sym (c.open_until.ensures c.args.count c.requires)
