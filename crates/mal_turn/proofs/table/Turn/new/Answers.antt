use Rattle.std.proofs.Common.{rules}
use Rattle.mal_turn.proofs.Keeps.{opens}
use Rattle.mal_turn.proofs.table.Turn.new.Goals as goal

pub new-requires : goal.new-requires
new-requires g c = opens g.T.Recorded.stands _ c.args.value (search rules) c.requires
