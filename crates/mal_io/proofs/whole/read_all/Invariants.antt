use Rattle.std.proofs.Common.{◌≡◌, ◌+◌, ◌-◌, ◌<◌, vec_len}
use Rattle.std.specs.Io.KnownBytes.{Consumes}
use Rattle.mal_io.proofs.whole.read_all.Given as goal

abbrev pub invariant-pieces : goal.invariant-pieces
invariant-pieces g l = let source = g.S.Source in record {
  limit : l.limit ≡ l.max + 1;
  room : vec_len l.out < l.limit;
  taken : Consumes (source.left l.fn.source) (source.left l.source) l.out.items;
  counted : source.faults l.source ≡ source.faults l.fn.source;
}

abbrev pub decreases-pieces : goal.decreases-pieces
decreases-pieces g l = l.limit - vec_len l.out
