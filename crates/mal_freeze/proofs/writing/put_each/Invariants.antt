use Rattle.std.proofs.Common.{◌≡◌, ◌++◌, take}
use Rattle.std.specs.List.{flat_map, AllByRecursion}
use Rattle.mal_freeze.proofs.writing.put_each.Given as goal

abbrev pub invariant-loop-piece : goal.invariant-loop-piece
invariant-loop-piece g l =
    record {
      spelled_so : l.out.items ≡ l.initial.out.items ++ flat_map g.P.Piece.spelled (take l.piece-index l.pieces);
      fit : AllByRecursion g.P.Piece.fits (take l.piece-index l.pieces);
    }
