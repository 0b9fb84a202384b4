use Rattle.std.proofs.Common.{◌≡◌, List, ◌++◌}
use Rattle.std.specs.List.{All}
use Rattle.std.specs.Vec.Iter.{into_iter_items}
use Rattle.mal_pool.specs.Within.{IsWithin}
use Rattle.mal_pool.specs.declared.role.Played.{Played}
use Rattle.mal_pool.proofs.run.join_all.Given as goal

abbrev pub invariant-loop-one : goal.invariant-loop-one
invariant-loop-one g l = record {
  of : g.B.Desk.is_of l.board l.pass;
  rest : All (λ x. g.B.Desk.is_of l.board x.pass) (into_iter_items l.one-iterator);
  mine : IsWithin (g.B.Desk.calls l.fn.pass) (g.B.Desk.calls l.pass);
  told : (done : List (Played g.row.B-Pass.Denot)) × ((l.fn.played.items ≡ done ++ into_iter_items l.one-iterator) × All (λ x. IsWithin (g.B.Desk.calls x.pass) (g.B.Desk.calls l.pass)) done);
}
