use Rattle.std.proofs.Common.{◌≡◌, [], map, take}
use Rattle.std.specs.List.{All}
use Rattle.mal_pool.specs.Parts.{Fits}
use Rattle.mal_pool.proofs.run.deal.Given as goal

abbrev pub invariant-loop-part : goal.invariant-loop-part
invariant-loop-part g l = record {
  of : g.B.Desk.is_of l.board l.pass;
  calls : g.B.Desk.calls l.pass ≡ g.B.Desk.calls l.fn.pass;
  roles : All (λ x. g.B.Desk.is_of l.board x.pass × (Fits (g.B.Desk.workers l.board) l.jobs x.part × (g.B.Desk.calls x.pass ≡ []))) l.roles.items;
  parts : map (λ x. x.part) l.roles.items ≡ take l.part-index l.parts;
}
