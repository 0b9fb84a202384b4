use Rattle.std.proofs.Common.{rules, ◌∷◌, Some, sym, ap, ◌∙◌}
use Rattle.atomic_table.specs.Table.{rest}
use Rattle.mal_turn.specs.Steps.{Tabled}
use Rattle.mal_turn.proofs.table.Turn.take.Goals as goal

pub exchange-requires : goal.exchange-requires
exchange-requires g c = let e = c.wait.ensures.slot.1 in
    (search rules, (Some c.wait.ensures.slot.0, ap (λ (m : Tabled g.row.T.Denot g.row.T-Entry.Denot). m.1) e ∙ ap (λ (m : Tabled g.row.T.Denot g.row.T-Entry.Denot). (0, Some c.wait.ensures.slot.0) ∷ rest m.1) (sym e)))
