use Rattle.std.proofs.Common.{rules, ◌+◌, refl, sym, subst, eqb}
use prog.Atomic.{either}
use mathlib.Core.Option as lean
use Rattle.atomic_table.specs.Table.{Allows, step}
use Rattle.mal_turn.specs.Rule.{TurnRule}
use Rattle.mal_turn.specs.Steps.{Tabled, draws}
use Rattle.mal_turn.proofs.Keeps.{draws_keep}
use Rattle.mal_turn.proofs.table.Turn.try_draw.Goals as goal

pub compare_exchange-found-requires : goal.compare_exchange-found-requires
compare_exchange-found-requires g c =
    let n = c.args.next in
    let F = λ (m : Tabled g.row.T.Denot g.row.T-Entry.Denot). Allows (TurnRule g.T.Recorded.stands) c.args.self.now.table.shared.table_id.slots c.args.place.now.id m 0 (λ x. either (eqb x n) (n + 1) x) (draws (step c.args.self.now.table.shared.table_id.slots 0 n (n + 1) lean.none) m) in (
      search rules,
      search rules,
      subst F (sym c.requires.1) (draws_keep g.T.Recorded.stands c.args.self.now.table.shared.table_id.slots c.args.place.now.id n (n + 1) c.args.place.now.me.0 c.requires.2 refl),
    )
