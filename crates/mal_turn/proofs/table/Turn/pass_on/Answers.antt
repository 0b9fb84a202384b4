use Rattle.std.proofs.Common.{rules, ◌+◌, refl, sym, subst}
use mathlib.Core.Option as lean
use Rattle.atomic_table.specs.Table.{Allows, step}
use Rattle.mal_turn.specs.Rule.{TurnRule}
use Rattle.mal_turn.specs.Steps.{Tabled, passes}
use Rattle.mal_turn.proofs.Keeps.{passes_keep}
use Rattle.mal_turn.proofs.table.Turn.pass_on.Goals as goal

pub store-requires : goal.store-requires
store-requires g c =
    let id = c.args.place.now.id in
    let t = c.args.ticket in
    let n = c.args.self.now.table.shared.table_id.slots in
    let e = c.requires.entered in
    let G = λ (m : Tabled g.row.T.Denot g.row.T-Entry.Denot). Allows (TurnRule g.T.Recorded.stands) n id m 1 (λ _. t + 1) (λ _. passes (step n 1 (t + 1) 0 lean.none) m (t + 1)) in (
      search rules,
      search rules,
      subst G (sym e.1) (passes_keep g.T.Recorded.stands n id t (t + 1) c.args.place.now.me.0 e.0 refl e.2),
    )
