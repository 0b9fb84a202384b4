use Rattle.std.proofs.Common.{rules, sym, subst, ◌∙◌}
use mathlib.Core.Option as lean
use Rattle.atomic_table.specs.Table.{Allows, step}
use Rattle.mal_turn.specs.Rule.{TurnRule}
use Rattle.mal_turn.specs.Steps.{Tabled, looks}
use Rattle.mal_turn.proofs.Keeps.{looks_keep}
use Rattle.mal_turn.proofs.table.Turn.wait.Goals as goal

pub load-requires : goal.load-requires
load-requires g c =
    let F = λ (m : Tabled g.row.T.Denot g.row.T-Entry.Denot). Allows (TurnRule g.T.Recorded.stands) c.args.self.now.table.shared.table_id.slots c.loop.place.id m 1 (λ x. x) (looks g.T.Recorded.stands (step c.args.self.now.table.shared.table_id.slots 1 0 0 lean.none) m) in (
      search rules,
      search rules,
      subst F (sym (c.loop.invariant.2 ∙ c.requires.1)) (looks_keep g.T.Recorded.stands c.args.self.now.table.shared.table_id.slots c.loop.place.id c.args.ticket c.args.place.now.me.0),
    )
