use Rattle.std.proofs.Common.{rules, ◌≡◌, ◌+◌, [], ◌∷◌, refl, sym, subst, eqb, ap, ◌∙◌, Some}
use prog.Atomic.{either}
use mathlib.Core.Option as lean
use Rattle.atomic_table.specs.Table.{Allows, step, rest}
use Rattle.mal_turn.specs.declared.view.Stage.TheVariants.{Holds}
use Rattle.mal_turn.specs.Rule.{at_stage, TurnRule}
use Rattle.mal_turn.specs.Steps.{Tabled, enters}
use Rattle.mal_turn.proofs.Keeps.{enters_keep}
use Rattle.mal_turn.proofs.table.Turn.enter.Goals as goal

pub compare_exchange-requires : goal.compare_exchange-requires
compare_exchange-requires g c =
    let id = c.exchange.new.seat.id in
    let t = c.args.ticket in
    let n = c.args.self.now.table.shared.table_id.slots in
    let v = c.args.place.now.me.0 in
    let x = c.args.value in
    let after : c.exchange.new.seat.me ≡ (at_stage (Holds t) v, (0, Some x) ∷ []) = c.exchange.ensures.3 ∙ ap (λ (m : Tabled g.row.T.Denot g.row.T-Entry.Denot). (m.0, (0, Some x) ∷ rest m.1)) c.requires.holds in
    let F = λ (m : Tabled g.row.T.Denot g.row.T-Entry.Denot). Allows (TurnRule g.T.Recorded.stands) n id m 2 (λ x. either (eqb x t) (t + 1) x) (enters g.T.Recorded.last (step n 2 t (t + 1) lean.none) m) in (
      search rules,
      search rules,
      subst F (sym after) (enters_keep g.T.Recorded.stands g.T.Recorded.last n id t (t + 1) v x refl),
    )
