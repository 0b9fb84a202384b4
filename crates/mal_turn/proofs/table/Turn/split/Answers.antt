use Rattle.std.proofs.Common.{rules, ◌≡◌, [], false, sym, ap, ◌∙◌, subst}
use Rattle.atomic_table.specs.Table.{Splits}
use Rattle.mal_turn.specs.declared.view.View.{View}
use Rattle.mal_turn.specs.declared.view.Stage.TheVariants.{Idle}
use Rattle.mal_turn.specs.Numbers.{part, same}
use Rattle.mal_turn.specs.Rule.{IsUnborn, TurnRule, Has, at_stage, split_left, split_right, next_number}
use Rattle.mal_turn.specs.Steps.{Tabled}
use Rattle.mal_turn.proofs.Paths.{same_refl, or_left}
use Rattle.mal_turn.proofs.Births.{none_by_new, unborn_right}
use Rattle.mal_turn.proofs.Keeps.{splits_keep}
use Rattle.mal_turn.proofs.table.Turn.split.Goals as goal

pub split_seat-new-requires : goal.split_seat-new-requires
split_seat-new-requires g c =
    let id = c.args.token.place.id in
    let v = c.args.token.place.me.0 in
    let is : v ≡ at_stage Idle v = ap (λ (m : Tabled g.row.T.Denot g.row.T-Entry.Denot). m.0) c.args.token.idle in (
      c.requires,
      search rules,
      subst (λ (w : View g.row.T-Entry.Denot). Splits (TurnRule g.T.Recorded.stands) id w (split_left w) (split_right w)) (sym is) (splits_keep g.T.Recorded.stands id v c.args.token.live),
    )

pub invariant_of-result-2 : goal.invariant_of-result-2
invariant_of-result-2 g c =
    let v = c.args.token.place.me.0 in
    let e : c.split_seat-new.result.me ≡ (split_right v, []) = c.split_seat-new.ensures.4 in
    let new = next_number v.of in
    record {
      idle = e ∙ ap (λ (m : Tabled g.row.T.Denot g.row.T-Entry.Denot). (at_stage Idle m.0, [])) (sym e);
      live = subst (λ (m : Tabled g.row.T.Denot g.row.T-Entry.Denot). Has m.0.of m.0.of.first) (sym e) (or_left (same new new) false (same_refl new));
      unborn = subst (λ (m : Tabled g.row.T.Denot g.row.T-Entry.Denot). IsUnborn m.0.of m.0.seen) (sym e) (unborn_right v.of v.seen c.args.token.unborn);
    }

pub returns-clause-none : goal.returns-clause-none
returns-clause-none g c =
    let v = c.args.token.place.me.0 in
    let e : c.split_seat-new.result.me ≡ (split_right v, []) = c.split_seat-new.ensures.4 in
    subst (λ (m : Tabled g.row.T.Denot g.row.T-Entry.Denot). part m.0.of.all m.0.seen ≡ []) (sym e) (none_by_new v.of v.seen c.args.token.unborn)
