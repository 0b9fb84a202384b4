use Rattle.std.proofs.Common.{◌≡◌, ◌++◌, [], ◌∷◌, true, sym, ap, ◌∙◌, subst}
use Rattle.mal_turn.specs.declared.view.Stage.TheVariants.{Idle, Entered}
use Rattle.mal_turn.specs.Numbers.{among}
use Rattle.mal_turn.specs.Rule.{IsUnborn, at_stage, seeing}
use Rattle.mal_turn.specs.Steps.{Tabled}
use Rattle.mal_turn.proofs.Births.{unborn_longer}
use Rattle.mal_turn.proofs.table.Turn.put.Goals as goal

pub invariant_of-result : goal.invariant_of-result
invariant_of-result g c =
    let v = c.args.held.place.me.0 in
    let e = g.T.Recorded.last c.args.held.value in
    let now : c.pass_on.new.place.me ≡ (at_stage Idle (seeing (Entered c.args.held.ticket) (v.seen ++ (v.of.first, e) ∷ []) v), []) = c.pass_on.ensures.idle ∙ ap (λ (m : Tabled g.row.T.Denot g.row.T-Entry.Denot). (at_stage Idle m.0, [])) c.enter.ensures.entered in
    record {
      idle = c.pass_on.ensures.idle ∙ ap (λ (m : Tabled g.row.T.Denot g.row.T-Entry.Denot). (at_stage Idle m.0, [])) (sym c.pass_on.ensures.idle);
      live = subst (λ (m : Tabled g.row.T.Denot g.row.T-Entry.Denot). among m.0.of.first m.0.of.all ≡ true) (sym now) c.args.held.live;
      unborn = subst (λ (m : Tabled g.row.T.Denot g.row.T-Entry.Denot). IsUnborn m.0.of m.0.seen) (sym now) (unborn_longer v.of v.seen e c.args.held.unborn);
    }
