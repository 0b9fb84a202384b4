use Rattle.std.proofs.Common.{rules, ◌≡◌, ℕ, List, [], refl, sym, ap, ◌∙◌, subst}
use mathlib.Core.Option as lean
use Rattle.atomic_table.specs.Table.{Allows, Joins, step}
use Rattle.mal_turn.specs.declared.view.View.{View}
use Rattle.mal_turn.specs.declared.view.Stage.TheVariants.{Idle}
use Rattle.mal_turn.specs.Rule.{At, Begins, IsUnborn, Log, TurnRule, Has, at_stage, join_both, nobody}
use Rattle.mal_turn.specs.Steps.{Tabled, learns, looks}
use Rattle.mal_turn.proofs.Paths.{has_left}
use Rattle.mal_turn.proofs.Keeps.{joins_keep, learns_keep}
use Rattle.mal_turn.proofs.table.Turn.join.Given.{Over}
use Rattle.mal_turn.proofs.table.Turn.join.Goals as goal

pub join_seat-requires : goal.join_seat-requires
join_seat-requires g c =
    let id = c.args.token.place.id in
    let v = c.args.token.place.me.0 in
    let other = c.args.other.place.id in
    let w = c.args.other.place.me.0 in
    let is : v ≡ at_stage Idle v = ap (λ (m : Tabled g.row.T.Denot g.row.T-Entry.Denot). m.0) c.args.token.idle in
    let is2 : w ≡ at_stage Idle w = ap (λ (m : Tabled g.row.T.Denot g.row.T-Entry.Denot). m.0) c.args.other.idle in
    let F = λ (x y : View g.row.T-Entry.Denot). Joins (TurnRule g.T.Recorded.stands) id x other y (join_both x y) nobody in (
      c.requires.one,
      c.requires.other,
      ap (λ (m : Tabled g.row.T.Denot g.row.T-Entry.Denot). m.1) c.args.other.idle,
      search rules,
      subst (λ (x : View g.row.T-Entry.Denot). F x w) (sym is) (subst (F (at_stage Idle v)) (sym is2) (joins_keep g.T.Recorded.stands id v other w c.args.token.live)),
    )

-- the token of both, before it looks at the record
both : (g : Over) (m new : Tabled g.row.T.Denot g.row.T-Entry.Denot) (w : View g.row.T-Entry.Denot) → m ≡ (at_stage Idle m.0, []) → new ≡ (join_both m.0 w, m.1) → new ≡ (at_stage Idle (join_both m.0 w), [])
both g m new w idle is = is ∙ ap (λ (x : Tabled g.row.T.Denot g.row.T-Entry.Denot). (join_both x.0 w, x.1)) idle

-- what it sees in the record
told : (g : Over) (n r : ℕ) (m joint new : Tabled g.row.T.Denot g.row.T-Entry.Denot) (w : View g.row.T-Entry.Denot) → m ≡ (at_stage Idle m.0, []) → joint ≡ (join_both m.0 w, m.1) → looks g.T.Recorded.stands (step n 1 0 0 lean.none) joint r new → learns (at_stage Idle (join_both m.0 w), []) new
told g n r m joint new w idle is sees = subst (λ (x : Tabled g.row.T.Denot g.row.T-Entry.Denot). looks g.T.Recorded.stands (step n 1 0 0 lean.none) x r new) (both g m joint w idle is) sees

-- what one of the two had seen stands in the record that the token of both has seen
begins : (g : Over) (v w : View g.row.T-Entry.Denot) (new : Tabled g.row.T.Denot g.row.T-Entry.Denot) → learns (at_stage Idle (join_both v w), []) new → (i : ℕ) (o : List (List ℕ) × Log g.row.T-Entry.Denot) → At (join_both v w).old i o → Begins new.0.seen o.0 o.1
begins g v w new sees i o at = subst (λ (m : Tabled g.row.T.Denot g.row.T-Entry.Denot). Begins m.0.seen o.0 o.1) (sym sees.1) (sees.3 i o at)

pub load-requires : goal.load-requires
load-requires g c =
    let n = c.args.self.now.table.shared.table_id.slots in
    let id = c.join_seat.new.seat.id in
    let v = c.args.token.place.me.0 in
    let w = c.args.other.place.me.0 in
    let F = λ (m : Tabled g.row.T.Denot g.row.T-Entry.Denot). Allows (TurnRule g.T.Recorded.stands) n id m 1 (λ x. x) (looks g.T.Recorded.stands (step n 1 0 0 lean.none) m) in (
      search rules,
      search rules,
      subst F (sym (both g c.args.token.place.me c.join_seat.new.seat.me w c.args.token.idle c.join_seat.ensures.2)) (learns_keep g.T.Recorded.stands n id (join_both v w) (has_left v.of.first v.of.all w.of.all c.args.token.live)),
    )

pub invariant_of-result : goal.invariant_of-result
invariant_of-result g c =
    let v = c.args.token.place.me.0 in
    let sees = told g c.args.self.now.table.shared.table_id.slots c.load.result c.args.token.place.me c.join_seat.new.seat.me c.load.new.seat.me c.args.other.place.me.0 c.args.token.idle c.join_seat.ensures.2 c.load.ensures.2 in
    record {
      idle = sees.1 ∙ ap (λ (m : Tabled g.row.T.Denot g.row.T-Entry.Denot). (at_stage Idle m.0, [])) (sym sees.1);
      live = subst (λ (m : Tabled g.row.T.Denot g.row.T-Entry.Denot). Has m.0.of m.0.of.first) (sym sees.1) (has_left v.of.first v.of.all c.args.other.place.me.0.of.all c.args.token.live);
      unborn = subst (λ (m : Tabled g.row.T.Denot g.row.T-Entry.Denot). IsUnborn m.0.of m.0.seen) (sym sees.1) sees.4;
    }

pub returns-clause-one : goal.returns-clause-one
returns-clause-one g c =
    let v = c.args.token.place.me.0 in
    let sees = told g c.args.self.now.table.shared.table_id.slots c.load.result c.args.token.place.me c.join_seat.new.seat.me c.load.new.seat.me c.args.other.place.me.0 c.args.token.idle c.join_seat.ensures.2 c.load.ensures.2 in
    begins g v c.args.other.place.me.0 c.load.new.seat.me sees 0 (v.of.all, v.seen) refl

pub returns-clause-other : goal.returns-clause-other
returns-clause-other g c =
    let w = c.args.other.place.me.0 in
    let sees = told g c.args.self.now.table.shared.table_id.slots c.load.result c.args.token.place.me c.join_seat.new.seat.me c.load.new.seat.me w c.args.token.idle c.join_seat.ensures.2 c.load.ensures.2 in
    begins g c.args.token.place.me.0 w c.load.new.seat.me sees 1 (w.of.all, w.seen) refl
