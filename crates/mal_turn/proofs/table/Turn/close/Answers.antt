use Rattle.std.proofs.Common.{ℕ, List, Option, ◌≡◌, ◌∷◌, [], Some, None, zero, suc, sym, ap, ◌∙◌, subst, get_or, ◌≢◌, ◌<◌}
use mathlib.Core.Option as lean
use lib.ListN.{get_elem?}
use Rattle.std.specs.Slots.{slots_items}
use Rattle.atomic_table.specs.Table.{Final, Seen}
use Rattle.mal_turn.specs.declared.view.Stage.TheVariants.{Idle}
use Rattle.mal_turn.specs.declared.view.View.{View}
use Rattle.mal_turn.specs.Rule.{Has, IsWhole, Leaves, TurnRule, at_stage}
use Rattle.mal_turn.proofs.Keeps.{idle_ends}
use Rattle.mal_turn.specs.Steps.{Tabled}
use Rattle.mal_turn.proofs.table.Turn.close.Given.{Over}
use Rattle.mal_turn.proofs.table.Turn.close.Goals as goal

-- a list read at a place
read : (l : List ℕ) (i n : ℕ) → get_elem? l i ≡ lean.some n → get_or l i 0 ≡ n
read [] i n e = absurd (lean.some-ne-none n (sym e))
read (x ∷ xs) zero n e = lean.some-injective x n e
read (x ∷ xs) (suc i) n e = read xs i n e

-- what the closed table shows of an idle token, by its ticket and its serving word as they are read
ended : (g : Over) (id : ℕ) (v : View g.row.T-Entry.Denot) (ws : List ℕ) (xs : List (Option g.row.T.Denot)) (ticket serving : ℕ) → v ≡ at_stage Idle v → Has v.of v.of.first → Final (Seen (TurnRule g.T.Recorded.stands) id v) ws xs → get_elem? ws 0 ≡ lean.some ticket → get_elem? ws 1 ≡ lean.some serving
    → (ticket ≡ serving → (x : g.row.T.Denot) × (get_elem? xs 0 ≡ lean.some (Some x)) × Leaves g.T.Recorded.stands x v)
    × (ticket ≢ serving → (serving < ticket) × ¬ IsWhole v.of)
ended g id v ws xs ticket serving idle live final t s =
    let e = idle_ends g.T.Recorded.stands id v ws xs idle live final in
    let drawn = read ws 0 ticket t in
    let served = read ws 1 serving s in (
      λ same. e.0 (drawn ∙ (same ∙ sym served)),
      λ differ. let r = e.1 (λ same. differ (sym drawn ∙ (same ∙ served))) in (subst (λ (p : ℕ × ℕ). p.0 < p.1) (λ i. (served i, drawn i)) r.0, r.1),
    )

-- an idle token's view is idle
known : (g : Over) (m : Tabled g.row.T.Denot g.row.T-Entry.Denot) → m ≡ (at_stage Idle m.0, []) → m.0 ≡ at_stage Idle m.0
known g m idle = ap (λ (x : Tabled g.row.T.Denot g.row.T-Entry.Denot). x.0) idle

pub returns-then-not-all_passed_on-clause-in_use : goal.returns-then-not-all_passed_on-clause-in_use
returns-then-not-all_passed_on-clause-in_use g c =
    let p = c.args.token.place in
    let e = ended g p.id p.me.0 (slots_items c.close_with-closed.result.words) (slots_items c.close_with-closed.result.slots) c.word-ticket.result c.word-serving.result (known g p.me c.args.token.idle) c.args.token.live c.close_with-closed.ensures.values.2 c.word-ticket.ensures c.word-serving.ensures in
    e.1 (c.all_passed_on.ensures.no c.if-not-all_passed_on.true)

pub unreachable-requires : goal.unreachable-requires
unreachable-requires g c =
    let p = c.args.token.place in
    let e = ended g p.id p.me.0 (slots_items c.close_with-closed.result.words) (slots_items c.close_with-closed.result.slots) c.word-ticket.result c.word-serving.result (known g p.me c.args.token.idle) c.args.token.live c.close_with-closed.ensures.values.2 c.word-ticket.ensures c.word-serving.ensures in
    let r = e.0 (c.all_passed_on.ensures.yes c.if-not-all_passed_on.false) in
    let two : Some r.0 ≡ None = lean.some-injective (Some r.0) None (sym r.1 ∙ (c.take-value.ensures.value ∙ ap lean.some c.in-None.is)) in absurd (cc)

pub returns-clause-value : goal.returns-clause-value
returns-clause-value g c =
    let p = c.args.token.place in
    let e = ended g p.id p.me.0 (slots_items c.close_with-closed.result.words) (slots_items c.close_with-closed.result.slots) c.word-ticket.result c.word-serving.result (known g p.me c.args.token.idle) c.args.token.live c.close_with-closed.ensures.values.2 c.word-ticket.ensures c.word-serving.ensures in
    let r = e.0 (c.all_passed_on.ensures.yes c.if-not-all_passed_on.false) in
    let two : Some r.0 ≡ Some c.in-Some.value = lean.some-injective (Some r.0) (Some c.in-Some.value) (sym r.1 ∙ (c.take-value.ensures.value ∙ ap lean.some c.in-Some.is)) in
    let one : r.0 ≡ c.in-Some.value = cc in
    subst (λ (x : g.row.T.Denot). Leaves g.T.Recorded.stands x p.me.0) one r.2
