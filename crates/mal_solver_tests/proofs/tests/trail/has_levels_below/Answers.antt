use Rattle.std.proofs.Common.{◌≡◌, ◌<◌, List, [], ◌∷◌, take, get_or, arith}
use Rattle.std.proofs.lemmas.List.{take_more, take_all}
use Rattle.std.proofs.lemmas.List.Elements.{All-nil, All-cons, All-append}
use Rattle.mal_base.specs.declared.trail_entry.TrailEntry.{TrailEntry}
use Rattle.mal_solver_tests.proofs.tests.trail.has_levels_below.Goals as goal

pub loop-entry-preserved : goal.loop-entry-preserved
loop-entry-preserved c =
    let es : List TrailEntry = c.entries-entry-items.result.now in
    let i = c.loop-entry.entry-index in
    let e : TrailEntry = c.entry-item.result in
    let here : (get_or es i e).level < c.args.levels = rw (← c.entry-item.is) (omega (arith, c.if-levels-entry.false)) in
    rw (take_more es i e (omega arith)) (All-append (λ (d : TrailEntry). d.level < c.args.levels) (take i es) (get_or es i e ∷ []) c.loop-entry.invariant (All-cons (λ (d : TrailEntry). d.level < c.args.levels) (get_or es i e) [] here (All-nil (λ (d : TrailEntry). d.level < c.args.levels))))

pub returns : goal.returns
returns c t =
    let es : List TrailEntry = c.entries-entry-items.result.now in
    let whole : take c.loop-entry.entry-index es ≡ es = take_all c.loop-entry.entry-index es (omega (arith, c.loop-entry-test.false)) in
    rw (whole, c.entries-entry-items.ensures) at c.loop-entry.invariant
