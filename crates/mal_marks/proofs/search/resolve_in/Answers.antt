use Rattle.std.proofs.Common.{◌≡◌, set, sym, ap, ◌∙◌, arith}
use Rattle.std.specs.Prelude.{None}
use Rattle.mal_marks.specs.declared.mark.Mark.{Mark}
use Rattle.mal_marks.specs.Marked.{mark_under}
use Rattle.mal_marks.proofs.MarkLemmas.{under-id, activity-at, resolved-none, resolved-place, rise-set, count-worth, count-others}
use Rattle.mal_marks.proofs.search.resolve_in.Goals as goal

pub resolved-requires-clause-own : goal.resolved-requires-clause-own
resolved-requires-clause-own c =
    let ms = c.args.marks.now.items in
    let r = c.index.result.now in
    let found = rw c.as_slice.ensures.value at c.in-Some.ensures in
    omega (arith, activity-at c.args.id ms c.in-Some.place r found.0 c.index.ensures found.1, c.requires.own)

pub returns-in-None-clause-items : goal.returns-in-None-clause-items
returns-in-None-clause-items c =
    let none : mark_under c.args.id c.args.marks.now.items ≡ None = rw c.as_slice.ensures.value at c.in-None.ensures in
    sym (resolved-none c.args.id c.args.gain c.args.is_worth c.args.marks.now.items none)

pub returns-then-is_counted-clause-items : goal.returns-then-is_counted-clause-items
returns-then-is_counted-clause-items c =
    let ms = c.args.marks.now.items in
    let r = c.index.result.now in
    let found = rw c.as_slice.ensures.value at c.in-Some.ensures in
    ap (set ms c.in-Some.place) c.resolved.ensures ∙ sym (resolved-place 1 c.args.id c.args.gain c.args.is_worth ms c.in-Some.place r c.requires.rising found.0 c.index.ensures (under-id c.args.id ms c.in-Some.place r found.0 c.index.ensures found.1))

pub returns-then-is_counted-clause-rising : goal.returns-then-is_counted-clause-rising
returns-then-is_counted-clause-rising c =
    rise-set 1 c.args.marks.now.items c.in-Some.place c.index.result.now c.resolved.result c.requires.rising c.index.ensures (ap (λ (m : Mark). m.id) c.resolved.ensures)

pub returns-then-is_counted-clause-counted : goal.returns-then-is_counted-clause-counted
returns-then-is_counted-clause-counted c =
    let ms = c.args.marks.now.items in
    let found = rw c.as_slice.ensures.value at c.in-Some.ensures in
    rw c.resolved.ensures (count-worth ms c.in-Some.place c.args.gain c.args.is_worth c.index.result.now found.0 c.index.ensures (sym c.is_counted.ensures ∙ c.if-is_counted.true))

pub returns-else-is_counted-clause-items : goal.returns-else-is_counted-clause-items
returns-else-is_counted-clause-items c =
    let ms = c.args.marks.now.items in
    let r = c.index.result.now in
    let found = rw c.as_slice.ensures.value at c.in-Some.ensures in
    ap (set ms c.in-Some.place) c.resolved.ensures ∙ sym (resolved-place 1 c.args.id c.args.gain c.args.is_worth ms c.in-Some.place r c.requires.rising found.0 c.index.ensures (under-id c.args.id ms c.in-Some.place r found.0 c.index.ensures found.1))

pub returns-else-is_counted-clause-rising : goal.returns-else-is_counted-clause-rising
returns-else-is_counted-clause-rising c =
    rise-set 1 c.args.marks.now.items c.in-Some.place c.index.result.now c.resolved.result c.requires.rising c.index.ensures (ap (λ (m : Mark). m.id) c.resolved.ensures)

pub returns-else-is_counted-clause-counted : goal.returns-else-is_counted-clause-counted
returns-else-is_counted-clause-counted c =
    let ms = c.args.marks.now.items in
    let found = rw c.as_slice.ensures.value at c.in-Some.ensures in
    rw (c.if-is_counted.false, c.resolved.ensures) (count-others ms c.in-Some.place c.args.gain c.args.is_worth c.index.result.now found.0 c.index.ensures (sym c.is_counted.ensures ∙ c.if-is_counted.false))
