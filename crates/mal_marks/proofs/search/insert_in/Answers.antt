use Rattle.std.proofs.Common.{ℕ, ◌<◌, ◌≤◌, length, get_or, sym, ◌∙◌, ap, List, subst, vec_len, vec_capacity, arith}
use Rattle.mal_marks.specs.declared.mark.Mark.{Mark}
use Rattle.mal_marks.specs.Marked.{MarksRise, counted_in}
use Rattle.mal_marks.proofs.MarkLemmas.{with-at, strictly, insert_items, rise-with, count-with, count-most}
use Rattle.mal_marks.proofs.search.insert_in.Goals as goal

pub returns-clause-items : goal.returns-clause-items
returns-clause-items c =
    let ms = c.args.marks.now.items in
    let place = c.place_of-place.result in
    let room : vec_len c.args.marks.now < vec_capacity c.args.marks.now = c.requires.room in
    let below : (k : ℕ) (d : Mark) → k < place → (get_or ms k d).id < c.args.mark.id = rw c.as_slice.ensures.value at c.place_of-place.ensures.below in
    let above : (k : ℕ) (d : Mark) → place ≤ k → k < length ms → c.args.mark.id ≤ (get_or ms k d).id = rw c.as_slice.ensures.value at c.place_of-place.ensures.above in
    let bound : place ≤ length ms = rw c.as_slice.ensures.value at c.place_of-place.ensures.bound in
    (c.insert.ensures.items ∙ insert_items c.insert.result _ _ (c.insert.ensures.succeeds (omega arith))) ∙ sym (with-at c.args.mark ms place bound below (strictly c.args.mark.id place ms c.requires.new above))

pub returns-clause-rising : goal.returns-clause-rising
returns-clause-rising c =
    subst (λ (ms : List Mark). MarksRise 1 ms) (sym (returns-clause-items c)) (rise-with 1 c.args.mark c.args.marks.now.items c.place_of-place.ensures.some c.requires.new c.requires.rising)

pub returns-clause-counted : goal.returns-clause-counted
returns-clause-counted c = ap counted_in (returns-clause-items c) ∙ count-with c.args.mark c.args.marks.now.items

pub returns-clause-bound : goal.returns-clause-bound
returns-clause-bound c = omega (arith, count-most c.args.marks.now.items)
