use Rattle.std.proofs.Common.{ℕ, ◌<◌, ◌≤◌, length, get_or, sym, ◌∙◌, vec_len, vec_capacity, arith}
use Rattle.mal_store.specs.declared.entry.Entry.{Entry}
use Rattle.mal_store.proofs.EntryLemmas.{with-at, strictly, insert_items}
use Rattle.mal_store.proofs.index.insert_in.Goals as goal

pub returns-clause-items : goal.returns-clause-items
returns-clause-items c =
    let es = c.args.entries.now.items in
    let place = c.place_of-place.result in
    let room : vec_len c.args.entries.now < vec_capacity c.args.entries.now = c.requires.room in
    let below : (k : ℕ) (d : Entry) → k < place → (get_or es k d).id < c.args.entry.id = rw c.as_slice.ensures.value at c.place_of-place.ensures.below in
    let above : (k : ℕ) (d : Entry) → place ≤ k → k < length es → c.args.entry.id ≤ (get_or es k d).id = rw c.as_slice.ensures.value at c.place_of-place.ensures.above in
    let bound : place ≤ length es = rw c.as_slice.ensures.value at c.place_of-place.ensures.bound in
    (c.insert.ensures.items ∙ insert_items c.insert.result _ _ (c.insert.ensures.succeeds (omega arith))) ∙ sym (with-at c.args.entry es place bound below (strictly c.args.entry.id place es c.requires.new above))
