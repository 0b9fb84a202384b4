use Rattle.std.proofs.Common.{ℕ, ◌<◌, ◌≤◌, length, get_or, sym, ◌∙◌, vec_len, vec_capacity, arith}
use Rattle.mal_store.proofs.ShortLemmas.{number-at, insert_ids}
use Rattle.mal_store.proofs.ids.insert_id.Goals as goal

pub returns-clause-items : goal.returns-clause-items
returns-clause-items c =
    let ns = c.args.ids.now.items in
    let place = c.place_of-place.result in
    let room : vec_len c.args.ids.now < vec_capacity c.args.ids.now = c.requires.room in
    let below : (k d : ℕ) → k < place → get_or ns k d < c.args.id = rw c.as_slice.ensures.value at c.place_of-place.ensures.below in
    let above : (k d : ℕ) → place ≤ k → k < length ns → c.args.id ≤ get_or ns k d = rw c.as_slice.ensures.value at c.place_of-place.ensures.above in
    let bound : place ≤ length ns = rw c.as_slice.ensures.value at c.place_of-place.ensures.bound in
    (c.insert.ensures.items ∙ insert_ids c.insert.result _ _ (c.insert.ensures.succeeds (omega arith))) ∙ sym (number-at c.args.id ns place bound below above)
