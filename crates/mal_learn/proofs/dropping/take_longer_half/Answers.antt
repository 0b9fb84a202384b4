use Rattle.std.proofs.Common.{◌≡◌, ◌/◌, ◌++◌, ℕ, List, length, map, take, drop, reverse, ap, ◌∙◌, arith}
use Rattle.std.proofs.Math.Seq.{take-append_seam}
use Rattle.mal_learn.specs.declared.dropping.Droppable.{Droppable}
use Rattle.mal_learn.proofs.ChoiceLemmas.{half-numbers}
use Rattle.mal_learn.proofs.dropping.take_longer_half.Goals as goal

pub returns-clause-chosen : goal.returns-clause-chosen
returns-clause-chosen c clauses q =
    let sorted = c.sort_unstable.new.self.items in
    let turned = c.reverse.new.self in
    let count : c.len-place-end.result ≡ length c.args.droppables.now.items = omega (arith, c.len-place-end.ensures, c.sort_unstable.ensures.len) in
    let half : c.loop-place.place ≡ c.len-place-end.result / 2 = omega (arith, c.loop-place-test.false, c.loop-place.auto.place-end) in
    let long : c.sort_unstable.new.self.len ≡ length turned = omega (arith, c.reverse.ensures.len, c.as_mut_slice.ensures.len) in
    let whole : take c.sort_unstable.new.self.len (turned ++ drop (length turned) sorted) ≡ turned = ap (λ (n : ℕ). take n (turned ++ drop (length turned) sorted)) long ∙ take-append_seam turned (drop (length turned) sorted) in
    c.loop-place.invariant.chosen ∙ (ap (λ (ds : List Droppable). map (λ (d : Droppable). d.id) (take c.loop-place.place ds)) (whole ∙ (c.reverse.ensures.after ∙ ap reverse c.as_mut_slice.ensures.value)) ∙ half-numbers clauses c.args.droppables.now.items sorted c.loop-place.place q c.sort_unstable.ensures.permutation c.sort_unstable.ensures.sorted (half ∙ ap (λ (k : ℕ). k / 2) count))
