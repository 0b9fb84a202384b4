use Rattle.std.proofs.Common.{rules, ◌≡◌, ◌/◌, ℕ, length, ap, ◌∙◌, arith}
use Rattle.std.proofs.lemmas.List.Sorted.{answers_always}
use Rattle.std.specs.List.Sorted.{IsSortedBy}
use Rattle.mal_marks.specs.Choosing.{precedes}
use Rattle.mal_marks.proofs.ChoiceLemmas.{candidates-rank, cmp-precedes, half-numbers}
use Rattle.mal_marks.proofs.choice.take_less_active_half.Goals as goal

pub returns-clause-chosen : goal.returns-clause-chosen
returns-clause-chosen c =
    let sorted = c.sort_unstable_by.new.self.items in
    let up : IsSortedBy precedes sorted = c.sort_unstable_by.ensures.sorted precedes candidates-rank (answers_always _ _ _ (λ f a r g k. search (rules, cmp-precedes))) in
    let count : c.len-place-end.result ≡ length c.args.candidates.now.items = omega (arith, c.len-place-end.ensures, c.sort_unstable_by.ensures.len) in
    let half : c.loop-place.place ≡ c.len-place-end.result / 2 = omega (arith, c.loop-place-test.false, c.loop-place.auto.place-end) in
    c.loop-place.invariant.chosen ∙ half-numbers c.args.candidates.now.items sorted c.loop-place.place c.sort_unstable_by.ensures.permutation up (half ∙ ap (λ (k : ℕ). k / 2) count)
