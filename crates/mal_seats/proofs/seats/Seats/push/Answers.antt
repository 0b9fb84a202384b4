use Rattle.std.proofs.Common.{◌≡◌, List, [], ◌∷◌, ◌++◌, ap, ◌∙◌}
use Rattle.spec_hall.specs.Seats.{Seat}
use Rattle.mal_seats.proofs.ChangedLemmas.{kept-push}
use Rattle.mal_seats.proofs.seats.Seats.push.Goals as goal

pub invariant_of-self-2 : goal.invariant_of-self-2
invariant_of-self-2 c =
    let items : c.push_reserved.new.self.items ≡ c.self.inside.seats.items ++ c.args.seat ∷ [] = c.push_reserved.ensures.items ∙ ap (λ (xs : List Seat). xs ++ c.args.seat ∷ []) c.reserve.ensures.items in
    let above = rw (← c.self.view_is) at c.requires.above in
    let are = rw c.marks-marks.ensures at c.add.ensures in
    rw items (kept-push c.self.inside.seats.items _ _ c.args.seat _ c.self.invariant above c.requires.still are)
