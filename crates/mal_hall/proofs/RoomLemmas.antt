use Rattle.std.proofs.Common.{◌≡◌, ◌≤◌, List, sym, subst}
use Rattle.spec_hall.specs.Spots.{Spot}
use Rattle.std.specs.Prelude.{Option}
use Rattle.mal_hall.specs.HallView.{Inside, IsHall, owed_in}

-- there is room for what is owed
pub room-kept : (x : Inside) (sp : List (Option Spot)) → IsHall x → sp ≡ x.spots → owed_in x.unclosed x.seats sp ≤ x.entries.room
room-kept x sp hall same = subst (λ (os : List (Option Spot)). owed_in x.unclosed x.seats os ≤ x.entries.room) (sym same) hall.room
