-- A tenant's posts that are gone through beside what is due.
use Rattle.std.proofs.Common.{◌≡◌, ℕ, List, map, drop}
use Rattle.std.specs.Prelude.{◌↔◌}
use Rattle.mal_history.specs.declared.event.Event as written
use Rattle.spec_hall.specs.Events.{Event, bare}
use Rattle.spec_run.specs.PostLines.{post_lines}

-- all events up to a place were what was due
abbrev pub IsLeft : List ℕ → List written.Event → List Event → ℕ → List Event → Type 0
IsLeft tenant events all i due = (post_lines tenant events ≡ map bare all) ↔ (post_lines tenant (drop i events) ≡ map bare due)
