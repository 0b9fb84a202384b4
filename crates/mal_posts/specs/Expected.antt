-- What is posted by what a script says.
use Rattle.std.specs.Prelude.{◌≡◌, ◌↔◌, ℕ, Bool, true, List, ◌∷◌, bytes_eq, map}
use Rattle.std.specs.List.{list_any}
use Rattle.std.specs.Option.{option_map_or}
use Rattle.mal_history.specs.declared.event.Event as written
use Rattle.mal_history.specs.Posts.{post_of}
use Rattle.spec_hall.specs.Events.{Event, bare}
use Rattle.spec_run.specs.PostLines.{post_lines}

-- whether an event that is written down was posted by one of these tenants, or by none
abbrev pub is_known : List (List ℕ) → written.Event → Bool
is_known tenants event = option_map_or (λ p. list_any (bytes_eq p.tenant) tenants) (post_of event) true

-- with this event a tenant goes on from what was due to what then is due
abbrev pub GoesOn : List ℕ → written.Event → List Event → List Event → Type 0
GoesOn tenant event from to = (lines : List written.Event) → (post_lines tenant (event ∷ lines) ≡ map bare from) ↔ (post_lines tenant lines ≡ map bare to)

-- with this event a tenant leaves what is due
abbrev pub Leaves : List ℕ → written.Event → List Event → Type 0
Leaves tenant event from = (lines : List written.Event) → post_lines tenant (event ∷ lines) ≡ map bare from → ⊥
