use Rattle.std.specs.Prelude.{ℕ, ◌-◌, ◌/◌, min, List, length}
use Rattle.std.specs.Vec.{vec_capacity}
use Rattle.mal_base.specs.declared.trail_entry.TrailEntry.{TrailEntry}
use Rattle.mal_trail.specs.Rooms.{Room}
use Rattle.mal_watch.specs.declared.watcher.Watcher.{Watcher}
use Rattle.mal_watch.specs.Following.{Follows}

-- what an engine has room for: two lists for each variable, two watches for each clause, and its number among those
-- found
abbrev pub room_in : Watcher → Room
room_in w = record { variables = w.lists.count / 2 - 1; clauses = min w.store.clause_room (min (w.lists.room / 2) (vec_capacity w.found - length w.store.long)); literals = w.store.literal_room }

-- what an engine keeps follows a trail
abbrev pub Fits : Watcher → List TrailEntry → ℕ → Type 0
Fits w entries processed = Follows w.store.clauses w.store.long w.lists.keys w.lists.out w.lists.count (vec_capacity w.found) entries processed
