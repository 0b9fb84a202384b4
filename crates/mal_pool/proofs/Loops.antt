-- A worker's loop, turn by turn.
use Rattle.std.proofs.Common.{◌≡◌, ℕ, List, [], ◌++◌, sym, append-nil, subst, None}
use Rattle.mal_hall.specs.Desks.{DeskCall}
use Rattle.mal_pool.specs.Gates.{Stops}
use Rattle.mal_pool.specs.Making.{HasMade}
use Rattle.mal_pool.specs.Works.{Works}
use Rattle.mal_pool.specs.declared.working.End.{End}

-- before the first turn nothing is made
pub nothing-made : (stops : Stops) (w turns : ℕ) (calls : List DeskCall) → HasMade stops w turns turns 0 calls calls
nothing-made stops w turns calls = record { mine = []; calls = sym (append-nil calls); goes = λ rest end h. h }

-- the whole loop, where it rests
pub rested : (stops : Stops) (w turns left idles : ℕ) (before now : List DeskCall) (end : End) → HasMade stops w turns left idles before now → Works stops w left idles None [] end → (mine : List DeskCall) × (now ≡ before ++ mine) × Works stops w turns 0 None mine end
rested stops w turns left idles before now end m h = (m.mine, m.calls, subst (λ (cs : List DeskCall). Works stops w turns 0 None cs end) (append-nil m.mine) (m.goes [] end h))
