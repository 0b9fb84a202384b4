use Rattle.std.specs.Prelude.{◌≡◌, ℕ, Bool, List, ◌++◌, None}
use Rattle.mal_hall.specs.Desks.{DeskCall}
use Rattle.mal_pool.specs.Gates.{Stops}
use Rattle.mal_pool.specs.Parts.{AreLoops}
use Rattle.mal_pool.specs.Works.{Works}
use Rattle.mal_pool.specs.declared.working.End.{End}

-- what a loop made so far: whatever is a worker's loop from here on is one from the start
pub record HasMade (stops : Stops) (w turns left idles : ℕ) (before now : List DeskCall) : Type 0 where
  pub mine : List DeskCall
  pub calls : now ≡ before ++ mine
  pub goes : (rest : List DeskCall) (end : End) → Works stops w left idles None rest end → Works stops w turns 0 None (mine ++ rest) end

-- what a worker's loops made so far: whatever are its loops from here on are its loops from the start
pub record HasLooped (stops : Stops) (w turns loops left : ℕ) (before now : List DeskCall) : Type 0 where
  pub mine : List DeskCall
  pub calls : now ≡ before ++ mine
  pub goes : (rest : List DeskCall) (stopped : Bool) → AreLoops stops w turns left rest stopped → AreLoops stops w turns loops (mine ++ rest) stopped
