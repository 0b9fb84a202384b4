-- What is kept beside counted entries.
use Rattle.std.specs.Prelude.{◌≡◌, ℕ, List, [], Option, Some, None}
use Rattle.std.specs.Arc.{arc_value}
use Rattle.std.specs.declared.sync.Arc.{Arc}
use Rattle.spec_job.specs.Journal.{loads_in}
use Rattle.mal_suspend.specs.declared.entry.Counted.{Counted}
use Rattle.mal_suspend.specs.Entries.{entries_of}
use Rattle.mal_suspend.specs.Replaying.{variables_after}

-- so many of these entries are loads, and this is the greatest number of variables of what they load
pub record AreCounts (cs : List Counted) (loads variables : ℕ) : Type 0 where
  pub are_loads : loads ≡ loads_in (entries_of cs)
  pub are_most : variables ≡ variables_after 0 (entries_of cs)

-- the counted entries that equal journals share, none where there is nothing to share
module _ {Z : Type 0} where
  abbrev pub listed_in : Option (Arc (List Counted) Z) → List Counted
  listed_in None = []
  listed_in (Some listed) = arc_value listed
