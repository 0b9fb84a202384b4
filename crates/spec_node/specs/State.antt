use Rattle.std.specs.Prelude.{ℕ, Bool, List, [], Option, None}
use Rattle.mal_base.specs.declared.profile.Profile.{Profile}
use Rattle.mal_base.specs.declared.profile.Profile.TheVariants.{Plain}
use Rattle.mal_base.specs.Profiles.{policy, may_stand}
use Rattle.mal_base.specs.NumberedClause.{NumberedClause}
use Rattle.mal_base.specs.declared.trail_entry.TrailEntry.{TrailEntry}
use Rattle.mal_base.specs.declared.verdict.Verdict.{Verdict}

-- a solver node: its place in the tree, the profile that it follows, its variables 1 to V, the serial that its next
-- derived clause has, the conflicts since the last restart, the number of the restart, the conflicts learned since the
-- last dropping (where the profile reduces), the batches handled, the clause of a waiting conflict, a verdict, the
-- assumptions by variable, the decision order, a phase per variable, the trail, and the clauses by rising number
pub record Node : Type 0 where
  pub index : ℕ
  pub profile : Profile
  pub variables : ℕ
  pub serial : ℕ
  pub conflicts_since_restart : ℕ
  pub restart_number : ℕ
  pub conflicts_since_dropping : ℕ
  pub processed : ℕ
  pub conflict : Option ℕ
  pub verdict : Option Verdict
  pub assumptions : List ℕ
  pub order : List ℕ
  pub phases : List Bool
  pub trail : List TrailEntry
  pub clauses : List NumberedClause

-- the node of this index and profile at its first start
abbrev pub fresh_with : ℕ → Profile → Node
fresh_with i profile = record { index = i; profile = profile; variables = 0; serial = 0; conflicts_since_restart = 0; restart_number = 1; conflicts_since_dropping = 0; processed = 0; conflict = None; verdict = None; assumptions = []; order = []; phases = []; trail = []; clauses = [] }

-- that of the first profile
abbrev pub fresh : ℕ → Node
fresh i = fresh_with i Plain

-- a node counts conflicts for droppings only where its profile reduces
abbrev pub has_profile : Node → Bool
has_profile n = may_stand (policy n.profile).reduction n.conflicts_since_dropping
