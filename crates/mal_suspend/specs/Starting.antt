use Rattle.std.specs.Prelude.{ℕ, List, [], ◌∷◌, ◌++◌, map}
use Rattle.std.specs.Arc.{arc_value}
use Rattle.std.specs.declared.sync.Arc.{Arc}
use Rattle.mal_base.specs.NumberedClause.{NumberedClause}
use Rattle.mal_revision.specs.Posted.{Posted}
use Rattle.spec_job.specs.Journal.{JournalEntry, Load, Import, Run}

module _ {Z : Type 0} where
  -- shared revisions, each with the number of its first clause
  abbrev pub shared_loads : List (Arc Posted Z × ℕ) → List (Posted × ℕ)
  shared_loads loads = map (λ l. (arc_value l.0, l.1)) loads

  -- shared lists of what is imported
  abbrev pub shared_imports : List (Arc (List NumberedClause) Z) → List (List NumberedClause)
  shared_imports imports = map (λ t. arc_value t) imports

-- the loads of revisions, each with the number of its first clause
abbrev pub load_entries : List (Posted × ℕ) → List JournalEntry
load_entries loads = map (λ l. Load l.0 l.1) loads

-- the imports of these lists
abbrev pub import_entries : List (List NumberedClause) → List JournalEntry
import_entries imports = map (λ t. Import t) imports

-- what a start adds to a journal: loads, then imports, then a slice
abbrev pub start_entries : List (Posted × ℕ) → List (List NumberedClause) → List JournalEntry
start_entries loads imports = load_entries loads ++ (import_entries imports ++ Run ∷ [])
