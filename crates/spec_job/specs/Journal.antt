use Rattle.std.specs.Prelude.{ℕ, ◌+◌, Bool, true, false, List, [], ◌∷◌, length, fold, count_by}
use Rattle.mal_base.specs.declared.profile.Profile.{Profile}
use Rattle.mal_revision.specs.Posted.{Posted}
use Rattle.spec_node.specs.State.{fresh_with}
use Rattle.spec_search.specs.Slice.{Sliced, slice}
use Rattle.spec_node.specs.Load.{loaded}
use Rattle.spec_node.specs.Import.{imported}
use Rattle.mal_base.specs.NumberedClause.{NumberedClause}

-- an entry of a node's journal: a revision is loaded under the number of its first clause, what was broadcast is
-- imported, or a slice is run
pub data JournalEntry : Type 0 where
  Load : Posted → ℕ → JournalEntry
  Import : List NumberedClause → JournalEntry
  Run : JournalEntry

-- a node after one more entry, with the lines of its last slice
abbrev pub after_entry : Sliced → JournalEntry → Sliced
after_entry s (Load r first) = record { node = loaded r first s.node; lines = [] }
after_entry s (Import exported) = record { node = imported exported s.node; lines = [] }
after_entry s Run = slice s.node

-- the replay of a journal: the fresh node of the profile and the index, then each entry in turn
abbrev pub replay : Profile → ℕ → List JournalEntry → Sliced
replay profile index entries = fold after_entry (record { node = fresh_with index profile; lines = [] }) entries

-- whether an entry loads a revision
abbrev pub is_load : JournalEntry → Bool
is_load (Load r first) = true
is_load entry = false

-- whether an entry imports what was broadcast
abbrev pub is_import : JournalEntry → Bool
is_import (Import exported) = true
is_import entry = false

-- whether an entry runs a slice
abbrev pub is_run : JournalEntry → Bool
is_run Run = true
is_run entry = false

-- how many revisions a journal has loaded
abbrev pub loads_in : List JournalEntry → ℕ
loads_in entries = count_by is_load entries

-- how many broadcasts a journal has imported
abbrev pub imports_in : List JournalEntry → ℕ
imports_in entries = count_by is_import entries

-- the loads of these revisions, of which the first clause has this number
abbrev pub loads_of : ℕ → List Posted → List JournalEntry
loads_of first [] = []
loads_of first (r ∷ rs) = Load r first ∷ loads_of (first + length r.clauses) rs
