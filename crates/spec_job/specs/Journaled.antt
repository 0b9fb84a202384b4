use Rattle.std.specs.Prelude.{ℕ, List, ◌++◌}
use Rattle.mal_base.specs.declared.profile.Profile.{Profile}
use Rattle.spec_node.specs.State.{Node}
use Rattle.spec_search.specs.Slice.{Sliced}
use Rattle.spec_job.specs.Journal.{JournalEntry, replay}

-- a journal as contracts see it: the number of the job, the profile of its solvers, the index of the node in its tree,
-- the number of the last start, and the entries in order
pub record Journaled : Type 0 where
  pub job : ℕ
  pub profile : Profile
  pub index : ℕ
  pub start : ℕ
  pub entries : List JournalEntry

-- the replay of a journal: its node, with the lines of its last slice
abbrev pub replayed : Journaled → Sliced
replayed j = replay j.profile j.index j.entries

-- the node of a journal
abbrev pub node_of : Journaled → Node
node_of j = (replayed j).node

-- a journal with these entries after the others
abbrev pub and_entries : Journaled → List JournalEntry → Journaled
and_entries j adds = record { job = j.job; profile = j.profile; index = j.index; start = j.start; entries = j.entries ++ adds }

-- a journal whose last start has this number
abbrev pub started : ℕ → Journaled → Journaled
started start j = record { job = j.job; profile = j.profile; index = j.index; start = start; entries = j.entries }
