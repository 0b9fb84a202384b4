use Rattle.std.specs.Prelude.{◌≡◌, ℕ, ◌≤◌, ◌⊎◌, max, fold, List, [], ◌∷◌, ◌++◌}
use Rattle.mal_base.specs.declared.profile.Profile.{Profile}
use Rattle.spec_node.specs.State.{Node}
use Rattle.spec_search.specs.Slice.{Sliced}
use Rattle.spec_job.specs.Journal.{JournalEntry, Load, Import, Run, after_entry, replay}
use Rattle.spec_job.specs.Following.{MayFollow}
use Rattle.mal_cdcl.specs.Sliced.{HasLowCounts}

-- a node without lines
abbrev pub alone : Node → Sliced
alone n = record { node = n; lines = [] }

-- a node after these entries, with the lines of its last slice
abbrev pub after_entries : Node → List JournalEntry → Sliced
after_entries n es = fold after_entry (alone n) es

-- where an entry runs a slice, the counts of its node are low enough
abbrev pub IsLowAt : JournalEntry → Node → Type 0
IsLowAt (Load r first) n = Unit {0}
IsLowAt (Import exported) n = Unit {0}
IsLowAt Run n = HasLowCounts n

-- an entry may be replayed where its node stands: it may follow, and the counts are low enough for a slice
pub record MayReplay (e : JournalEntry) (n : Node) : Type 0 where
  pub follows : MayFollow e n
  pub low : IsLowAt e n

-- each of these entries may be replayed after those before it
abbrev pub MayAllReplay : Sliced → List JournalEntry → Type 0
MayAllReplay s [] = Unit {0}
MayAllReplay s (e ∷ es) = MayReplay e s.node × MayAllReplay (after_entry s e) es

-- entries between two starts: the last, if there is one, is a slice
abbrev pub AreAtRest : List JournalEntry → Type 0
AreAtRest entries = (entries ≡ []) ⊎ ((before : List JournalEntry) × (entries ≡ before ++ Run ∷ []))

-- what the entries of a node's journal keep: a node of a job may have this index, each entry may be replayed after
-- those before it, and they are those between two starts
pub record IsJournal (profile : Profile) (index : ℕ) (entries : List JournalEntry) : Type 0 where
  pub place : index ≤ 63
  pub replays : MayAllReplay (replay profile index []) entries
  pub rest : AreAtRest entries

-- the greatest number of variables after an entry, where this was the greatest before
abbrev pub variables_with : ℕ → JournalEntry → ℕ
variables_with most (Load r first) = max most r.variables
variables_with most (Import exported) = most
variables_with most Run = most

-- the greatest number of variables after these entries
abbrev pub variables_after : ℕ → List JournalEntry → ℕ
variables_after most [] = most
variables_after most (e ∷ es) = variables_after (variables_with most e) es
