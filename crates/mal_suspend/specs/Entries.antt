use Rattle.std.specs.Prelude.{ℕ, List, [], ◌∷◌, ◌++◌, flat_map, replicate}
use Rattle.std.specs.Arc.{arc_value}
use Rattle.spec_job.specs.Journal.{JournalEntry}
use Rattle.spec_job.specs.Journal as journal
use Rattle.mal_suspend.specs.declared.entry.Counted.{Counted}
use Rattle.mal_suspend.specs.declared.entry.Entry.{Entry}
use Rattle.mal_suspend.specs.declared.entry.Entry.TheVariants.{Load, Import}

-- the entry of a journal that the code's entry stands for
abbrev pub entry_of : Entry → JournalEntry
entry_of (Load r first) = journal.Load (arc_value r) first
entry_of (Import exported) = journal.Import (arc_value exported)

-- so many slices in a row
abbrev pub slices_of : ℕ → List JournalEntry
slices_of n = replicate n journal.Run

-- the entries that a counted one stands for: the slices before it, and then itself
abbrev pub counted_of : Counted → List JournalEntry
counted_of c = slices_of c.slices ++ entry_of c.entry ∷ []

-- the entries that counted ones stand for
abbrev pub entries_of : List Counted → List JournalEntry
entries_of cs = flat_map (λ c. counted_of c) cs
