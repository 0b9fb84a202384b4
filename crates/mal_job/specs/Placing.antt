use Rattle.std.specs.Prelude.{◌≡◌, ℕ, zero, suc, ◌+◌, ◌≤◌, List, [], ◌∷◌, ◌++◌, length, drop, slice_set, get_or, Option, Some, None}
use Rattle.mal_base.specs.declared.profile.Profile.{Profile}
use Rattle.mal_base.specs.declared.profile.Profile.TheVariants.{Plain}
use Rattle.spec_job.specs.Journal.{JournalEntry}
use Rattle.spec_job.specs.Journaled.{Journaled, and_entries, started}
use Rattle.spec_job.specs.Leased.{Finished}
use Rattle.spec_job.specs.SoloMachine.{Lease}
use Rattle.spec_job.specs.Viewed.{IsGrownBy}
use Rattle.mal_suspend.specs.Kept.{journal_of}
use Rattle.mal_suspend.specs.declared.kept.Kept.{Kept}
use Rattle.mal_job.specs.declared.node_slot.Whereabouts.{Whereabouts}
use Rattle.mal_job.specs.declared.node_slot.Whereabouts.TheVariants.{Home, Cold, Gone, Out}
use Rattle.mal_job.specs.Viewed.{PlaceView, TreeView}

-- the start that is out of a place with these entries
abbrev pub out_of : List JournalEntry → Whereabouts → Option Lease
out_of entries (Home s) = None
out_of entries (Cold s) = None
out_of entries Gone = None
out_of entries (Out revision grown) = Some (record { revision = revision; adds = drop (length entries) grown.entries })

-- where the node of a place with this journal may be: at home, live or as bytes, gone, or out, with the journal that
-- the start will leave
abbrev pub IsNodeAt : Journaled → Whereabouts → Type 0
IsNodeAt j (Home s) = s ≡ j
IsNodeAt j (Cold s) = s ≡ j
IsNodeAt j Gone = Unit {0}
IsNodeAt j (Out revision grown) = grown ≡ and_entries j (drop (length j.entries) grown.entries)

-- where it is by what is kept of it: not out
abbrev pub IsKeptAt : Journaled → Whereabouts → Type 0
IsKeptAt j (Home s) = s ≡ j
IsKeptAt j (Cold s) = s ≡ j
IsKeptAt j Gone = Unit {0}
IsKeptAt j (Out revision grown) = ⊥

-- what is kept of a node, if anything is, has this journal
abbrev pub HasJournal : Option Kept → Journaled → Type 0
HasJournal None j = Unit {0}
HasJournal (Some kept) j = journal_of kept ≡ j

-- for which revision a start is out, and what it adds to the journal
abbrev pub revision_of : Option Lease → ℕ
revision_of None = 0
revision_of (Some l) = l.revision

abbrev pub adds_of : Option Lease → List JournalEntry
adds_of None = []
adds_of (Some l) = l.adds

-- the place of this index of a job, whose solvers have this profile, before its first start
abbrev pub fresh_place : ℕ → Profile → ℕ → PlaceView
fresh_place number profile index = record { journal = record { job = number; profile = profile; index = index; start = 0; entries = [] }; out = None; starts = 0; mark = 0 }

-- so many of them, the first of this index
abbrev pub fresh_from : ℕ → Profile → ℕ → ℕ → List PlaceView
fresh_from number profile index zero = []
fresh_from number profile index (suc n) = fresh_place number profile index ∷ fresh_from number profile (index + 1) n

-- places, and after them such as were never started
abbrev pub IsGrown : ℕ → Profile → List PlaceView → List PlaceView → Type 0
IsGrown number profile before after = (n : ℕ) × (after ≡ before ++ fresh_from number profile (length before) n)

-- the place after the start of this number, for a revision, that adds these entries
abbrev pub sent : ℕ → List JournalEntry → ℕ → PlaceView → PlaceView
sent revision adds start p = record { journal = started start p.journal; out = Some (record { revision = revision; adds = adds }); starts = p.starts + 1; mark = p.mark }

-- the place after the start that is out ran
abbrev pub ran_home : PlaceView → PlaceView
ran_home p = record { journal = and_entries p.journal (adds_of p.out); out = None; starts = p.starts; mark = p.mark }

-- the place after a start that came to nothing
abbrev pub came_home : PlaceView → PlaceView
came_home p = record { journal = p.journal; out = None; starts = p.starts; mark = p.mark }

-- what came back is that of the lease that is out of a place
pub record IsBackAt (p : PlaceView) (d : Finished) : Type 0 where
  pub lease : Lease
  pub out : p.out ≡ Some lease
  pub journal : IsGrownBy d.outcome lease.adds p.journal d.journal

-- each place has the journal of its own node, of the job's number and profile, the first of which has this index
abbrev pub AreOwn : ℕ → Profile → ℕ → List PlaceView → Type 0
AreOwn number profile i [] = Unit {0}
AreOwn number profile i (p ∷ ps) = (p.journal.job ≡ number) × (p.journal.index ≡ i) × (p.journal.profile ≡ profile) × AreOwn number profile (i + 1) ps

-- what a tree keeps
pub record IsTree (t : TreeView) : Type 0 where
  pub few : length t.places ≤ 64
  pub volume : t.volume ≤ 64
  pub own : AreOwn t.number t.profile 0 t.places

-- the place of a tree at an index
abbrev pub placed : TreeView → ℕ → PlaceView
placed t i = get_or t.places i (fresh_place 0 Plain 0)

-- a tree with another place at an index
abbrev pub with_placed : TreeView → ℕ → PlaceView → TreeView
with_placed t i p = record t { places = slice_set t.places i p }

-- a tree after one slice more
abbrev pub one_more_ran : TreeView → TreeView
one_more_ran t = record t { ran = t.ran + 1 }
