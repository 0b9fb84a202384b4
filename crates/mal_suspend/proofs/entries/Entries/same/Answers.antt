use Rattle.std.proofs.Common.{◌≡◌, ◌++◌, ℕ, List, sym, ◌∙◌, ap}
use Rattle.spec_job.specs.Journal.{JournalEntry}
use Rattle.mal_suspend.specs.Counting.{listed_in}
use Rattle.mal_suspend.specs.Entries.{slices_of, entries_of}
use Rattle.mal_suspend.proofs.EntryLemmas.{AreKnown, differ, all-known, counted-entries}
use Rattle.mal_suspend.proofs.entries.Entries.same.Goals as goal

pub returns-then-self-other : goal.returns-then-self-other
returns-then-self-other c =
    let one = c.self.inside in
    let other = c.other.inside in (
      λ h. differ h,
      λ same.
          let known : AreKnown (listed_in one.listed) (listed_in other.listed) one.slices other.slices = all-known (listed_in one.listed) (listed_in other.listed) one.slices other.slices (c.self.view_is ∙ (same ∙ sym c.other.view_is)) in
          absurd (c.if-self-other.true known.slices),
    )

pub returns : goal.returns
returns c =
    let one = c.self.inside in
    let other = c.other.inside in
    let first = c.counted_in.ensures in
    let second = c.counted_in-2.ensures in (
      λ test.
          let entries : entries_of (listed_in one.listed) ≡ entries_of (listed_in other.listed) = counted-entries (listed_in one.listed) (listed_in other.listed) (rw (first, second) at (c.are_same.ensures.0 test)) in
          sym c.self.view_is ∙ (ap (λ (es : List JournalEntry). es ++ slices_of one.slices) entries ∙ (ap (λ (n : ℕ). entries_of (listed_in other.listed) ++ slices_of n) c.if-self-other.false ∙ c.other.view_is)),
      λ same.
          let known : AreKnown (listed_in one.listed) (listed_in other.listed) one.slices other.slices = all-known (listed_in one.listed) (listed_in other.listed) one.slices other.slices (c.self.view_is ∙ (same ∙ sym c.other.view_is)) in
          c.are_same.ensures.1 (rw (first, second) known.counted),
    )
