use Rattle.std.proofs.Common.{List, sym, subst}
use Rattle.spec_job.specs.Journal.{JournalEntry}
use Rattle.mal_suspend.specs.Replaying.{IsJournal}
use Rattle.mal_suspend.specs.Starting.{shared_loads, shared_imports, start_entries}
use Rattle.mal_suspend.proofs.ReplayLemmas.{journal-grows, start-rests}
use Rattle.mal_suspend.proofs.journal.Journal.grown.Goals as goal

pub invariant_of-result : goal.invariant_of-result
invariant_of-result c =
    let before : List JournalEntry = c.self.inside.entries in
    let adds : List JournalEntry = start_entries (shared_loads c.args.loads.now) (shared_imports c.args.imports.now) in
    subst (λ (es : List JournalEntry). IsJournal c.self.inside.profile c.self.inside.index es) (sym c.in_ok-entries.ensures) (journal-grows c.self.inside.profile c.self.inside.index before adds c.self.invariant (rw (← c.self.view_is) at c.requires) (start-rests before (shared_loads c.args.loads.now) (shared_imports c.args.imports.now)))

pub returns-clause-keeps : goal.returns-clause-keeps
returns-clause-keeps c = invariant_of-result c
