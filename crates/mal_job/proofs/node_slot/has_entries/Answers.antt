use Rattle.std.proofs.Common.{◌==◌, not, length, List, sym, ◌∙◌, ap}
use Rattle.spec_job.specs.Journal.{JournalEntry}
use Rattle.mal_job.proofs.LentLemmas.{some-entries}
use Rattle.mal_job.proofs.node_slot.has_entries.Goals as goal

pub returns-then-not-is_empty : goal.returns-then-not-is_empty
returns-then-not-is_empty c =
    ap not c.if-not-is_empty.true
    ∙ (some-entries c.parts-slices.result.0.now c.parts-slices.result.1 (sym c.is_empty.ensures ∙ c.if-not-is_empty.true)
    ∙ ap (λ (es : List JournalEntry). not (length es == 0)) c.parts-slices.ensures)
