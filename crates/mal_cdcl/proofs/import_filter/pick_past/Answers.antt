use Rattle.std.proofs.Common.{◌≡◌, arith, filter, not}
use Rattle.mal_filter.specs.Noted.{is_noted}
use Rattle.mal_cdcl.specs.Importing.{lent}
use Rattle.mal_cdcl.proofs.PickLemmas.{picking-begins, picking-next, picking-ends}
use Rattle.mal_cdcl.proofs.import_filter.pick_past.Goals as goal

pub loop-exported-init : goal.loop-exported-init
loop-exported-init c = λ clauses h. rw c.requires (picking-begins (lent c.args.imports.now) clauses c.args.seen.now h)

pub loop-exported-preserved : goal.loop-exported-preserved
loop-exported-preserved c = λ clauses h.
    let pick : c.in_ok-of.field-0 ≡ filter (λ d. not (is_noted d.lits c.loop-exported.seen)) c.exported-item.result.now = rw c.entries.ensures.value at c.in_ok-of.ensures in
    rw c.in_ok-push.ensures.items (picking-next c.args.imports.now c.loop-exported.exported-index c.exported-item.result c.exported-item.result c.in_ok-of.field-0 clauses c.loop-exported.picks.items c.loop-exported.seen c.note_entries.new.seen (omega arith) c.exported-item.is pick (rw c.entries-in-loop-exported.ensures.value at c.in_ok-note_entries.ensures) (c.loop-exported.invariant clauses h))

pub returns : goal.returns
returns c = λ clauses h. picking-ends c.args.imports.now c.loop-exported.exported-index clauses c.loop-exported.picks.items c.loop-exported.seen (omega arith) (c.loop-exported.invariant clauses h)
