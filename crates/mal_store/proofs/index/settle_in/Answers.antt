use Rattle.std.proofs.Common.{◌≡◌, sym, refl}
use Rattle.std.specs.Prelude.{None}
use Rattle.mal_store.specs.declared.entry.Entry.{Entry}
use Rattle.mal_store.specs.Indexed.{entry_under}
use Rattle.mal_store.proofs.EntryLemmas.{settled-none, settled-at, under-id}
use Rattle.mal_store.proofs.index.settle_in.Goals as goal

pub returns-in-None-clause-items : goal.returns-in-None-clause-items
returns-in-None-clause-items c =
    let none : entry_under c.args.id c.args.entries.now.items ≡ None = rw c.as_slice.ensures.value at c.in-None.ensures in
    sym (settled-none c.args.id c.args.place c.args.entries.now.items none)

pub returns-in-Some-clause-items : goal.returns-in-Some-clause-items
returns-in-Some-clause-items c =
    let es = c.args.entries.now.items in
    let r = c.index.result.now in
    let entry : Entry = record { id = c.args.id; held = c.moved_to-held.result } in
    let found = rw c.as_slice.ensures.value at c.in-Some.ensures in
    sym (settled-at 1 c.args.id c.args.place es c.in-Some.at r entry c.requires found.0 c.index.ensures (under-id c.args.id es c.in-Some.at r found.0 c.index.ensures found.1) refl c.moved_to-held.ensures)
