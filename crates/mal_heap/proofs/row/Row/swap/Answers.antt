use Rattle.std.proofs.Common.{◌≡◌}
use Rattle.std.proofs.lemmas.List.{get_or_read}
use Rattle.mal_heap.specs.Rows.{at}
use Rattle.mal_heap.proofs.RowLemmas.{swap-is, row-swapped, inside-swapped}
use Rattle.mal_heap.proofs.row.Row.swap.Goals as goal

pub returns-clause-row : goal.returns-clause-row
returns-clause-row c =
    let xs = c.args.self.now.items.items in
    let f : c.index-first.result.now ≡ at xs c.args.i = get_or_read xs c.args.i c.index-first.result.now c.requires.first c.index-first.ensures 0 in
    let s : c.index-second.result.now ≡ at xs c.args.j = get_or_read xs c.args.j c.index-second.result.now c.requires.second c.index-second.ensures 0 in
    rw (f, s) (row-swapped xs c.args.self.now.places.items c.args.i c.args.j c.requires.row c.requires.first c.requires.second)

pub returns-clause-swapped : goal.returns-clause-swapped
returns-clause-swapped c =
    let xs = c.args.self.now.items.items in
    let f : c.index-first.result.now ≡ at xs c.args.i = get_or_read xs c.args.i c.index-first.result.now c.requires.first c.index-first.ensures 0 in
    let s : c.index-second.result.now ≡ at xs c.args.j = get_or_read xs c.args.j c.index-second.result.now c.requires.second c.index-second.ensures 0 in
    rw (f, s) (swap-is xs c.args.i c.args.j c.requires.first c.requires.second)

pub returns-clause-inside : goal.returns-clause-inside
returns-clause-inside c count b =
    let xs = c.args.self.now.items.items in
    let f : c.index-first.result.now ≡ at xs c.args.i = get_or_read xs c.args.i c.index-first.result.now c.requires.first c.index-first.ensures 0 in
    let s : c.index-second.result.now ≡ at xs c.args.j = get_or_read xs c.args.j c.index-second.result.now c.requires.second c.index-second.ensures 0 in
    rw (f, s) (inside-swapped xs c.args.self.now.places.items c.args.i c.args.j count c.requires.row c.requires.first c.requires.second b)
