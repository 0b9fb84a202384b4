use Rattle.std.proofs.Common.{◌<◌, ◌≤◌, arith}
use Rattle.mal_store.proofs.EntryLemmas.{under-front, under-back, rise-behind}
use Rattle.mal_store.proofs.index.Index.get.Goals as goal

pub returns-then-number-lt-FIRST_DERIVED : goal.returns-then-number-lt-FIRST_DERIVED
returns-then-number-lt-FIRST_DERIVED c =
    let s = c.self.inside in
    let low : c.args.id < 4294967296 = omega (arith, c.if-number-lt-FIRST_DERIVED.true, c.number.ensures.value) in
    rw (← c.self.view_is, under-front c.args.id 4294967296 s.originals.items s.derived.items low c.self.invariant.behind) (rw c.as_slice.ensures.value at c.get_in.ensures)

pub get_in-requires-2 : goal.get_in-requires-2
get_in-requires-2 c = rw c.as_slice-2.ensures.value (rise-behind c.self.inside.derived.items c.self.invariant.behind)

pub returns : goal.returns
returns c =
    let s = c.self.inside in
    let high : 4294967296 ≤ c.args.id = omega (arith, c.if-number-lt-FIRST_DERIVED.false, c.number.ensures.value) in
    rw (← c.self.view_is, under-back c.args.id 4294967296 s.originals.items s.derived.items high c.self.invariant.below) (rw c.as_slice-2.ensures.value at c.get_in-2.ensures)
