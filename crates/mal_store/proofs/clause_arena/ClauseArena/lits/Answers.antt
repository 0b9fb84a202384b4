use Rattle.std.proofs.Common.{◌<◌, length, arith}
use Rattle.mal_store.proofs.HeaderLemmas.{headers-at, headers-length}
use Rattle.mal_store.proofs.LaidLemmas.{laid-within}
use Rattle.mal_store.proofs.clause_arena.ClauseArena.lits.Goals as goal

pub lits_of-requires : goal.lits_of-requires
lits_of-requires c =
    let s = c.self.inside in
    let inside : c.args.place < length s.headers.items = omega (arith, rw (← c.self.view_is) at c.requires, headers-length s.literals.items s.headers.items) in
    rw c.as_slice.ensures.value (rw (← c.index.ensures) at (headers-at (length s.literals.items) s.headers.items c.args.place c.index.result.now (laid-within 0 (length s.literals.items) s.headers.items c.self.invariant.0) inside))
