use Rattle.std.proofs.Common.{refl, ◌<◌, length, arith}
use Rattle.std.proofs.lemmas.List.{length-set}
use Rattle.mal_store.proofs.HeaderLemmas.{headers-same, headers-length}
use Rattle.mal_store.proofs.LaidLemmas.{laid-same}
use Rattle.mal_store.proofs.WonLemmas.{fit-at, fit-same}
use Rattle.mal_store.proofs.clause_arena.ClauseArena.keep_search_start.Goals as goal

pub invariant_of-self : goal.invariant_of-self
invariant_of-self c =
    let s = c.self.inside in
    let inside : c.args.place < length s.headers.items = omega (arith, rw (← c.self.view_is) at c.requires, headers-length s.literals.items s.headers.items) in
    (laid-same 0 (length s.literals.items) s.headers.items c.args.place c.index-header.result.now c.with_search_start.result inside c.index-header.ensures c.with_search_start.ensures.from c.with_search_start.ensures.end c.self.invariant.0, c.self.invariant.1, fit-same s.headers.items c.args.place c.with_search_start.result (c.with_search_start.ensures.fit (fit-at s.headers.items c.args.place c.index-header.result.now inside c.index-header.ensures c.self.invariant.2)) c.self.invariant.2, omega (arith, length-set s.headers.items c.args.place c.with_search_start.result, c.self.invariant.3))

pub returns : goal.returns
returns c =
    let s = c.self.inside in
    let inside : c.args.place < length s.headers.items = omega (arith, rw (← c.self.view_is) at c.requires, headers-length s.literals.items s.headers.items) in
    rw (← c.self.view_is, headers-same s.literals.items s.headers.items c.args.place c.index-header.result.now c.with_search_start.result inside c.index-header.ensures c.with_search_start.ensures.id (c.with_search_start.ensures.lits s.literals.items)) refl
