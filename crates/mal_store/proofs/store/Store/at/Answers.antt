use Rattle.mal_store.proofs.HeldLemmas.{placed-get, held-get}
use Rattle.mal_store.proofs.store.Store.at.Goals as goal

pub lits_of-requires : goal.lits_of-requires
lits_of-requires c =
    let s = c.self.inside in
    (c.at-entry.result.now.id, placed-get s.long.clauses s.index.entries c.args.place c.at-entry.result.now c.self.invariant.placed c.at-entry.ensures)

pub returns : goal.returns
returns c =
    let s = c.self.inside in
    rw (c.lits_of.ensures, ← c.self.view_is) (held-get s.long.clauses s.index.entries c.args.place c.at-entry.result.now c.at-entry.ensures)
