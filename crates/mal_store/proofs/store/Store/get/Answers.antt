use Rattle.std.proofs.Common.{Option, ◌∙◌, ap}
use Rattle.std.specs.Option.{option_map}
use Rattle.mal_store.specs.declared.entry.Entry.{Entry}
use Rattle.mal_store.specs.Stored.{lits_held}
use Rattle.mal_store.proofs.HeldLemmas.{under-held, placed-under}
use Rattle.mal_store.proofs.store.Store.get.Goals as goal

pub lits_of-requires : goal.lits_of-requires
lits_of-requires c =
    let s = c.self.inside in
    (c.in-Some.entry.now.id, placed-under s.long.clauses c.args.id s.index.entries c.in-Some.entry.now c.self.invariant.placed c.in-Some.ensures)

pub returns-in-None : goal.returns-in-None
returns-in-None c =
    let s = c.self.inside in
    rw (← c.self.view_is) (under-held s.long.clauses c.args.id s.index.entries ∙ ap (λ (o : Option Entry). option_map (λ (e : Entry). lits_held s.long.clauses e.held) o) c.in-None.ensures)

pub returns-in-Some : goal.returns-in-Some
returns-in-Some c =
    let s = c.self.inside in
    rw (c.lits_of.ensures, ← c.self.view_is) (under-held s.long.clauses c.args.id s.index.entries ∙ ap (λ (o : Option Entry). option_map (λ (e : Entry). lits_held s.long.clauses e.held) o) c.in-Some.ensures)
