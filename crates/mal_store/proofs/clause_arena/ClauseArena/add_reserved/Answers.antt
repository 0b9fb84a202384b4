use Rattle.std.proofs.Common.{◌+◌, ◌≤◌, length, refl, ◌∙◌, arith}
use Rattle.mal_store.specs.declared.clause_arena.Header.{Header}
use Rattle.mal_store.proofs.LaidLemmas.{laid-push, laid-within}
use Rattle.mal_store.proofs.HeaderLemmas.{clauses-push}
use Rattle.mal_store.proofs.WonLemmas.{fit-push, listed-less}
use Rattle.mal_store.proofs.clause_arena.ClauseArena.add_reserved.Goals as goal

pub body_of-body-requires-clause-few : goal.body_of-body-requires-clause-few
body_of-body-requires-clause-few c = omega (arith, rw (← c.self.view_is) at c.requires.literal_room, c.self.invariant.1)

pub invariant_of-self : goal.invariant_of-self
invariant_of-self c =
    let s = c.self.inside in
    let header : Header = record { id = c.args.id; body = c.body_of-body.result } in
    let few : length s.literals.items + length c.args.lits.now ≤ 4294967295 = omega (arith, rw (← c.self.view_is) at c.requires.literal_room, c.self.invariant.1) in
    (rw c.push_reserved.ensures.items (laid-push 0 (length s.literals.items) (length c.body_of-body.new.literals.items) s.headers.items header c.body_of-body.ensures.from c.body_of-body.ensures.end c.self.invariant.0), omega (arith, c.body_of-body.ensures.len, listed-less c.args.lits.now, few), rw c.push_reserved.ensures.items (fit-push s.headers.items header c.body_of-body.ensures.fit c.self.invariant.2), omega (arith, c.push_reserved.ensures, rw (← c.self.view_is) at c.requires.clause_room, c.self.invariant.3))

pub returns-clause-clauses : goal.returns-clause-clauses
returns-clause-clauses c =
    let s = c.self.inside in
    let header : Header = record { id = c.args.id; body = c.body_of-body.result } in
    let headers = c.body_of-body.ensures.headers s.headers.items (laid-within 0 (length s.literals.items) s.headers.items c.self.invariant.0) in
    rw (c.push_reserved.ensures.items, ← c.self.view_is) (clauses-push c.body_of-body.new.literals.items s.headers.items header ∙ rw (headers.1, c.body_of-body.ensures.lits) refl)
