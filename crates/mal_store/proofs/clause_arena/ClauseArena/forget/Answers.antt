use Rattle.std.proofs.Common.{◌≡◌, ◌∙◌, ◌-◌, List, length, min, vec_len, vec_capacity, refl, ap, arith}
use Rattle.std.specs.Prelude.{sum_by}
use Rattle.spec_node.specs.Adding.{forgetting}
use Rattle.mal_store.specs.declared.clause_arena.Header.{Header}
use Rattle.mal_store.specs.Arena.{is_left}
use Rattle.mal_store.specs.Arena.{Arena, clause_in, clauses_in, len_of, listed_count}
use Rattle.mal_store.proofs.LaidLemmas.{laid-filter, laid-within, headers-filter}
use Rattle.mal_store.proofs.WonLemmas.{headers-listed, laid-total, fit-filter}
use Rattle.mal_store.proofs.clause_arena.ClauseArena.forget.Goals as goal

pub close_up-requires-clause-laid : goal.close_up-requires-clause-laid
close_up-requires-clause-laid c =
    let s = c.self.inside in
    rw (c.take_away.ensures.items s.literals.items) (laid-filter (λ (r : Header). is_left c.args.ids.now (clause_in s.literals.items r)) 0 (length s.literals.items) s.headers.items c.self.invariant.0)

pub returns-clause-clauses : goal.returns-clause-clauses
returns-clause-clauses c =
    let s = c.self.inside in
    c.close_up.ensures.clauses
    ∙ (ap (λ (rs : List Header). clauses_in s.literals.items rs) (c.take_away.ensures.items s.literals.items)
    ∙ (headers-filter s.literals.items c.args.ids.now s.headers.items ∙ ap (λ (v : Arena). forgetting c.args.ids.now v.clauses) c.self.view_is))

pub close_up-requires-clause-fit : goal.close_up-requires-clause-fit
close_up-requires-clause-fit c =
    let s = c.self.inside in
    rw (c.take_away.ensures.items s.literals.items) (fit-filter (λ (r : Header). is_left c.args.ids.now (clause_in s.literals.items r)) s.headers.items c.self.invariant.2)

pub returns-clause-won : goal.returns-clause-won
returns-clause-won c =
    let s = c.self.inside in
    let old : listed_count c.args.self.now.clauses ≡ sum_by (λ r. len_of r.body) s.headers.items = rw (← c.self.view_is) (headers-listed s.literals.items s.headers.items (laid-within 0 (length s.literals.items) s.headers.items c.self.invariant.0) c.self.invariant.2) in
    let new = headers-listed c.close_up.new.literals.items c.close_up.new.headers.items (laid-within 0 _ _ c.close_up.ensures.laid) c.close_up.ensures.fit in
    let room : c.args.self.now.literal_room ≡ min (vec_capacity s.literals - vec_len s.literals) (4294967295 - vec_len s.literals) = rw (← c.self.view_is) refl in
    omega (arith, old, new, room, laid-total 0 _ s.headers.items c.self.invariant.0, c.self.invariant.1, c.close_up.ensures.total, c.close_up.ensures.literals, c.close_up.ensures.room)
