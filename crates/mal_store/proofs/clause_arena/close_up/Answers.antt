use Rattle.std.proofs.Common.{◌≡◌, length, refl, arith}
use Rattle.mal_store.specs.declared.clause_arena.Header.{Header}
use Rattle.mal_store.proofs.LaidLemmas.{laid-at, laid-forward, close-more, close-last, close-total}
use Rattle.mal_store.proofs.clause_arena.close_up.Goals as goal

pub move_down-body-requires-clause-within : goal.move_down-body-requires-clause-within
move_down-body-requires-clause-within c =
    let s = c.loop-place in
    laid-at s.end (length s.literals.items) s.headers.items s.place c.index-header.result.now (omega arith) c.index-header.ensures s.invariant.closing.rest

pub loop-place-preserved : goal.loop-place-preserved
loop-place-preserved c =
    let s = c.loop-place in
    let m = c.move_down-body in
    let header : Header = record { id = c.index-header.result.now.id; body = m.result.0 } in
    let same : length m.new.literals.items ≡ length s.literals.items = omega (arith, m.ensures.len) in
    record {
      closing = close-more c.args.literals.now.items s.literals.items m.new.literals.items c.args.headers.now.items s.headers.items s.place s.end m.result.1 c.index-header.result.now header (omega arith) c.index-header.ensures same refl m.ensures.lits m.ensures.from m.ensures.end m.ensures.lower m.ensures.total m.ensures.fit (λ k a b. m.ensures.below k 0 b) (λ k a b. m.ensures.above k 0 a) s.invariant.closing;
      headers = s.invariant.headers;
      header_room = s.invariant.header_room;
      literals = omega (arith, m.ensures.len, s.invariant.literals);
      room = omega (arith, m.ensures.capacity, s.invariant.room);
    }

pub returns-clause-clauses : goal.returns-clause-clauses
returns-clause-clauses c =
    let s = c.loop-place in
    let short = laid-forward s.end _ _ s.invariant.closing.rest in
    close-last c.args.literals.now.items s.literals.items c.truncate.new.self.items c.args.headers.now.items s.headers.items s.place s.end (omega arith) (omega (arith, short, c.truncate.ensures.len)) c.truncate.ensures.by_index s.invariant.closing

pub returns-clause-fit : goal.returns-clause-fit
returns-clause-fit c = c.loop-place.invariant.closing.fit

pub returns-clause-total : goal.returns-clause-total
returns-clause-total c =
    let s = c.loop-place in
    let short = laid-forward s.end _ _ s.invariant.closing.rest in
    omega (arith, short, c.truncate.ensures.len, close-total c.args.literals.now.items s.literals.items c.args.headers.now.items s.headers.items s.place s.end (omega arith) s.invariant.closing)
