use Rattle.std.proofs.Common.{refl, ◌+◌, ◌≤◌, ◌∙◌, [], length, ap, arith}
use Rattle.mal_learn.specs.Shown.{HasRoom}
use Rattle.mal_learn.proofs.AnalysedLemmas.{entries-within, room-short}
use Rattle.mal_learn.proofs.TraceLemmas.{core-done}
use Rattle.mal_learn.proofs.scratch.final_core.Goals as goal

pub trace_from-requires-clause-entries : goal.trace_from-requires-clause-entries
trace_from-requires-clause-entries g c = rw c.begin_with.ensures.room (rw (← c.scratch.view_is) at (entries-within c.args.scratch.now.room (g.T.TrailView.entries c.args.trail.now) [] (omega (arith, c.requires.fitted)) c.requires.placed))

pub trace_from-requires-clause-lit_room : goal.trace_from-requires-clause-lit_room
trace_from-requires-clause-lit_room g c =
    let short : length (g.T.TrailView.entries c.args.trail.now) + 1 ≤ c.scratch.inside.work.room = rw (← c.scratch.view_is) at (room-short _ (g.T.TrailView.entries c.args.trail.now) (omega (arith, c.requires.fitted)) c.requires.placed) in
    omega (arith, short, ap length c.begin_with.ensures.lits, c.begin_with.ensures.room, c.count_to-count.ensures.bound)

pub trace_from-requires-clause-hint_room : goal.trace_from-requires-clause-hint_room
trace_from-requires-clause-hint_room g c =
    let short : length (g.T.TrailView.entries c.args.trail.now) + 1 ≤ c.scratch.inside.work.room = rw (← c.scratch.view_is) at (room-short _ (g.T.TrailView.entries c.args.trail.now) (omega (arith, c.requires.fitted)) c.requires.placed) in
    omega (arith, short, ap length c.begin_with.ensures.hints, c.begin_with.ensures.room, c.count_to-count.ensures.bound)

pub returns : goal.returns
returns g c =
    let es = g.T.TrailView.entries c.args.trail.now in
    let cs = g.C.ClauseView.clauses c.args.clauses.now in
    let room : HasRoom 2 c.scratch.inside.work.room es cs = rw (← c.scratch.view_is) at c.requires in
    let done = core-done _ _ _ _ _ c.args.assumption c.negate-negation.result c.count_to-count.result cs es c.begin_with.new.self.state c.trace_from.new.self c.finish.new.self room c.begin_with.ensures.fits c.negate-negation.ensures c.count_to-count.ensures.is c.begin_with.ensures.state c.trace_from.ensures.state c.finish.ensures in
    record { clause = done.clause; hints = done.hints; level = done.level; room = rw (← c.scratch.view_is) (c.finish.ensures.room ∙ (c.trace_from.ensures.room ∙ c.begin_with.ensures.room)); id_room = rw (← c.scratch.view_is) refl }
