use Rattle.std.proofs.Common.{refl, ◌∙◌, [], ap}
use Rattle.mal_learn.specs.Shown.{HasRoom, Shown}
use Rattle.mal_learn.proofs.AnalysedLemmas.{entries-within, begun-room, analysis-done}
use Rattle.mal_learn.proofs.scratch.analyse.Goals as goal

pub begin-requires-clause-entries : goal.begin-requires-clause-entries
begin-requires-clause-entries g c = rw (← c.scratch.view_is) at (entries-within c.args.scratch.now.room (g.T.TrailView.entries c.args.trail.now) [] c.requires.fitted c.requires.placed)

pub walk-requires-clause-room : goal.walk-requires-clause-room
walk-requires-clause-room g c = begun-room _ _ _ _ _ _ c.current_level-level.result c.args.conflict (g.C.ClauseView.clauses c.args.clauses.now) (g.T.TrailView.entries c.args.trail.now) c.begin.new.self (ap (λ (s : Shown). s.room) c.scratch.view_is) c.requires c.begin.ensures.fits c.begin.ensures.room c.begin.ensures.state

pub returns : goal.returns
returns g c =
    let es = g.T.TrailView.entries c.args.trail.now in
    let cs = g.C.ClauseView.clauses c.args.clauses.now in
    let room : HasRoom 1 c.scratch.inside.work.room es cs = rw (← c.scratch.view_is) at c.requires in
    let done = analysis-done _ _ _ _ _ c.args.conflict c.current_level-level.result cs es c.begin.new.self.state c.walk.new.self c.finish.new.self room c.begin.ensures.fits c.current_level-level.ensures c.begin.ensures.state c.walk.ensures.state c.finish.ensures in
    record { clause = done.clause; hints = done.hints; level = done.level; room = rw (← c.scratch.view_is) (c.finish.ensures.room ∙ (c.walk.ensures.room ∙ c.begin.ensures.room)); id_room = rw (← c.scratch.view_is) refl }
