use Rattle.std.proofs.Common.{ℕ, ◌<◌, ◌∙◌, [], ap, subst}
use Rattle.mal_learn.specs.Shown.{HasRoom}
use Rattle.mal_learn.specs.Ways.{Way}
use Rattle.mal_learn.proofs.AnalysedLemmas.{entries-within, begun-room}
use Rattle.mal_learn.proofs.WayLemmas.{way-done}
use Rattle.mal_learn.proofs.way.Way.follow.Goals as goal

pub begin-requires-clause-entries : goal.begin-requires-clause-entries
begin-requires-clause-entries g c = rw (← c.self.view_is) at (entries-within c.args.self.now.room (g.T.TrailView.entries c.args.trail.now) [] c.requires.fitted c.requires.placed)

pub walk_level-requires-clause-room : goal.walk_level-requires-clause-room
walk_level-requires-clause-room g c = begun-room _ _ _ _ _ _ c.current_level-level.result c.args.conflict (g.C.ClauseView.clauses c.args.clauses.now) (g.T.TrailView.entries c.args.trail.now) c.begin.new.self (ap (λ (w : Way). w.room) c.self.view_is) c.requires c.begin.ensures.fits c.begin.ensures.room c.begin.ensures.state

pub returns-clause-resolved : goal.returns-clause-resolved
returns-clause-resolved g c =
    let es = g.T.TrailView.entries c.args.trail.now in
    let cs = g.C.ClauseView.clauses c.args.clauses.now in
    let room : HasRoom 1 c.self.inside.work.room es cs = rw (← c.self.view_is) at c.requires in
    let done = way-done c.self.inside.work.room _ _ _ _ c.args.conflict c.current_level-level.result cs es c.begin.new.self.state c.walk_level.new.self.state room c.begin.ensures.fits c.current_level-level.ensures c.begin.ensures.state c.walk_level.ensures.state in
    done.resolved

pub returns-clause-seen : goal.returns-clause-seen
returns-clause-seen g c =
    let es = g.T.TrailView.entries c.args.trail.now in
    let cs = g.C.ClauseView.clauses c.args.clauses.now in
    let room : HasRoom 1 c.self.inside.work.room es cs = rw (← c.self.view_is) at c.requires in
    let done = way-done c.self.inside.work.room _ _ _ _ c.args.conflict c.current_level-level.result cs es c.begin.new.self.state c.walk_level.new.self.state room c.begin.ensures.fits c.current_level-level.ensures c.begin.ensures.state c.walk_level.ensures.state in
    λ v l. done.seen v (subst (λ (n : ℕ). v < n) (c.walk_level.ensures.room ∙ c.begin.ensures.room) l)
