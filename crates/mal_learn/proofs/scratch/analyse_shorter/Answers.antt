use Rattle.std.proofs.Common.{◌≡◌, refl, ℕ, List, ◌<◌, ◌≤◌, ◌∙◌, [], false, length, ap, arith}
use Rattle.std.proofs.lemmas.List.{length-replicate}
use Rattle.std.proofs.lemmas.List.Elements.{All-weaker}
use Rattle.mal_base.specs.Literals.{var_of}
use Rattle.mal_base.specs.declared.trail_entry.TrailEntry.{TrailEntry}
use Rattle.mal_learn.specs.Working.{here_all}
use Rattle.mal_learn.specs.Shown.{EntriesWithin, HasRoom, Shown}
use Rattle.mal_learn.proofs.AnalysedLemmas.{entries-within, begun-room}
use Rattle.mal_learn.proofs.ShortenLemmas.{shortening-done}
use Rattle.mal_learn.proofs.scratch.analyse_shorter.Goals as goal

pub begin-requires-clause-entries : goal.begin-requires-clause-entries
begin-requires-clause-entries g c = rw (← c.scratch.view_is) at (entries-within c.args.scratch.now.room (g.T.TrailView.entries c.args.trail.now) [] c.requires.fitted c.requires.placed)

wider : (m n : ℕ) (es : List TrailEntry) → m ≤ n → EntriesWithin m es → EntriesWithin n es
wider m n es l h = All-weaker (λ e. var_of e.lit < m) (λ e. var_of e.lit < n) (λ e k. omega arith) es h

pub mark_level-requires : goal.mark_level-requires
mark_level-requires g c =
    let n = c.scratch.inside.work.room in
    let long : length c.clear.new.self ≡ length c.scratch.inside.base = ap length c.clear.ensures ∙ length-replicate (length c.scratch.inside.base) false in
    let fits : n ≤ length c.scratch.inside.base = c.scratch.invariant in
    wider n (length c.clear.new.self) (g.T.TrailView.entries c.args.trail.now) (omega (arith, long, fits)) (entries-within n (g.T.TrailView.entries c.args.trail.now) [] (rw (← c.scratch.view_is) at c.requires.fitted) (rw (← c.scratch.view_is) at c.requires.placed))

pub walk_shorter-requires-clause-room : goal.walk_shorter-requires-clause-room
walk_shorter-requires-clause-room g c = begun-room _ _ _ _ _ _ c.current_level-level.result c.args.conflict (g.C.ClauseView.clauses c.args.clauses.now) (g.T.TrailView.entries c.args.trail.now) c.begin.new.self (ap (λ (s : Shown). s.room) c.scratch.view_is) c.requires c.begin.ensures.fits c.begin.ensures.room c.begin.ensures.state

pub returns : goal.returns
returns g c =
    let es = g.T.TrailView.entries c.args.trail.now in
    let cs = g.C.ClauseView.clauses c.args.clauses.now in
    let room : HasRoom 1 c.scratch.inside.work.room es cs = rw (← c.scratch.view_is) at c.requires in
    let done = shortening-done _ _ _ _ _ _ c.args.conflict c.current_level-level.result cs es c.begin.new.self.state c.mark_level.new.here c.walk_shorter.new.base c.walk_shorter.new.self c.finish.new.self room c.begin.ensures.fits c.scratch.invariant c.current_level-level.ensures c.begin.ensures.state (c.mark_level.ensures.marks ∙ ap (here_all 0 es) c.clear.ensures) c.walk_shorter.ensures.walk c.finish.ensures in
    record { clause = done.clause; hints = done.hints; level = done.level; room = rw (← c.scratch.view_is) (c.finish.ensures.room ∙ (c.walk_shorter.ensures.room ∙ c.begin.ensures.room)); id_room = rw (← c.scratch.view_is) refl }
