use Rattle.std.proofs.Common.{◌≡◌, ◌-◌, ◌<◌, ◌∙◌, length, take, reverse, sym, ap, subst, arith}
use Rattle.mal_learn.specs.Working.{State}
use Rattle.mal_learn.specs.Tracing.{traced_all}
use Rattle.mal_learn.proofs.WalkLemmas.{AddsOne, resolved-adds}
use Rattle.mal_learn.proofs.TraceLemmas.{from-cause, resolved-lits}
use Rattle.mal_learn.proofs.work.Work.trace_from.Goals as goal

pub trace_all-requires-clause-lit_room : goal.trace_all-requires-clause-lit_room
trace_all-requires-clause-lit_room g c =
    let cs = g.C.ClauseView.clauses c.args.clauses.now in
    let same : length c.resolve.new.self.state.lits ≡ length c.args.self.now.state.lits = ap (λ (s : State). length s.lits) c.resolve.ensures.state ∙ resolved-lits cs c.in-Some.reason c.args.self.now.state in
    let some : 0 < c.args.count = omega (arith, c.if-count-eq0.false) in
    omega (arith, same, some, c.requires.lit_room, c.resolve.ensures.room)

pub trace_all-requires-clause-hint_room : goal.trace_all-requires-clause-hint_room
trace_all-requires-clause-hint_room g c =
    let cs = g.C.ClauseView.clauses c.args.clauses.now in
    let adds : AddsOne c.args.self.now.state c.resolve.new.self.state = subst (AddsOne c.args.self.now.state) (sym c.resolve.ensures.state) (resolved-adds cs c.in-Some.reason c.args.self.now.state) in
    let some : 0 < c.args.count = omega (arith, c.if-count-eq0.false) in
    omega (arith, adds.hints, some, c.requires.hint_room, c.resolve.ensures.room)

pub returns-in-None-clause-state : goal.returns-in-None-clause-state
returns-in-None-clause-state g c = sym (from-cause _ c.args.count _ _ c.args.self.now.state _ (omega (arith, c.if-count-eq0.false)) c.requires.count c.at.ensures c.in-None.is)

pub returns-in-Some-clause-state : goal.returns-in-Some-clause-state
returns-in-Some-clause-state g c =
    let past = reverse (take (c.args.count - 1) (g.T.TrailView.entries c.args.trail.now)) in
    let whole = from-cause _ c.args.count _ _ c.args.self.now.state _ (omega (arith, c.if-count-eq0.false)) c.requires.count c.at.ensures c.in-Some.is in
    c.trace_all.ensures.state ∙ (ap (traced_all (g.C.ClauseView.clauses c.args.clauses.now) past) c.resolve.ensures.state ∙ sym whole)
