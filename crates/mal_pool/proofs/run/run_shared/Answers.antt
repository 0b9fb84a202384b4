use Rattle.std.proofs.Common.{◌∙◌}
use Rattle.mal_pool.proofs.RunLosses.{run-loses, settled-late, settled-run}
use Rattle.mal_pool.proofs.Sharings.{come-run}
use Rattle.mal_pool.proofs.run.run_shared.Goals as goal

pub returns-in-Ok-true-clause-run : goal.returns-in-Ok-true-clause-run
returns-in-Ok-true-clause-run g c =
    let size = rw c.in-Some-2.is at c.in_ok-hall.ensures.workers in
    let settled = rw c.in-Some-2.is at c.in_ok-hall.ensures.settled in
    settled-run c.args.workers c.args.script.now c.in-Some-2.hall (size ∙ c.requires.size) c.serves.ensures.legal (c.in-Ok-true.ensures.posts c.in-Ok-true.field-0-test) settled.2.answered settled.2.home

pub returns-in-Ok-true-clause-lost : goal.returns-in-Ok-true-clause-lost
returns-in-Ok-true-clause-lost g c =
    let all = rw c.in-Some.is at c.in_ok-pass.ensures.all in
    let settled = rw c.in-Some-2.is at c.in_ok-hall.ensures.settled in
    run-loses (g.G.Gate.stops c.args.gate.now) (λ x. g.B.Desk.is_of c.args.board x.pass) (λ x. x.stopped) c.in-Some.played.items c.deref.result.now c.is_stopped-stopped.result c.in-Some-2.hall.events
    all c.deref.ensures.value c.is_stopped-stopped.ensures (c.in-Ok-true.ensures.lost c.in-Ok-true.field-0-test)
    (settled-late _ _ _ settled.0 c.in-Some-2.hall.events settled.1 settled.2)

pub returns-in-Ok-true-clause-came : goal.returns-in-Ok-true-clause-came
returns-in-Ok-true-clause-came g c =
    let size = rw c.in-Some-2.is at c.in_ok-hall.ensures.workers in
    let settled = rw c.in-Some-2.is at c.in_ok-hall.ensures.settled in
    let opened = rw c.in-Some.is at c.in_ok-pass.ensures.opened in
    let parts = rw c.in-Some.is at c.in_ok-pass.ensures.parts in
    let played = rw c.in-Some.is at c.in_ok-pass.ensures.played in
    come-run g.B.Desk.calls g.B.Board.leaves (g.G.Gate.stops c.args.gate.now) c.args.workers c.in-Some-2.hall.workers c.args.script.now c.jobs.result.now c.jobs-2.result.now c.in-Some.played.items c.args.pass c.in-Some.pass settled.0 c.in-Some-2.hall.events
    c.jobs.ensures.jobs c.jobs-2.ensures.jobs (size ∙ c.requires.size) opened parts played settled.2 settled.3
