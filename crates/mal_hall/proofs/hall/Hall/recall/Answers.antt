use Rattle.std.proofs.Common.{◌≡◌, ◌≤◌, ◌∙◌, ap, sym, arith}
use Rattle.mal_hall.specs.HallView.{HallView}
use Rattle.mal_hall.proofs.PhaseLemmas.{may-lose}
use Rattle.mal_hall.proofs.RecallLemmas.{home-none, home-one, lose-none, lose-one, recall-done}
use Rattle.mal_hall.proofs.hall.Hall.recall.Goals as goal
use Rattle.mal_hall.proofs.hall.Hall.recall.Goals.{then-has_lease, else-has_lease}

pub end-requires-clause-may : goal.end-requires-clause-may
end-requires-clause-may c = may-lose _ c.loop-worker.worker (sym c.has_lease.ensures ∙ c.if-has_lease.true)

pub loop-worker-preserved : goal.loop-worker-preserved
loop-worker-preserved c =
    let low : c.loop-worker.worker ≤ c.args.self.now.workers = omega (arith, c.loop-worker-test.true, c.workers-worker-end.ensures.value, ap (λ (s : HallView). s.workers) c.self.view_is) in
    elim c.if-has_lease.branch [
      | then-has_lease w ↦ rw w.self-is (record {
        workers = w.end.ensures.workers ∙ c.loop-worker.invariant.workers;
        inside = w.end.ensures.inside ∙ c.loop-worker.invariant.inside;
        grown = lose-one c.args.self.now.workers c.loop-worker.worker _ _ low w.end.ensures.ended ∙ c.loop-worker.invariant.grown;
        home = home-one c.loop-worker.worker c.loop-worker.self.events w.end.new.self.events c.loop-worker.invariant.home w.end.ensures.ended;
      })
      | else-has_lease w ↦ rw w.self-is (record {
        workers = c.loop-worker.invariant.workers;
        inside = c.loop-worker.invariant.inside;
        grown = lose-none c.args.self.now.workers c.loop-worker.worker c.loop-worker.self.events low (sym c.has_lease.ensures ∙ w.if-has_lease.false) ∙ c.loop-worker.invariant.grown;
        home = home-none c.loop-worker.worker c.loop-worker.self.events c.loop-worker.invariant.home (sym c.has_lease.ensures ∙ w.if-has_lease.false);
      })
    ]

pub returns-clause-call : goal.returns-clause-call
returns-clause-call c =
    let same : c.workers-worker-end.result ≡ c.args.self.now.workers = c.workers-worker-end.ensures.value ∙ ap (λ (s : HallView). s.workers) c.self.view_is in
    (recall-done c.args.self.now.workers c.loop-worker.worker _ _ c.is_due.ensures.some c.is_due.ensures.bound c.is_due.ensures.legal (omega (arith, c.loop-worker-test.false, same)) c.loop-worker.invariant.grown c.loop-worker.invariant.home).call

pub returns-clause-home : goal.returns-clause-home
returns-clause-home c =
    let same : c.workers-worker-end.result ≡ c.args.self.now.workers = c.workers-worker-end.ensures.value ∙ ap (λ (s : HallView). s.workers) c.self.view_is in
    (recall-done c.args.self.now.workers c.loop-worker.worker _ _ c.is_due.ensures.some c.is_due.ensures.bound c.is_due.ensures.legal (omega (arith, c.loop-worker-test.false, same)) c.loop-worker.invariant.grown c.loop-worker.invariant.home).home
