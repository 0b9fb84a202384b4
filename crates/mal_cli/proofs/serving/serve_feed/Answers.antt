use Rattle.std.proofs.Common.{ℕ, refl, subst}
use Rattle.mal_answer.specs.Devices.{device}
use Rattle.mal_cli.proofs.LiveLemmas.{fault-served}
use Rattle.mal_cli.specs.Live.{HasTold}
use Rattle.mal_cli.proofs.serving.serve_feed.Goals as goal

pub returns-in-Fault-clause-served : goal.returns-in-Fault-clause-served
returns-in-Fault-clause-served g c =
    let got = g.L.Sink.got in
    let faults = g.L.Sink.faults in
    let logged = c.serve.new.log in
    let log = c.tell_fault.new.log in
    fault-served c.args.workers c.in-Fault.line c.in-Fault.fault
    (device g.S.Source.left g.S.Source.faults c.args.source.now c.serve.new.source)
    (device g.K.Sink.got g.K.Sink.faults c.args.out.now c.serve.new.out)
    (got c.args.log.now) (got logged) (got log) (faults c.args.log.now) (faults log) c.tell_fault.result
    c.in-Fault.ensures.served
    (subst (λ (n : ℕ). HasTold c.in-Fault.line c.in-Fault.fault (record { bytes = got logged; bytes_now = got log; faults = n; faults_now = faults log }) c.tell_fault.result)
    (c.in-Fault.ensures.log_calm refl) c.tell_fault.ensures.told)
