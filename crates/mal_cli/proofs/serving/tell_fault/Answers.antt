use Rattle.std.proofs.Common.{◌∙◌}
use Rattle.mal_answer.specs.Devices.{device}
use Rattle.mal_cli.proofs.LiveLemmas.{told-line}
use Rattle.mal_cli.proofs.serving.tell_fault.Goals as goal

pub returns-in-Some-clause-told : goal.returns-in-Some-clause-told
returns-in-Some-clause-told g c =
    told-line c.args.line c.args.fault (device g.L.Sink.got g.L.Sink.faults c.args.log.now c.complain.new.log) c.as_slice.result.now
    (c.as_slice.ensures.value ∙ c.in-Some.ensures) c.complain.ensures.prefix c.complain.ensures.whole
