use Rattle.std.proofs.Common.{map, string_bytes, subst}
use Rattle.std.specs.Prelude.{Option}
use Rattle.mal_answer.specs.Found.{IsMeaning}
use Rattle.mal_answer.specs.declared.words.request.Request.{Request}
use Rattle.mal_cli.proofs.LiveLemmas.{done-by, none-done}
use Rattle.mal_cli.specs.Stopping.{stops_of}
use Rattle.mal_cli.proofs.program.top.Goals as goal

pub returns-in-Ok-Some-clause-done : goal.returns-in-Ok-Some-clause-done
returns-in-Ok-Some-clause-done g c = λ r means.
    let words = map string_bytes c.args.words.now in
    let asked = subst (λ (o : Option Request). IsMeaning o words) c.in-Ok-Some.field-0-is c.in-Ok-Some.ensures.meaning in
    done-by (stops_of (g.G.Gate.stops c.args.gate.now)) words c.in-Ok-Some.request r _ _ _ c.perform.result asked means c.perform.ensures.done

pub returns-in-Ok-None-clause-done : goal.returns-in-Ok-None-clause-done
returns-in-Ok-None-clause-done g c = λ r means.
    let words = map string_bytes c.args.words.now in
    let nothing = subst (λ (o : Option Request). IsMeaning o words) c.in-Ok-None.field-0-is c.in-Ok-None.ensures.meaning in
    absurd (nothing r means)

pub returns-in-Ok-Some-clause-silent : goal.returns-in-Ok-Some-clause-silent
returns-in-Ok-Some-clause-silent g c = λ six other.
    let asked = subst (λ (o : Option Request). IsMeaning o (map string_bytes c.args.words.now)) c.in-Ok-Some.field-0-is c.in-Ok-Some.ensures.meaning in
    c.perform.ensures.silent six (other c.in-Ok-Some.request asked)

pub returns-in-Ok-Some-clause-calm : goal.returns-in-Ok-Some-clause-calm
returns-in-Ok-Some-clause-calm g c = λ four other.
    let asked = subst (λ (o : Option Request). IsMeaning o (map string_bytes c.args.words.now)) c.in-Ok-Some.field-0-is c.in-Ok-Some.ensures.meaning in
    c.perform.ensures.calm four (other c.in-Ok-Some.request asked)

pub returns-in-Err-clause-done : goal.returns-in-Err-clause-done
returns-in-Err-clause-done g c = λ r means.
    none-done (g.S.Source.left c.args.source.now) (g.L.Sink.got c.args.log.now) (g.K.Sink.got c.args.out.now)
    (g.S.Source.faults c.args.source.now) (g.L.Sink.faults c.args.log.now) (g.K.Sink.faults c.args.out.now) (stops_of (g.G.Gate.stops c.args.gate.now)) r
