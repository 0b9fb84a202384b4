use Rattle.mal_turn.specs.Tokens.{view, held_view}
use Rattle.mal_hall.specs.Offered.{replied}
use Rattle.mal_service.specs.Record.{Asked}
use Rattle.mal_service.proofs.RecordLemmas.{noted-stands}
use Rattle.mal_service.specs.Entries.{noted_in}
use Rattle.mal_service.proofs.NotedLemmas.{entered}
use Rattle.mal_service.proofs.service.Service.look.Goals as goal

pub put-requires-clause-value : goal.put-requires-clause-value
put-requires-clause-value g c =
    let held = c.take-held.result in
    let after = c.look-looked.new.self in
    noted-stands g.S.Size.workers held.value.some held.value.bound held.value.hall.events after.hall.events (Asked c.args.key c.args.r (replied c.look-looked.result.reply)) (noted_in after.noted)
    (held_view held).seen (held_view held).of.first c.take-held.ensures.value c.look-looked.ensures.call

pub returns-clause-entry : goal.returns-clause-entry
returns-clause-entry g c =
    let held = c.take-held.result in
    let after = c.look-looked.new.self in
    entered g.S.Size.workers held.value.some held.value.bound (view c.args.pass) (held_view held) (view c.put.result) held.value.hall.events after.hall.events (Asked c.args.key c.args.r (replied c.look-looked.result.reply)) (noted_in after.noted)
    c.take-held.ensures.first c.take-held.ensures.seen c.take-held.ensures.numbers c.take-held.ensures.value c.look-looked.ensures.call c.put.ensures.seen c.put.ensures.numbers
