use Rattle.std.proofs.Common.{[], ◌∷◌, ◌++◌}
use Rattle.mal_turn.specs.Tokens.{view, held_view}
use Rattle.mal_service.specs.Passes.{Enters, HasNoted}
use Rattle.mal_service.specs.Record.{Answered, StandsFor}
use Rattle.mal_service.proofs.RecordLemmas.{noted-stands}
use Rattle.mal_service.specs.Entries.{noted_in}
use Rattle.mal_service.proofs.NotedLemmas.{entered}
use Rattle.mal_service.proofs.PostLemmas.{post-follows, post-tells}
use Rattle.mal_service.proofs.service.Service.post.Goals as goal

pub put-requires-clause-value : goal.put-requires-clause-value
put-requires-clause-value g c =
    let held = c.take-held.result in
    let w = g.S.Size.workers in
    let past = held.value.hall.events in
    let now = c.post-answer.new.self.hall.events in
    let e = noted_in c.post-answer.new.self.noted in
    post-tells (λ (d : Answered). HasNoted w past d now e) (StandsFor w now ((held_view held).seen ++ ((held_view held).of.first, e) ∷ [])) c.args.post c.post-answer.result
    (λ d is. noted-stands w held.value.some held.value.bound past now d e (held_view held).seen (held_view held).of.first c.take-held.ensures.value is) c.post-answer.ensures

pub returns-clause-entry : goal.returns-clause-entry
returns-clause-entry g c =
    let held = c.take-held.result in
    let w = g.S.Size.workers in
    let past = held.value.hall.events in
    let now = c.post-answer.new.self.hall.events in
    let e = noted_in c.post-answer.new.self.noted in
    post-follows (λ (d : Answered). HasNoted w past d now e) (λ (d : Answered). Enters w (view c.args.pass) d (view c.put.result)) c.args.post c.post-answer.result
    (λ d is. entered w held.value.some held.value.bound (view c.args.pass) (held_view held) (view c.put.result) past now d e
    c.take-held.ensures.first c.take-held.ensures.seen c.take-held.ensures.numbers c.take-held.ensures.value is c.put.ensures.seen c.put.ensures.numbers) c.post-answer.ensures
