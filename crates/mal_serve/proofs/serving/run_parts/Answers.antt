use denote.Param.Send.{sendable}
use Rattle.std.proofs.Common.{arith, ap, ◌∙◌}
use Rattle.mal_serve.proofs.HallCrossings.{live_hall-sync, pass-send}
use Rattle.mal_serve.proofs.SaidLemmas.{new_said, split_said}
use Rattle.mal_serve.proofs.SeatLemmas.{begun-front, given-back, join-says, parts-whole}
use Rattle.mal_serve.proofs.ServeLemmas.{read-all, told-longer}
use Rattle.mal_serve.specs.Said.{said_of}
use Rattle.mal_service.specs.Record.{Entry}
use Rattle.mal_turn.specs.Many.{children}
use Rattle.mal_turn.specs.Tokens.{IsOf, view}
use Rattle.mal_turn.specs.declared.view.View.{View}
use Rattle.spec_live.proofs.TextLemmas.{front-more}
use Rattle.mal_serve.proofs.serving.run_parts.Goals as goal

pub serve_parts-end-requires-send-P : goal.serve_parts-end-requires-send-P
serve_parts-end-requires-send-P g c κs within = search (pass-send, sendable) depth 20

pub serve_parts-end-requires-sync-D : goal.serve_parts-end-requires-sync-D
serve_parts-end-requires-sync-D g c κs within = search (live_hall-sync, sendable) depth 20

pub take_in-requires-clause-seats : goal.take_in-requires-clause-seats
take_in-requires-clause-seats g c =
    let seats = c.in_ok-reader.seats in
    (given-back (IsOf c.args.hall.now.service.turn) (λ p. (view p).of) (λ p. said_of (view p)) seats.len seats.items c.as_mut_slice.result.now _ (children c.args.workers (view c.split-pass.result.0).of)
    (omega arith) c.as_mut_slice.ensures.value c.in_ok-reader.ensures.seated c.serve_parts-end.ensures.seats).0

pub returns-clause-whole : goal.returns-clause-whole
returns-clause-whole g c =
    let reader = rw c.in-Some.is at c.serve_parts-end.ensures.reader in
    let writer = rw c.in-Some-writer.is at c.serve_parts-end.ensures.writer in
    let seats = c.in_ok-reader.seats in
    let back = given-back (IsOf c.args.hall.now.service.turn) (λ p. (view p).of) (λ p. said_of (view p)) seats.len seats.items c.as_mut_slice.result.now _ (children c.args.workers (view c.split-pass.result.0).of)
    (omega arith) c.as_mut_slice.ensures.value c.in_ok-reader.ensures.seated c.serve_parts-end.ensures.seats in
    parts-whole c.args.workers (view c.args.pass).of (view c.split-pass.result.0).of (view c.in-Some.reader).of (view c.in-Some-writer.writer).of (view c.join-pass.result).of (view c.take_in.result).of
    (ap (λ v. v.of) c.requires.new) c.split-pass.ensures.old (reader.1 ∙ c.in_ok-reader.ensures.numbers) (writer.1 ∙ c.split-pass.ensures.new)
    c.join-pass.ensures.numbers (c.take_in.ensures.numbers (children c.args.workers (view c.split-pass.result.0).of) back.1)

pub returns-clause-read : goal.returns-clause-read
returns-clause-read g c =
    let reader = rw c.in-Some.is at c.serve_parts-end.ensures.reader in
    let writer = rw c.in-Some-writer.is at c.serve_parts-end.ensures.writer in
    read-all _ (said_of (view c.in-Some.reader)) _ _ _ _ reader.2
    (c.in_ok-reader.ensures.said ∙ (split_said (view c.args.pass) (view c.split-pass.result.0) c.split-pass.ensures.seen.0 c.split-pass.ensures.old ∙ ap (λ (v : View Entry). said_of v) c.requires.new))
    (c.take_in.ensures.said
    ∙ join-says (view c.in-Some.reader) (view c.in-Some-writer.writer) (view c.join-pass.result) c.join-pass.ensures.numbers c.join-pass.ensures.one c.join-pass.ensures.other
    (writer.2.0 ∙ new_said (view c.split-pass.result.1) c.split-pass.ensures.none))

pub returns-clause-told : goal.returns-clause-told
returns-clause-told g c =
    let writer = rw c.in-Some-writer.is at c.serve_parts-end.ensures.writer in
    told-longer _ _ _ _ _ _ _ _ writer.2.1
    (front-more _ _ _ (begun-front (view c.join-pass.result).seen (view c.in-Some-writer.writer).seen (view c.in-Some-writer.writer).of.all c.join-pass.ensures.other) c.take_in.ensures.front)
