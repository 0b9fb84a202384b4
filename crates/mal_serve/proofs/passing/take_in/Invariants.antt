use Rattle.std.proofs.Common.{◌≡◌, [], List, IsSomeAnd}
use Rattle.std.specs.List.{All}
use Rattle.std.specs.Vec.Iter.{into_iter_items}
use Rattle.mal_serve.specs.Passing.{AreSeated}
use Rattle.mal_serve.specs.Said.{said_of}
use Rattle.mal_service.specs.Record.{events_of}
use Rattle.spec_live.specs.Live.{IsFront}
use Rattle.mal_serve.proofs.SeatLemmas.{AreLeft}
use Rattle.mal_turn.specs.Many.{join_all}
use Rattle.mal_turn.specs.Tokens.{IsOf, view}
use Rattle.mal_turn.specs.declared.view.Numbers.{Numbers}
use Rattle.mal_serve.proofs.passing.take_in.Given as goal

abbrev pub invariant-loop-seat : goal.invariant-loop-seat
invariant-loop-seat g l = record {
  of : IsOf l.service.turn l.pass;
  rest : All (λ s. IsSomeAnd s.pass (λ p. IsOf l.service.turn p × (said_of (view p) ≡ []))) (into_iter_items l.seat-iterator);
  numbers : (ns : List Numbers) → AreSeated (λ n p. (view p).of ≡ n) l.fn.seats.items ns → AreLeft (λ n p. (view p).of ≡ n) (into_iter_items l.seat-iterator) (view l.pass).of (join_all (view l.fn.pass).of ns);
  said : said_of (view l.pass) ≡ said_of (view l.fn.pass);
  front : IsFront (events_of (view l.fn.pass).seen) (events_of (view l.pass).seen);
}
