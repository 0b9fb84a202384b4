use Rattle.std.proofs.Common.{◌≡◌, ◌≤◌, [], IsSomeAnd}
use Rattle.std.specs.List.{All}
use Rattle.mal_serve.specs.Passing.{AreSeated}
use Rattle.mal_serve.specs.Said.{said_of}
use Rattle.mal_turn.specs.Many.{children, split_times}
use Rattle.mal_turn.specs.Tokens.{IsOf, view}
use Rattle.mal_serve.proofs.passing.seat_all.Given as goal

abbrev pub invariant-loop-before : goal.invariant-loop-before
invariant-loop-before g l = record {
  of : IsOf l.service.turn l.pass;
  numbers : (view l.pass).of ≡ split_times l.before (view l.fn.pass).of;
  said : said_of (view l.pass) ≡ said_of (view l.fn.pass);
  seats : All (λ s. IsSomeAnd s.pass (IsOf l.service.turn) × (1 ≤ s.worker) × (s.worker ≤ l.workers)) l.seats.items;
  seated : AreSeated (λ n p. ((view p).of ≡ n) × (said_of (view p) ≡ [])) l.seats.items (children l.before (view l.fn.pass).of);
}
