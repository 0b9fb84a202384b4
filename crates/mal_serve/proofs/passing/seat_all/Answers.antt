use Rattle.std.proofs.Common.{◌≡◌, ◌≤◌, ◌<◌, ℕ, List, [], ◌∷◌, ◌++◌, IsSomeAnd, Some, ◌+◌, arith, sym, ◌∙◌, ap, subst}
use Rattle.std.specs.List.{All}
use Rattle.std.proofs.lemmas.List.Elements.{All-push}
use Rattle.mal_serve.specs.Passing.{AreSeated}
use Rattle.mal_serve.specs.Said.{said_of}
use Rattle.mal_service.specs.Record.{Entry}
use Rattle.mal_parts.specs.declared.parts.Seat.{Seat}
use Rattle.mal_service.specs.declared.noted.NotedHall.{NotedHall}
use Rattle.mal_serve.proofs.PassLemmas.{children-more, split-more}
use Rattle.mal_serve.proofs.SaidLemmas.{new_said, split_said}
use Rattle.mal_serve.proofs.SeatLemmas.{seated-push}
use Rattle.mal_turn.specs.Many.{children, split_times}
use Rattle.mal_turn.specs.Rule.{child, splitting}
use Rattle.mal_turn.specs.Tokens.{IsOf, view}
use Rattle.mal_turn.specs.declared.table.TokenOf.{TokenOf}
use Rattle.mal_turn.specs.declared.view.Numbers.{Numbers}
use Rattle.mal_serve.proofs.passing.seat_all.Goals as goal

pub loop-before-preserved : goal.loop-before-preserved
loop-before-preserved g c =
    let Token : Type 0 = TokenOf (NotedHall g.row.Z.Denot g.Z.Size) Entry in
    let was = c.loop-before.invariant in
    let new = c.split-mine.ensures in
    let before : ℕ = c.loop-before.before in
    let low : before < c.args.workers = c.loop-before-test.true in
    let first : Numbers = (view c.args.pass).of in
    let seats : List (Seat Token) = c.loop-before.seats.items in
    let seat : Seat Token = record { worker = before + 1; pass = Some c.split-mine.result.1 } in
    let grown : c.push.new.self.items ≡ seats ++ seat ∷ [] = c.in_ok-push.ensures.items in
    let IsAtWork : Seat Token → Type 0 = λ s. IsSomeAnd s.pass (IsOf c.args.service.now.turn) × (1 ≤ s.worker) × (s.worker ≤ c.args.workers) in
    let IsNew : Numbers → Token → Type 0 = λ n p. ((view p).of ≡ n) × (said_of (view p) ≡ []) in
    let born : (view c.split-mine.result.1).of ≡ child (split_times before first) = new.new ∙ ap child was.numbers in
    record {
      of = new.turn.0;
      numbers = new.old ∙ (ap splitting was.numbers ∙ sym (split-more before first));
      said = split_said (view c.loop-before.pass) (view c.split-mine.result.0) new.seen.0 new.old ∙ was.said;
      seats = subst (All IsAtWork) (sym grown) (All-push IsAtWork seats seat was.seats (new.turn.1, omega arith, omega (arith, low)));
      seated = subst (λ (ss : List (Seat Token)). AreSeated IsNew ss (children (before + 1) first)) (sym grown)
          (subst (AreSeated IsNew (seats ++ seat ∷ [])) (sym (children-more before first))
          (seated-push IsNew seats (children before first) seat (child (split_times before first)) was.seated (born, new_said (view c.split-mine.result.1) new.none)));
    }
