use Rattle.std.proofs.Common.{◌≡◌, List, [], ◌∷◌, IsSomeAnd, ◌∙◌, ap, subst}
use Rattle.std.specs.List.{All}
use Rattle.std.specs.Vec.Iter.{into_iter_items}
use Rattle.std.proofs.lemmas.List.Elements.{All-head, All-tail}
use Rattle.mal_serve.specs.Said.{said_of}
use Rattle.mal_service.specs.Record.{Entry}
use Rattle.mal_parts.specs.declared.parts.Seat.{Seat}
use Rattle.mal_service.specs.declared.noted.NotedHall.{NotedHall}
use Rattle.mal_serve.proofs.SeatLemmas.{AreLeft, begun-front, join-says, left-next}
use Rattle.spec_live.proofs.TextLemmas.{front-more}
use Rattle.mal_turn.specs.Many.{join_all}
use Rattle.mal_turn.specs.Rule.{joined}
use Rattle.mal_turn.specs.Tokens.{IsOf, view}
use Rattle.mal_turn.specs.declared.table.TokenOf.{TokenOf}
use Rattle.mal_turn.specs.declared.view.Numbers.{Numbers}
use Rattle.mal_serve.proofs.passing.take_in.Goals as goal

pub loop-seat-preserved : goal.loop-seat-preserved
loop-seat-preserved g c =
    let Token : Type 0 = TokenOf (NotedHall g.row.Z.Denot g.Z.Size) Entry in
    let was = c.loop-seat.invariant in
    let new = c.join-pass.ensures in
    let seat : Seat Token = c.in-Some.seat in
    let other : Token = c.in-Some-pass.other in
    let rest : List (Seat Token) = into_iter_items c.next.new.self in
    let more = c.in-Some.ensures.steps.0 in
    let IsSilent : Token → Type 0 = λ p. IsOf c.args.service.now.turn p × (said_of (view p) ≡ []) in
    let HasSilent : Seat Token → Type 0 = λ s. IsSomeAnd s.pass IsSilent in
    let HasNumbers : Numbers → Token → Type 0 = λ n p. (view p).of ≡ n in
    let left : All HasSilent (seat ∷ rest) = subst (All HasSilent) more was.rest in
    let mine : IsSomeAnd seat.pass IsSilent = All-head HasSilent seat rest left in
    let numbers = rw c.in-Some-pass.other-is at new.numbers in
    let both = rw c.in-Some-pass.other-is at new.other in
    let silent : IsSilent other = subst (λ o. IsSomeAnd o IsSilent) c.in-Some-pass.is mine in
    record {
      of = new.turn;
      rest = All-tail HasSilent seat rest left;
      numbers = λ ns are.
          left-next HasNumbers seat rest (view c.loop-seat.pass).of (join_all (view c.args.pass).of ns) (view c.join-pass.result).of other
          (subst (λ (ss : List (Seat Token)). AreLeft HasNumbers ss (view c.loop-seat.pass).of (join_all (view c.args.pass).of ns)) more (was.numbers ns are))
          c.in-Some-pass.is
          (λ n has. numbers ∙ ap (joined (view c.loop-seat.pass).of) has);
      said = join-says (view c.loop-seat.pass) (view other) (view c.join-pass.result) numbers new.one both silent.1 ∙ was.said;
      front = front-more _ _ _ was.front (begun-front (view c.join-pass.result).seen (view c.loop-seat.pass).seen (view c.loop-seat.pass).of.all new.one);
    }
