-- What was posted with passes that are split and joined, and the passes in seats.
use Rattle.std.proofs.Common.{◌≡◌, ℕ, suc, List, [], ◌∷◌, ◌++◌, IsSomeAnd, length, take, drop, Option, Some, None, refl, sym, ap, ◌∙◌, subst}
use Rattle.std.specs.List.{All}
use Rattle.std.proofs.lemmas.List.Elements.{All-cons, All-nil}
use Rattle.mal_service.proofs.RecordLemmas.{events-append}
use Rattle.mal_turn.specs.declared.view.View.{View}
use Rattle.mal_turn.specs.declared.view.Numbers.{Numbers}
use Rattle.mal_turn.specs.Rule.{Begins, IsWhole, child, joined, opening, splitting}
use Rattle.mal_turn.specs.Many.{children, join_all, split_times}
use Rattle.mal_serve.specs.Said.{said_by, said_of}
use Rattle.mal_service.specs.Record.{Entry, Record, events_of}
use Rattle.spec_live.specs.Live.{IsFront}
use Rattle.mal_serve.specs.Passing.{AreSeated}
use Rattle.mal_parts.specs.Parts.{AreBack, IsBack}
use Rattle.mal_parts.specs.declared.parts.Seat.{Seat}
use Rattle.mal_serve.proofs.PassLemmas.{all-whole, joined-says}

-- a pass that took in one with which nothing was posted
pub join-says : (v w after : View Entry) → after.of ≡ joined v.of w.of → Begins after.seen v.of.all v.seen → Begins after.seen w.of.all w.seen → said_of w ≡ [] → said_of after ≡ said_of v
join-says v w after of one other none = joined-says (λ e. said_by e.1.call) v w after of one other none

-- what was seen is a front of what was seen later
pub begun-front : (after seen : Record) (ns : List (List ℕ)) → Begins after ns seen → IsFront (events_of seen) (events_of after)
begun-front after seen ns b = (events_of b.0, ap events_of b.1 ∙ events-append seen b.0)

-- one seat more
pub seated-push : {P : Type 0} (holds : Numbers → P → Type 0) (ss : List (Seat P)) (ns : List Numbers) (s : Seat P) (n : Numbers)
    → AreSeated holds ss ns → IsSomeAnd s.pass (holds n) → AreSeated holds (ss ++ s ∷ []) (ns ++ n ∷ [])
seated-push holds [] [] s n are one = (one, tt)
seated-push holds [] (m ∷ ns) s n are one = absurd are
seated-push holds (t ∷ ss) [] s n are one = absurd are
seated-push holds (t ∷ ss) (m ∷ ns) s n are one = (are.0, seated-push holds ss ns s n are.1 one)

-- passes in seats that are left to be taken in: the numbers that come of all
pub record AreLeft {P : Type 0} (holds : Numbers → P → Type 0) (left : List (Seat P)) (now all : Numbers) : Type 0 where
  pub numbers : List Numbers
  pub are : AreSeated holds left numbers
  pub joins : all ≡ join_all now numbers

pub left-next : {P : Type 0} (holds : Numbers → P → Type 0) (s : Seat P) (ss : List (Seat P)) (now all next : Numbers) (p : P)
    → AreLeft holds (s ∷ ss) now all → s.pass ≡ Some p → ((n : Numbers) → holds n p → next ≡ joined now n) → AreLeft holds ss next all
left-next {P = P} holds s ss now all next p left there joins = by_numbers left.numbers left.are left.joins
  where
    by_numbers : (ns : List Numbers) → AreSeated holds (s ∷ ss) ns → all ≡ join_all now ns → AreLeft holds ss next all
    by_numbers [] are is = absurd are
    by_numbers (n ∷ ns) are is =
        let mine : IsSomeAnd (Some p) (holds n) = subst (λ (o : Option P). IsSomeAnd o (holds n)) there are.0 in
        record { numbers = ns; are = are.1; joins = is ∙ ap (λ (m : Numbers). join_all m ns) (sym (joins n mine)) }

module _ {P X : Type 0} (of : P → Type 0) (numbers : P → Numbers) (said : P → List X) where
  -- a pass that came back with nothing posted
  one-back : (n : Numbers) (o u : Option P) → IsSomeAnd o (λ p. (numbers p ≡ n) × (said p ≡ [])) → IsBack of numbers (λ p q. said q ≡ said p) o u
      → IsSomeAnd u (λ q. of q × (said q ≡ [])) × IsSomeAnd u (λ q. numbers q ≡ n)
  one-back n None u had back = absurd had
  one-back n (Some p) None had back = absurd back
  one-back n (Some p) (Some q) had back = ((back.0, back.2 ∙ had.1), back.1 ∙ had.0)

  -- passes in seats came back with nothing posted
  pub seats-back : (before after : List (Seat P)) (ns : List Numbers) → AreSeated (λ n p. (numbers p ≡ n) × (said p ≡ [])) before ns → AreBack of numbers (λ p q. said q ≡ said p) before after
      → All (λ s. IsSomeAnd s.pass (λ q. of q × (said q ≡ []))) after × AreSeated (λ n q. numbers q ≡ n) after ns
  seats-back [] [] [] had back = (All-nil (λ (s : Seat P). IsSomeAnd s.pass (λ q. of q × (said q ≡ []))), tt)
  seats-back [] [] (n ∷ ns) had back = absurd had
  seats-back [] (t ∷ ts) ns had back = absurd back
  seats-back (s ∷ ss) [] ns had back = absurd back
  seats-back (s ∷ ss) (t ∷ ts) [] had back = absurd had
  seats-back (s ∷ ss) (t ∷ ts) (n ∷ ns) had back =
      let one = one-back n s.pass t.pass had.0 back.1 in
      let rest = seats-back ss ts ns had.1 back.2 in
      (All-cons (λ (x : Seat P). IsSomeAnd x.pass (λ q. of q × (said q ≡ []))) t ts one.0 rest.0, (one.1, rest.1))

  back-whole : (before after : List (Seat P)) → AreBack of numbers (λ p q. said q ≡ said p) before after → take (length before) (after ++ drop (length after) before) ≡ after
  back-whole [] [] back = refl
  back-whole [] (t ∷ ts) back = absurd back
  back-whole (s ∷ ss) [] back = absurd back
  back-whole (s ∷ ss) (t ∷ ts) back = ap (λ (xs : List (Seat P)). t ∷ xs) (back-whole ss ts back.2)

  -- the same of the seats in a vector, of which a slice was given
  pub given-back : (len : ℕ) (before given after : List (Seat P)) (ns : List Numbers) → len ≡ length before → given ≡ before
      → AreSeated (λ n p. (numbers p ≡ n) × (said p ≡ [])) before ns → AreBack of numbers (λ p q. said q ≡ said p) given after
      → All (λ s. IsSomeAnd s.pass (λ q. of q × (said q ≡ []))) (take len (after ++ drop (length after) before)) × AreSeated (λ n q. numbers q ≡ n) (take len (after ++ drop (length after) before)) ns
  given-back len before given after ns size is had back =
      let came : AreBack of numbers (λ p q. said q ≡ said p) before after = subst (λ (ss : List (Seat P)). AreBack of numbers (λ p q. said q ≡ said p) ss after) is back in
      let same : take len (after ++ drop (length after) before) ≡ after = ap (λ (n : ℕ). take n (after ++ drop (length after) before)) size ∙ back-whole before after came in
      subst (λ (ss : List (Seat P)). All (λ s. IsSomeAnd s.pass (λ q. of q × (said q ≡ []))) ss × AreSeated (λ n q. numbers q ≡ n) ss ns) (sym same) (seats-back before after ns had came)

-- a pass that was split into one for a writer and so many others, and that took them all in, is whole
pub parts-whole : (w : ℕ) (n first reader writer both last : Numbers) → n ≡ opening → first ≡ splitting n → reader ≡ split_times w first → writer ≡ child n
    → both ≡ joined reader writer → last ≡ join_all both (children w first) → IsWhole last
parts-whole w n first reader writer both last is a b d e f =
    let start : first ≡ splitting opening = a ∙ ap splitting is in
    let all : last ≡ join_all (split_times (suc w) opening) (children (suc w) opening) =
    f ∙ (ap (λ (m : Numbers). join_all m (children w first)) (e ∙ (ap (λ (m : Numbers). joined m writer) b ∙ ap (joined (split_times w first)) (d ∙ ap child is)))
    ∙ ap (λ (m : Numbers). join_all (joined (split_times w m) (child opening)) (children w m)) start) in
    subst IsWhole (sym all) (all-whole (suc w))
