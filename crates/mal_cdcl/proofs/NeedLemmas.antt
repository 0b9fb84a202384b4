use Rattle.std.proofs.Common.{◌≡◌, ℕ, zero, suc, ◌+◌, ◌<◌, ◌≤◌, List, [], ◌∷◌, length, drop, get_or, refl, ap, ◌∙◌, arith, Bor}
use Rattle.std.specs.Prelude.{max}
use Rattle.mal_base.specs.NumberedClause.{NumberedClause}
use Rattle.mal_revision.specs.Posted.{Posted}
use Rattle.spec_node.specs.State.{Node}
use Rattle.spec_node.specs.Load.{loaded}
use Rattle.mal_cdcl.specs.Within.{NodeWithRoom}
use Rattle.mal_cdcl.specs.Ready.{posted, readied, AreNew, greatest, most_assumptions, HasRoomFor, IsSpared}

-- the loads that are left from a place on begin with the one that stands there
pub posted-drop : (loads : List (Bor Posted × ℕ)) (i : ℕ) (x d : Bor Posted × ℕ) → i < length loads → x ≡ get_or loads i d → posted (drop i loads) ≡ (x.0.now, x.1) ∷ posted (drop (i + 1) loads)
posted-drop [] i x d l e = absurd (omega arith)
posted-drop (y ∷ ys) zero x d l e = rw e refl
posted-drop (y ∷ ys) (suc i) x d l e =
    let more : suc i + 1 ≡ suc (i + 1) = omega arith in
    rw more (posted-drop ys i x d (omega arith) e)

greatest-least : (ls : List (Posted × ℕ)) (v : ℕ) → v ≤ greatest ls v
greatest-least [] v = omega arith
greatest-least (l ∷ ls) v = omega (arith, greatest-least ls (max v l.0.variables))

most-least : (ls : List (Posted × ℕ)) (a : ℕ) → a ≤ most_assumptions ls a
most-least [] a = omega arith
most-least (l ∷ ls) a = omega (arith, most-least ls (max a (length l.0.assumptions)))

most-more : (ls : List (Posted × ℕ)) (a b : ℕ) → a ≤ b → most_assumptions ls a ≤ most_assumptions ls b
most-more [] a b h = h
most-more (l ∷ ls) a b h = most-more ls (max a (length l.0.assumptions)) (max b (length l.0.assumptions)) (omega arith)

-- room for loads is room for the first
pub room-head : (steps : ℕ) (l : Posted × ℕ) (ls : List (Posted × ℕ)) (exported : List (List NumberedClause)) (n : NodeWithRoom) → HasRoomFor steps (l ∷ ls) exported n → HasRoomFor 0 (l ∷ []) [] n
room-head steps l ls exported n h =
    let g = greatest-least ls (max n.state.variables l.0.variables) in
    record {
      trail = omega (arith, g, h.trail);
      order = omega (arith, g, h.order);
      phases = omega (arith, g, h.phases);
      assumptions = omega (arith, most-least ls (max 0 (length l.0.assumptions)), h.assumptions);
      variables = omega (arith, g, h.variables);
      clauses = omega (arith, h.clauses);
      literals = omega (arith, g, h.literals);
      none = h.none;
      lines = omega arith;
      line_literals = omega (arith, g, h.line_literals);
      hints = omega (arith, g, h.hints);
    }

-- what is left to do of some loads: the node is ready after it, its numbers are new, and there is room for it, in a
-- scratch of this bound too
pub record IsReadying (steps : ℕ) (left all : List (Posted × ℕ)) (exported : List (List NumberedClause)) (start : Node) (bound : ℕ) (now : NodeWithRoom) : Type 0 where
  pub done : readied left now.state ≡ readied all start
  pub new : AreNew left now.state
  pub room : HasRoomFor steps left exported now
  pub fitted : greatest left now.state.variables < bound

pub readying-next : (steps : ℕ) (l : Posted × ℕ) (ls all : List (Posted × ℕ)) (exported : List (List NumberedClause)) (start : Node) (bound : ℕ) (now next : NodeWithRoom) → IsReadying steps (l ∷ ls) all exported start bound now → next.state ≡ loaded l.0 l.1 now.state → IsSpared l.0 now next → IsReadying steps ls all exported start bound next
readying-next steps l ls all exported start bound now next h is s =
    let v : next.state.variables ≡ max now.state.variables l.0.variables = ap (λ (n : Node). n.variables) is in
    record {
      done = rw is h.done;
      new = rw is h.new.1;
      room = record {
        trail = rw v (omega (arith, h.room.trail, s.trail));
        order = rw v (omega (arith, h.room.order, s.order));
        phases = rw v (omega (arith, h.room.phases, s.phases));
        assumptions = omega (arith, most-more ls 0 (max 0 (length l.0.assumptions)) (omega arith), h.room.assumptions, s.assumptions);
        variables = rw v (omega (arith, h.room.variables, s.variables));
        clauses = omega (arith, h.room.clauses, s.clauses);
        literals = rw v (omega (arith, h.room.literals, s.literals));
        none = s.derived ∙ h.room.none;
        lines = omega (arith, h.room.lines, s.lines);
        line_literals = rw v (omega (arith, h.room.line_literals, s.line_literals));
        hints = rw v (omega (arith, h.room.hints, s.hints));
      };
      fitted = rw v h.fitted;
    }

-- after the last load nothing is left
pub posted-end : (loads : List (Bor Posted × ℕ)) (i : ℕ) → length loads ≤ i → posted (drop i loads) ≡ []
posted-end [] zero l = refl
posted-end [] (suc i) l = refl
posted-end (x ∷ xs) zero l = absurd (omega arith)
posted-end (x ∷ xs) (suc i) l = posted-end xs i (omega arith)
