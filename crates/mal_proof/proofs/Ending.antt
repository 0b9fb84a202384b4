-- The goal's line ends what is trimmed.
use Rattle.std.proofs.Common.{◌≡◌, ◌≢◌, ℕ, ◌+◌, ◌-◌, Bool, true, false, cond, List, [], ◌∷◌, ◌++◌, ◌==◌, length, length-append, find, slice_get, Option, Some, None, refl, ◌∙◌, ap, inl, inr, arith}
use Rattle.std.specs.Option.{option_map_or}
use Rattle.std.proofs.lemmas.Bool.{eqb-true, eqb-false}
use Rattle.mal_base.specs.NumberedClause.{Line}
use Rattle.spec_proof.specs.Log.{IsOrderly}
use Rattle.spec_proof.specs.Trimmed.{by_id, reached}
use Rattle.spec_proof.specs.Among.{Among}
use Rattle.spec_proof.proofs.Among.{contains-from_among}
use Rattle.spec_proof.proofs.Reaching.{among-sorted, goal-is-last}
use Rattle.mal_proof.specs.Goals.{goal_lits, last_lits}
use Rattle.mal_proof.proofs.Bounding.{reached-nothing}

last-is : (front : List Line) (y : Line) → slice_get (front ++ y ∷ []) (length (front ++ y ∷ []) - 1) ≡ Some y
last-is front y =
    let many : length (front ++ y ∷ []) - 1 ≡ length front = let whole : length (front ++ y ∷ []) ≡ length front + 1 = length-append front (y ∷ []) in omega arith in
    ap (slice_get (front ++ y ∷ [])) many ∙ behind front
  where
    behind : (xs : List Line) → slice_get (xs ++ y ∷ []) (length xs) ≡ Some y
    behind [] = refl
    behind (x ∷ xs) = behind xs

-- what is found by its number, or that there is no such line
abbrev pub Found : ℕ → List Line → Option Line → Type 0
Found goal xs None = (y : Line) → Among y xs → y.id ≢ goal
Found goal xs (Some y) = Among y xs × (y.id ≡ goal)

found-is : (goal : ℕ) (xs : List Line) → Found goal xs (find (λ l. l.id == goal) xs)
found-is goal [] = λ y h. absurd h
found-is goal (x ∷ xs) = by_test (x.id == goal) refl (find (λ l. l.id == goal) xs) (found-is goal xs)
  where
    by_test : (b : Bool) → (x.id == goal) ≡ b → (o : Option Line) → Found goal xs o → Found goal (x ∷ xs) (cond b (Some x) o)
    by_test true q o rest = (inl refl, eqb-true x.id goal q)
    by_test false q (Some y) rest = (inr rest.0, rest.1)
    by_test false q None rest = none
      where
        none : (y : Line) → Among y (x ∷ xs) → y.id ≢ goal
        none y (inl e) g = eqb-false x.id goal q (ap (λ (l : Line). l.id) e ∙ g)
        none y (inr h) g = rest y h g

pub goal-ends : (goal : ℕ) (lines : List Line) → IsOrderly lines → last_lits (reached goal lines) ≡ goal_lits goal lines
goal-ends goal lines is = by_found (find (λ l. l.id == goal) lines) (found-is goal lines)
  where
    by_found : (o : Option Line) → Found goal lines o → last_lits (reached goal lines) ≡ option_map_or (λ l. l.lits) o []
    by_found (Some y) (there, named) =
        let last = goal-is-last goal lines y is (contains-from_among lines y there) named in
        let ends : last_lits (last.0 ++ y ∷ []) ≡ y.lits = ap (λ (o : Option Line). option_map_or (λ l. l.lits) o []) (last-is last.0 y) in
        ap last_lits last.1 ∙ ends
    by_found None others =
        let nothing : reached goal lines ≡ [] = reached-nothing goal (by_id lines) (λ y h. others y (among-sorted lines y h)) in
        ap last_lits nothing
