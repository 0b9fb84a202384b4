-- A line of a proof, derived from the clauses held by unit propagation along its hints.
use Rattle.std.specs.Prelude.{ℕ, Bool, not, ◌==◌, List, [], ◌∷◌, map, filter, Option, Some, None, if◌then◌else◌}
use Rattle.std.specs.List.{list_any}
use Rattle.mal_base.specs.Literals.{negated}

-- the clauses held: under an id nothing, or a clause, which is none where it is a tautology
abbrev pub Holding : Type 0
Holding = ℕ → Option (Option (List ℕ))

-- a literal is true where it is one of the true literals, and false where its negation is
abbrev pub is_true : List ℕ → ℕ → Bool
is_true trues lit = list_any (λ l. l == lit) trues

abbrev pub is_false : List ℕ → ℕ → Bool
is_false trues lit = is_true trues (negated lit)

-- the literals of a clause that are not false
abbrev pub left_of : List ℕ → List ℕ → List ℕ
left_of trues lits = filter (λ l. not (is_false trues l)) lits

-- what a hint does: its id is not held, it changes nothing, it makes a literal true, it is false, or two of its
-- literals are left
pub data Effect : Type 0 where
  Missing : Effect
  Passes : Effect
  Makes : (lit : ℕ) → Effect
  Conflicts : Effect
  LeavesMore : Effect

-- by the literals left of a clause without a true literal
abbrev pub effect_of_left : List ℕ → Effect
effect_of_left [] = Conflicts
effect_of_left (l ∷ []) = Makes l
effect_of_left (l ∷ m ∷ ls) = LeavesMore

abbrev pub effect_of_lits : List ℕ → List ℕ → Effect
effect_of_lits trues lits = if list_any (is_true trues) lits then Passes else effect_of_left (left_of trues lits)

-- a tautology or a clause with a true literal changes nothing
abbrev pub effect_of : List ℕ → Option (Option (List ℕ)) → Effect
effect_of trues None = Missing
effect_of trues (Some None) = Passes
effect_of trues (Some (Some lits)) = effect_of_lits trues lits

-- the true literals after a hint
abbrev pub trues_after : Effect → List ℕ → List ℕ
trues_after Missing trues = trues
trues_after Passes trues = trues
trues_after (Makes l) trues = l ∷ trues
trues_after Conflicts trues = trues
trues_after LeavesMore trues = trues

-- how the propagation along hints ends: the line is derived, a hint is not held, a hint has two literals left or more,
-- or the hints end first
pub data Derivation : Type 0 where
  Derived : Derivation
  Unknown : (id : ℕ) → Derivation
  NotUnit : (id : ℕ) → Derivation
  Unfinished : Derivation

-- after a hint: the end, or how it ends with the hints after
abbrev pub ends_or : Effect → ℕ → Derivation → Derivation
ends_or Missing id rest = Unknown id
ends_or Passes id rest = rest
ends_or (Makes l) id rest = rest
ends_or Conflicts id rest = Derived
ends_or LeavesMore id rest = NotUnit id

-- the propagation along hints, from the literals that are true so far
abbrev pub propagation : Holding → List ℕ → List ℕ → Derivation
propagation held trues [] = Unfinished
propagation held trues (id ∷ hints) = let effect = effect_of trues (held id) in ends_or effect id (propagation held (trues_after effect trues) hints)

-- the literals of the new clause are false at first; a tautology is derived at once
abbrev pub derivation : Holding → Option (List ℕ) → List ℕ → Derivation
derivation held None hints = Derived
derivation held (Some lits) hints = propagation held (map negated lits) hints
