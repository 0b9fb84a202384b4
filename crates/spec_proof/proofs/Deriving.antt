-- Lines that stay derived where their hints are renamed and more is held.
use Rattle.std.proofs.Common.{◌≡◌, ℕ, List, [], ◌∷◌, Contains, map, Option, Some, None, refl, subst, ap}
use Rattle.mal_base.specs.Literals.{negated}
use Rattle.mal_base.proofs.Sorting.{Contains-head, Contains-later}
use Rattle.spec_logic.specs.Derivation.{Holding, Effect, Derivation, effect_of, trues_after, ends_or, propagation, derivation}
use Rattle.spec_logic.specs.Derivation.Effect.{Missing, Passes, Makes, Conflicts, LeavesMore}
use Rattle.spec_logic.specs.Derivation.Derivation.{Derived}
use Rattle.spec_proof.specs.Laws.{DerivedWithMore}

-- whatever is held under one of the hints is held under its new name
abbrev pub Follows : Holding → Holding → (ℕ → ℕ) → List ℕ → Type 0
Follows held more name hints = (h : ℕ) → Contains hints h → (c : Option (List ℕ)) → held h ≡ Some c → more (name h) ≡ Some c

by-effect : (f : Effect) (i j : ℕ) (a b : Derivation) → (a ≡ Derived → b ≡ Derived) → ends_or f i a ≡ Derived → ends_or f j b ≡ Derived
by-effect Missing i j a b k e = absurd (cc)
by-effect Passes i j a b k e = k e
by-effect (Makes l) i j a b k e = k e
by-effect Conflicts i j a b k e = refl
by-effect LeavesMore i j a b k e = absurd (cc)

pub propagation-renamed : (held more : Holding) (name : ℕ → ℕ) (hints trues : List ℕ) → Follows held more name hints → propagation held trues hints ≡ Derived → propagation more trues (map name hints) ≡ Derived
propagation-renamed held more name [] trues k e = absurd (cc)
propagation-renamed held more name (h ∷ hints) trues k e =
    by_held (held h) refl (λ t. propagation-renamed held more name hints t (λ i m c q. k i (Contains-later h hints i m) c q)) e
  where
    by_held : (o : Option (Option (List ℕ))) → held h ≡ o → ((t : List ℕ) → propagation held t hints ≡ Derived → propagation more t (map name hints) ≡ Derived)
        → ends_or (effect_of trues o) h (propagation held (trues_after (effect_of trues o) trues) hints) ≡ Derived
        → ends_or (effect_of trues (more (name h))) (name h) (propagation more (trues_after (effect_of trues (more (name h))) trues) (map name hints)) ≡ Derived
    by_held None q rest d = absurd (cc)
    by_held (Some c) q rest d =
        let there : more (name h) ≡ Some c = k h (Contains-head h hints) c q in
        rw there (by-effect (effect_of trues (Some c)) h (name h) _ _ (rest (trues_after (effect_of trues (Some c)) trues)) d)

pub derived-renamed : (held more : Holding) (name : ℕ → ℕ) (clause : Option (List ℕ)) (hints : List ℕ) → Follows held more name hints → derivation held clause hints ≡ Derived → derivation more clause (map name hints) ≡ Derived
derived-renamed held more name None hints k e = refl
derived-renamed held more name (Some lits) hints k e = propagation-renamed held more name hints (map negated lits) k e

map-same : (xs : List ℕ) → map (λ n. n) xs ≡ xs
map-same [] = refl
map-same (x ∷ xs) = ap (λ (r : List ℕ). x ∷ r) (map-same xs)

pub derived-more : DerivedWithMore
derived-more held more clause hints k e =
    subst (λ (hs : List ℕ). derivation more clause hs ≡ Derived) (map-same hints) (derived-renamed held more (λ n. n) clause hints (λ h m c q. k h c q) e)
