use Rattle.std.proofs.Common.{◌≡◌, ℕ, Bool, true, List, [], ◌∷◌, ◌++◌, Option, Some, None, refl}
use Rattle.std.specs.Prelude.{All}
use Rattle.std.specs.Option.{option_and_then}
use Rattle.std.proofs.lemmas.List.Elements.{All-push, All-head, All-tail}
use Rattle.std.proofs.lemmas.Bool.{and_from}
use Rattle.spec_logic.specs.Logic.{Entails, satisfies, satisfies_clause}
use Rattle.spec_logic.specs.Derivation.{derivation}
use Rattle.spec_logic.specs.Derivation.Derivation.{Derived}
use Rattle.spec_logic.specs.Laws.{IsEntailed}
use Rattle.spec_logic.proofs.DerivationLemmas.{derived-entailed}
use Rattle.spec_logic.proofs.RefutationLemmas.{satisfied-at}
use Rattle.mal_check.specs.declared.held.Place.{Place}
use Rattle.mal_check.specs.declared.held.Place.TheVariants.{Original, Added}
use Rattle.mal_check.specs.Places.{clause_at, place_in}
use Rattle.mal_check.specs.Checked.{Checked, held, IsSound}

all-satisfied : (a : List Bool) (originals added : List (Option (List ℕ))) → All (Entails originals) added → satisfies a originals ≡ true → satisfies a added ≡ true
all-satisfied a originals [] h s = refl
all-satisfied a originals (c ∷ cs) h s = and_from (satisfies_clause a c) (satisfies a cs) (All-head (Entails originals) c cs h a s) (all-satisfied a originals cs (All-tail (Entails originals) c cs h) s)

-- each clause held is entailed by the originals
pub held-entailed : (c : Checked) → IsSound c → IsEntailed c.originals (held c)
held-entailed c h id clause e a s = by_place (place_in c.ids id) e
  where
    by_place : (o : Option Place) → option_and_then (clause_at c.originals c.added) o ≡ Some clause → satisfies_clause a clause ≡ true
    by_place None k = absurd (cc)
    by_place (Some (Original n)) k = satisfied-at a c.originals n clause s k
    by_place (Some (Added n)) k = satisfied-at a c.added n clause (all-satisfied a c.originals c.added h s) k

-- so is a derived clause, beside those added before
pub derived-sound : (c : Checked) (clause : Option (List ℕ)) (hints : List ℕ) → IsSound c → derivation (held c) clause hints ≡ Derived → All (Entails c.originals) (c.added ++ clause ∷ [])
derived-sound c clause hints h e = All-push (Entails c.originals) c.added clause h (derived-entailed c.originals (held c) clause hints (held-entailed c h) e)
