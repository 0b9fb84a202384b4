use Rattle.std.proofs.Common.{◌≡◌, ◌≢◌, ℕ, zero, suc, ◌+◌, ◌<◌, ◌≤◌, Bool, true, false, not, ◌||◌, ◌&&◌, eqb, nat_le, List, [], ◌∷◌, ◌++◌, length, get_or, set, replicate, refl, sym, ◌∙◌, arith}
use Rattle.std.specs.List.{list_any}
use Rattle.std.proofs.lemmas.Bool.{false≢true, eq-eqb, eqb-true, lt-leb}
use Rattle.std.proofs.lemmas.List.{get_or-set_same, get_or-set_other, length-set}
use Rattle.std.proofs.lemmas.List.Folds.{list_any-append}
use Rattle.mal_freeze.specs.Imaged.{is_new}
use Rattle.mal_freeze.proofs.ListLemmas.{by_false}

-- the marks are those of these numbers
pub record Marked (greatest : ℕ) (marks : List Bool) (before : List ℕ) : Type 0 where
  pub places : length marks ≡ greatest + 1
  pub marked : (w : ℕ) → w ≤ greatest → get_or marks w false ≡ list_any (eqb w) before

unmarked : (n w : ℕ) → get_or (replicate n false) w false ≡ false
unmarked zero w = refl
unmarked (suc n) zero = refl
unmarked (suc n) (suc w) = unmarked n w

length_replicate : (n : ℕ) → length (replicate n false) ≡ n
length_replicate zero = refl
length_replicate (suc n) = omega (arith, length_replicate n)

or_none : (a b : Bool) → b ≡ false → a ≡ (a || (b || false))
or_none true b h = refl
or_none false b h = rw h refl

or_some : (a b : Bool) → b ≡ true → (a || (b || false)) ≡ true
or_some true b h = refl
or_some false b h = rw h refl

-- one number more is marked
pub marked-next : (greatest v : ℕ) (marks : List Bool) (before : List ℕ) → v ≤ greatest → Marked greatest marks before → Marked greatest (set marks v true) (before ++ v ∷ [])
marked-next greatest v marks before l m =
    record { places = length-set marks v true ∙ m.places; marked = λ w k. by_place w k (eqb w v) refl }
  where
    by_place : (w : ℕ) → w ≤ greatest → (b : Bool) → eqb w v ≡ b → get_or (set marks v true) w false ≡ list_any (eqb w) (before ++ v ∷ [])
    by_place w k true t =
        let same : w ≡ v = eqb-true w v t in
        let room : v < length marks = omega (arith, m.places) in
        rw (list_any-append (eqb w) before (v ∷ []), or_some (list_any (eqb w) before) (eqb w v) t, same) (get_or-set_same marks v true false room)
    by_place w k false t =
        let other : w ≢ v = (λ e. false≢true (sym t ∙ eq-eqb w v e)) in
        rw (list_any-append (eqb w) before (v ∷ []), ← or_none (list_any (eqb w) before) (eqb w v) t, get_or-set_other marks v w true false other) (m.marked w k)

-- nor is one above the greatest
pub beyond : (greatest v : ℕ) (before : List ℕ) → greatest < v → is_new greatest before v ≡ false
beyond greatest v before h = by_false (nat_le 1 v && nat_le v greatest) (not (list_any (eqb v) before)) (last_false (nat_le 1 v) (nat_le v greatest) (lt-leb v greatest h))
  where
    last_false : (a b : Bool) → b ≡ false → (a && b) ≡ false
    last_false true b k = k
    last_false false b k = refl
