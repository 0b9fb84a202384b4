-- Lines with numbers up to a goal's are all that can be reached from it.
use Rattle.std.proofs.Common.{◌≡◌, ◌≢◌, ℕ, ◌<◌, Bool, true, false, cond, List, [], ◌∷◌, ◌==◌, nat_le, refl, sym, ◌∙◌, ap, inl, inr, arith}
use Rattle.std.specs.Prelude.{filter}
use Rattle.std.proofs.lemmas.Bool.{ne_eqb, leb-false}
use Rattle.mal_base.specs.NumberedClause.{Line}
use Rattle.spec_proof.specs.Log.{IsAbove, AreApart, IsOrderly}
use Rattle.spec_proof.specs.Trimmed.{by_id, AreRising, IsTrimmed, with_needed, reached_in, reached}
use Rattle.spec_proof.specs.Among.{Among}
use Rattle.spec_proof.proofs.Among.{of-all, all-from_among}
use Rattle.spec_proof.proofs.OrderLemmas.{rising-same, sorted-trimmed}
use Rattle.spec_proof.proofs.Reaching.{sorted-among, among-sorted, sorted-rising}
use Rattle.mal_proof.specs.Goals.{up_to}

-- the lines that pass a test
module _ (p : Line → Bool) where
  passing : (xs : List Line) (y : Line) → Among y (filter p xs) → Among y xs × (p y ≡ true)
  passing [] y h = absurd h
  passing (x ∷ xs) y h = by_test (p x) refl (λ k. passing xs y k) h
    where
      by_test : (b : Bool) → p x ≡ b → (Among y (filter p xs) → Among y xs × (p y ≡ true)) → Among y (cond b (x ∷ filter p xs) (filter p xs)) → Among y (x ∷ xs) × (p y ≡ true)
      by_test true q rest (inl e) = (inl e, ap p (sym e) ∙ q)
      by_test true q rest (inr k) = (inr (rest k).0, (rest k).1)
      by_test false q rest k = (inr (rest k).0, (rest k).1)

  passed : (xs : List Line) (y : Line) → Among y xs → p y ≡ true → Among y (filter p xs)
  passed [] y h q = absurd h
  passed (x ∷ xs) y (inl e) q = let here : p x ≡ true = ap p e ∙ q in rw here (inl e)
  passed (x ∷ xs) y (inr h) q = by_test (p x) (passed xs y h q)
    where
      by_test : (b : Bool) → Among y (filter p xs) → Among y (cond b (x ∷ filter p xs) (filter p xs))
      by_test true k = inr k
      by_test false k = k

  rising-passing : (xs : List Line) → AreRising xs → AreRising (filter p xs)
  rising-passing [] up = tt
  rising-passing (x ∷ xs) up = by_test (p x) (rising-passing xs up.1)
    where
      by_test : (b : Bool) → AreRising (filter p xs) → AreRising (cond b (x ∷ filter p xs) (filter p xs))
      by_test true rest = (all-from_among (λ later. x.id < later.id) (filter p xs) (λ y h. of-all (λ later. x.id < later.id) xs y up.0 (passing xs y h).0), rest)
      by_test false rest = rest

  pub apart-passing : (xs : List Line) → AreApart xs → AreApart (filter p xs)
  apart-passing [] apart = tt
  apart-passing (x ∷ xs) apart = by_test (p x) (apart-passing xs apart.1)
    where
      by_test : (b : Bool) → AreApart (filter p xs) → AreApart (cond b (x ∷ filter p xs) (filter p xs))
      by_test true rest = (all-from_among (λ other. other.id ≢ x.id) (filter p xs) (λ y h. of-all (λ other. other.id ≢ x.id) xs y apart.0 (passing xs y h).0), rest)
      by_test false rest = rest

  pub sorted-passing : (xs : List Line) → AreApart xs → by_id (filter p xs) ≡ filter p (by_id xs)
  sorted-passing xs apart =
      rising-same (by_id (filter p xs)) (filter p (by_id xs)) (sorted-rising (filter p xs) (apart-passing xs apart)) (rising-passing (by_id xs) (sorted-rising xs apart))
      (λ z h. let k = passing xs z (among-sorted (filter p xs) z h) in passed (by_id xs) z (sorted-among xs z k.0) k.1)
      (λ z h. let k = passing (by_id xs) z h in sorted-among (filter p xs) z (passed xs z (among-sorted xs z k.0) k.1))

-- no line is reached where none has the goal's number
pub reached-nothing : (goal : ℕ) (xs : List Line) → ((y : Line) → Among y xs → y.id ≢ goal) → reached_in goal xs ≡ []
reached-nothing goal [] others = refl
reached-nothing goal (x ∷ xs) others =
    let rest : reached_in goal xs ≡ [] = reached-nothing goal xs (λ y h. others y (inr h)) in
    let not-goal : (goal == x.id) ≡ false = ne_eqb goal x.id (λ e. others x (inl refl) (sym e)) in
    rw rest (rw not-goal refl)

-- of lines by rising number those above the goal's are not reached
bounded : (goal : ℕ) (xs : List Line) → AreRising xs → reached_in goal (up_to goal xs) ≡ reached_in goal xs
bounded goal [] up = refl
bounded goal (x ∷ xs) up = by_test (nat_le x.id goal) refl (bounded goal xs up.1)
  where
    by_test : (b : Bool) → nat_le x.id goal ≡ b → reached_in goal (up_to goal xs) ≡ reached_in goal xs → reached_in goal (cond b (x ∷ up_to goal xs) (up_to goal xs)) ≡ reached_in goal (x ∷ xs)
    by_test true q rest = ap (with_needed goal x) rest
    by_test false q rest =
        let over : goal < x.id = leb-false x.id goal q in
        let later : reached_in goal xs ≡ [] = reached-nothing goal xs (λ y h e. let up-y : x.id < y.id = of-all (λ later. x.id < later.id) xs y up.0 h in omega arith) in
        let all : reached_in goal (x ∷ xs) ≡ [] = reached-nothing goal (x ∷ xs) (above over) in
        rest ∙ (later ∙ sym all)
      where
        above : goal < x.id → (y : Line) → Among y (x ∷ xs) → y.id ≢ goal
        above over y (inl e) g = let same : x.id ≡ y.id = ap (λ (l : Line). l.id) e in omega arith
        above over y (inr h) g = let up-y : x.id < y.id = of-all (λ later. x.id < later.id) xs y up.0 h in omega arith

pub reached-bounded : (goal : ℕ) (lines : List Line) → AreApart lines → reached_in goal (by_id (up_to goal lines)) ≡ reached goal lines
reached-bounded goal lines apart = ap (reached_in goal) (sorted-passing (λ l. nat_le l.id goal) lines apart) ∙ bounded goal (by_id lines) (sorted-rising lines apart)

-- lines up to a goal, sorted, are in the form in which they are trimmed
pub bounded-trimmed : (goal : ℕ) (lines : List Line) → IsOrderly lines → IsTrimmed (by_id (up_to goal lines))
bounded-trimmed goal lines is = sorted-trimmed (up_to goal lines) (record {
  apart = apart-passing (λ l. nat_le l.id goal) lines is.apart;
  above = all-from_among IsAbove (up_to goal lines) (λ y h. of-all IsAbove lines y is.above (passing (λ l. nat_le l.id goal) lines y h).0);
})
