-- Passes that are split and joined: what was posted with each, and their numbers.
use Rattle.std.proofs.Common.{◌≡◌, ℕ, zero, suc, ◌+◌, Bool, true, false, ◌||◌, cond, List, [], ◌∷◌, ◌++◌, flat_map, refl, ap, ◌∙◌, append-nil, add-one}
use Rattle.std.proofs.lemmas.List.Sorted.{IsPermutation-refl}
use Rattle.mal_turn.specs.declared.view.View.{View}
use Rattle.mal_turn.specs.declared.view.Numbers.{Numbers}
use Rattle.mal_turn.specs.Numbers.{among, part, same}
use Rattle.mal_turn.specs.Rule.{Begins, IsWhole, Log, child, joined, opening, splitting}
use Rattle.mal_turn.specs.Many.{children, join_all, split_times}
use Rattle.mal_turn.proofs.Wholes.{many_whole}

-- a number among two lists is among one of them
among-both : (x : List ℕ) (ns ms : List (List ℕ)) → among x (ns ++ ms) ≡ (among x ns || among x ms)
among-both x [] ms = refl
among-both x (n ∷ ns) ms = by_test (same x n) (among-both x ns ms)
  where
    by_test : (b : Bool) → among x (ns ++ ms) ≡ (among x ns || among x ms) → (b || among x (ns ++ ms)) ≡ ((b || among x ns) || among x ms)
    by_test true e = refl
    by_test false e = e

empty-front : {A : Type 0} (xs ys : List A) → xs ++ ys ≡ [] → xs ≡ []
empty-front [] ys e = refl
empty-front (x ∷ xs) ys e = absurd cc

empty-back : {A : Type 0} (xs ys : List A) → xs ++ ys ≡ [] → ys ≡ []
empty-back [] ys e = e
empty-back (x ∷ xs) ys e = absurd cc

module _ {E A : Type 0} (f : List ℕ × E → List A) where
  -- what entries of these numbers say
  abbrev said : List (List ℕ) → Log E → List A
  said ns log = flat_map f (part ns log)

  more-step : (ns ms : List (List ℕ)) (e : List ℕ × E) (log : Log E) (a b : Bool)
      → flat_map f (cond b (e ∷ part ms log) (part ms log)) ≡ [] → (said ms log ≡ [] → said (ns ++ ms) log ≡ said ns log)
      → flat_map f (cond (a || b) (e ∷ part (ns ++ ms) log) (part (ns ++ ms) log)) ≡ flat_map f (cond a (e ∷ part ns log) (part ns log))
  more-step ns ms e log true true none rest = ap (λ (xs : List A). f e ++ xs) (rest (empty-back (f e) (said ms log) none))
  more-step ns ms e log true false none rest = ap (λ (xs : List A). f e ++ xs) (rest none)
  more-step ns ms e log false true none rest =
      ap (λ (xs : List A). xs ++ said (ns ++ ms) log) (empty-front (f e) (said ms log) none) ∙ rest (empty-back (f e) (said ms log) none)
  more-step ns ms e log false false none rest = rest none

  -- entries of more numbers say the same, where those of the other numbers say nothing
  pub more-say : (ns ms : List (List ℕ)) (log : Log E) → said ms log ≡ [] → said (ns ++ ms) log ≡ said ns log
  more-say ns ms [] none = refl
  more-say ns ms (e ∷ log) none =
      ap (λ (b : Bool). flat_map f (cond b (e ∷ part (ns ++ ms) log) (part (ns ++ ms) log))) (among-both e.0 ns ms)
      ∙ more-step ns ms e log (among e.0 ns) (among e.0 ms) none (more-say ns ms log)

  part-both : (ns : List (List ℕ)) (xs ys : Log E) → part ns (xs ++ ys) ≡ part ns xs ++ part ns ys
  part-both ns [] ys = refl
  part-both ns (e ∷ es) ys = by_test (among e.0 ns) (part-both ns es ys)
    where
      by_test : (b : Bool) → part ns (es ++ ys) ≡ part ns es ++ part ns ys → cond b (e ∷ part ns (es ++ ys)) (part ns (es ++ ys)) ≡ cond b (e ∷ part ns es) (part ns es) ++ part ns ys
      by_test true h = ap (λ (xs : Log E). e ∷ xs) h
      by_test false h = h

  -- what goes on with entries of other numbers says the same
  pub begun-says : (log seen : Log E) (ns : List (List ℕ)) → Begins log ns seen → said ns log ≡ said ns seen
  begun-says log seen ns b =
      ap (flat_map f)
      (ap (part ns) b.1 ∙ (part-both ns seen b.0 ∙ (ap (λ (l : Log E). part ns seen ++ l) b.2 ∙ append-nil (part ns seen))))

  -- a pass that took in one with which nothing was posted says what it said
  pub joined-says : (v w after : View E) → after.of ≡ joined v.of w.of → Begins after.seen v.of.all v.seen → Begins after.seen w.of.all w.seen
      → said w.of.all w.seen ≡ [] → said after.of.all after.seen ≡ said v.of.all v.seen
  joined-says v w after of one other none =
      ap (λ (n : Numbers). said n.all after.seen) of
      ∙ (more-say v.of.all w.of.all after.seen (begun-says after.seen w.seen w.of.all other ∙ none) ∙ begun-says after.seen v.seen v.of.all one)

-- one split more
split-after : (k : ℕ) (n : Numbers) → split_times (suc k) n ≡ splitting (split_times k n)
split-after zero n = refl
split-after (suc k) n = split-after k (splitting n)

children-after : (k : ℕ) (n : Numbers) → children (suc k) n ≡ children k n ++ child (split_times k n) ∷ []
children-after zero n = refl
children-after (suc k) n = ap (λ (ms : List Numbers). child n ∷ ms) (children-after k (splitting n))

pub split-more : (k : ℕ) (n : Numbers) → split_times (k + 1) n ≡ splitting (split_times k n)
split-more k n = ap (λ (m : ℕ). split_times m n) (add-one k) ∙ split-after k n

pub children-more : (k : ℕ) (n : Numbers) → children (k + 1) n ≡ children k n ++ child (split_times k n) ∷ []
children-more k n = ap (λ (m : ℕ). children m n) (add-one k) ∙ children-after k n

-- a pass that was split so often, and that took in all new ones in their order, is whole
pub all-whole : (k : ℕ) → IsWhole (join_all (split_times k opening) (children k opening))
all-whole k = many_whole k (children k opening) (IsPermutation-refl (children k opening))
