use Rattle.std.proofs.Common.{◌≡◌, ℕ, zero, suc, ◌+◌, ◌-◌, ◌*◌, ◌<◌, ◌≤◌, ◌⊎◌, inl, inr, min, List, [], ◌∷◌, length, get_or, sum, sum_by, refl, sym, ◌∙◌, arith}
use Rattle.std.proofs.lemmas.List.Sums.{sum_by-cons}
use Rattle.std.proofs.Math.Nat.{mul-le-mul_left}
use Rattle.mal_base.specs.Asks.{Terms}
use Rattle.spec_balance.specs.Fair.{priority_at, demand_at, volume_at, HasNoBetterClaim, IsFair}

sum-cons : (x : ℕ) (xs : List ℕ) → sum (x ∷ xs) ≡ x + sum xs
sum-cons x xs = sum_by-cons (λ (n : ℕ). n) x xs

-- some place has less in the first list
pub record Less (us vs : List ℕ) : Type 0 where
  pub at : ℕ
  pub within : at < length us
  pub less : get_or us at 0 < get_or vs at 0

-- no place has less in the first list, so its sum is no less, and the lists are equal where the sums are
pub record NoLess (us vs : List ℕ) : Type 0 where
  pub sums : sum vs ≤ sum us
  pub same : sum us ≤ sum vs → us ≡ vs

less-later : (u v : ℕ) (us vs : List ℕ) → Less us vs → Less (u ∷ us) (v ∷ vs)
less-later u v us vs l = record { at = suc l.at; within = omega arith; less = l.less }

no_less-more : (u v : ℕ) (us vs : List ℕ) → v ≤ u → NoLess us vs → NoLess (u ∷ us) (v ∷ vs)
no_less-more u v us vs low n =
    let a : sum (u ∷ us) ≡ u + sum us = sum-cons u us in
    let b : sum (v ∷ vs) ≡ v + sum vs = sum-cons v vs in
    let sums : sum vs ≤ sum us = n.sums in
    record {
      sums = omega arith;
      same = λ h.
          let rest : us ≡ vs = n.same (omega arith) in
          let e : u ≡ v = omega arith in
          rw (e, rest) refl;
    }

by_head : (u v : ℕ) (us vs : List ℕ) → (u < v) ⊎ (v ≤ u) → Less us vs ⊎ NoLess us vs → Less (u ∷ us) (v ∷ vs) ⊎ NoLess (u ∷ us) (v ∷ vs)
by_head u v us vs (inl low) rest = inl (record { at = zero; within = omega arith; less = low })
by_head u v us vs (inr high) (inl l) = inl (less-later u v us vs l)
by_head u v us vs (inr high) (inr n) = inr (no_less-more u v us vs high n)

pub compare : (u v : ℕ) → (u < v) ⊎ (v ≤ u)
compare zero zero = inr (omega arith)
compare zero (suc v) = inl (omega arith)
compare (suc u) zero = inr (omega arith)
compare (suc u) (suc v) = lift u v (compare u v)
  where
    lift : (u v : ℕ) → (u < v) ⊎ (v ≤ u) → (suc u < suc v) ⊎ (suc v ≤ suc u)
    lift u v (inl h) = inl (omega arith)
    lift u v (inr h) = inr (omega arith)

pub no_less : (us vs : List ℕ) → length us ≡ length vs → Less us vs ⊎ NoLess us vs
no_less [] [] e = inr (record { sums = omega arith; same = λ _. refl })
no_less [] (v ∷ vs) e = absurd (omega arith)
no_less (u ∷ us) [] e = absurd (omega arith)
no_less (u ∷ us) (v ∷ vs) e = let rest : length us ≡ length vs = omega arith in by_head u v us vs (compare u v) (no_less us vs rest)

-- a claim that is no better, as a bound
claim-le : (asks : List Terms) (vs : List ℕ) (i j : ℕ) → HasNoBetterClaim asks vs i j → priority_at asks i * (volume_at vs j - 1) ≤ priority_at asks j * volume_at vs i
claim-le asks vs i j (inl h) = omega arith
claim-le asks vs i j (inr e) = omega arith

-- and where it is no smaller it is a tie, which the earlier job wins
claim-tie : (asks : List Terms) (vs : List ℕ) (i j : ℕ) → HasNoBetterClaim asks vs i j → priority_at asks j * volume_at vs i ≤ priority_at asks i * (volume_at vs j - 1) → j ≤ i
claim-tie asks vs i j (inl h) le = absurd (omega arith)
claim-tie asks vs i j (inr e) le = e.1

-- two jobs of which each has less in one of two fair lists
crossed : (workers : ℕ) (asks : List Terms) (us vs : List ℕ) (i j : ℕ) → IsFair workers asks us → IsFair workers asks vs → i < length asks → i < workers → j < length asks → j < workers → volume_at us i < volume_at vs i → volume_at vs j < volume_at us j → ⊥
crossed workers asks us vs i j f g iin iw jin jw low high =
    let vi : volume_at vs i ≤ demand_at asks i = g.wanted i iin iw in
    let uj : volume_at us j ≤ demand_at asks j = f.wanted j jin jw in
    let ui : 1 ≤ volume_at us i = f.some i iin iw in
    let vj : 1 ≤ volume_at vs j = g.some j jin jw in
    let one = f.even i j iin iw jin jw (omega arith) (omega arith) in
    let two = g.even j i jin jw iin iw (omega arith) (omega arith) in
    let a : volume_at vs j ≤ volume_at us j - 1 = omega arith in
    let b : volume_at us i ≤ volume_at vs i - 1 = omega arith in
    let pa = mul-le-mul_left (priority_at asks i) a in
    let pb = mul-le-mul_left (priority_at asks j) b in
    let c1 = claim-le asks us i j one in
    let c2 = claim-le asks vs j i two in
    let t1 : j ≤ i = claim-tie asks us i j one (omega (arith, pa, pb, c1, c2)) in
    let t2 : i ≤ j = claim-tie asks vs j i two (omega (arith, pa, pb, c1, c2)) in
    let same : i ≡ j = omega arith in
    clash us vs i j same low high
  where
    clash : (us vs : List ℕ) (i j : ℕ) → i ≡ j → volume_at us i < volume_at vs i → volume_at vs j < volume_at us j → ⊥
    clash us vs i j same low high = let back : volume_at vs i < volume_at us i = rw same high in omega arith

-- a place with less is one of a job that a worker goes to
served : (workers : ℕ) (asks : List Terms) (us vs : List ℕ) (i : ℕ) → IsFair workers asks vs → volume_at us i < volume_at vs i → (i < workers) ⊎ (workers ≤ i) → i < workers
served workers asks us vs i g low (inl h) = h
served workers asks us vs i g low (inr h) = let none : volume_at vs i ≡ 0 = g.others i h in absurd (omega arith)

from_less : (workers : ℕ) (asks : List Terms) (us vs : List ℕ) → IsFair workers asks us → IsFair workers asks vs → Less us vs → Less vs us ⊎ NoLess vs us → us ≡ vs
from_less workers asks us vs f g l (inl m) =
    let iw : l.at < workers = served workers asks us vs l.at g l.less (compare l.at workers) in
    let jw : m.at < workers = served workers asks vs us m.at f m.less (compare m.at workers) in
    let n : length us ≡ length asks = f.same_length in
    let k : length vs ≡ length asks = g.same_length in
    absurd (crossed workers asks us vs l.at m.at f g (omega (arith, l.within)) iw (omega (arith, m.within)) jw l.less m.less)
from_less workers asks us vs f g l (inr m) =
    let a : sum us ≡ min workers (sum_by (λ (x : Terms). x.demand) asks) = f.total in
    let b : sum vs ≡ min workers (sum_by (λ (x : Terms). x.demand) asks) = g.total in
    let e : sum us ≡ sum vs = a ∙ sym b in
    sym (m.same (omega arith))

by_first : (workers : ℕ) (asks : List Terms) (us vs : List ℕ) → IsFair workers asks us → IsFair workers asks vs → Less us vs ⊎ NoLess us vs → us ≡ vs
by_first workers asks us vs f g (inr n) =
    let a : sum us ≡ min workers (sum_by (λ (x : Terms). x.demand) asks) = f.total in
    let b : sum vs ≡ min workers (sum_by (λ (x : Terms). x.demand) asks) = g.total in
    let e : sum us ≡ sum vs = a ∙ sym b in
    n.same (omega arith)
by_first workers asks us vs f g (inl l) =
    from_less workers asks us vs f g l (no_less vs us (g.same_length ∙ sym f.same_length))

-- no two lists are fair for the same asks
pub unique : (workers : ℕ) (asks : List Terms) (us vs : List ℕ) → IsFair workers asks us → IsFair workers asks vs → us ≡ vs
unique workers asks us vs f g = by_first workers asks us vs f g (no_less us vs (f.same_length ∙ sym g.same_length))
