use Rattle.std.proofs.Common.{◌≡◌, ℕ, zero, suc, ◌+◌, ◌*◌, ◌<◌, ◌≤◌, List, [], ◌∷◌, length, replicate, sum, sum_by, refl, arith}
use Rattle.std.proofs.lemmas.List.{length-replicate}
use Rattle.std.proofs.lemmas.List.Sums.{sum_by-cons}
use Rattle.std.proofs.lemmas.List.Folds.{sum_by-replicate}
use Rattle.mal_base.specs.Asks.{Terms}
use Rattle.spec_balance.specs.Fair.{demand_at, volume_at, IsFair}

pub zero_at : (n i : ℕ) → volume_at (replicate n 0) i ≡ 0
zero_at zero zero = refl
zero_at zero (suc i) = refl
zero_at (suc n) zero = refl
zero_at (suc n) (suc i) = zero_at n i

-- nothing for no jobs
pub none-fair : IsFair 1 [] []
none-fair = record {
  same_length = refl;
  some = λ i h w. absurd (omega arith);
  wanted = λ i h w. absurd (omega arith);
  others = λ i h. empty_at i;
  total = refl;
  even = λ i j h w. absurd (omega arith);
}
  where
    empty_at : (i : ℕ) → volume_at [] i ≡ 0
    empty_at zero = refl
    empty_at (suc i) = refl

behind : (n i : ℕ) → 1 ≤ i → volume_at (1 ∷ replicate n 0) i ≡ 0
behind n zero h = absurd (omega arith)
behind n (suc i) h = zero_at n i

-- one worker for the first job
first-some : (n i : ℕ) → i < 1 → 1 ≤ volume_at (1 ∷ replicate n 0) i
first-some n zero h = omega arith
first-some n (suc i) h = absurd (omega arith)

first-wanted : (ask : Terms) (rest : List Terms) (n i : ℕ) → 1 ≤ ask.demand → i < 1 → volume_at (1 ∷ replicate n 0) i ≤ demand_at (ask ∷ rest) i
first-wanted ask rest n zero some h = some
first-wanted ask rest n (suc i) some h = absurd (omega arith)

first-single : (n i : ℕ) → i < 1 → volume_at (1 ∷ replicate n 0) i ≤ 1
first-single n zero h = omega arith
first-single n (suc i) h = absurd (omega arith)

pub first-fair : (ask : Terms) (rest : List Terms) → 1 ≤ ask.demand → IsFair 1 (ask ∷ rest) (1 ∷ replicate (length rest) 0)
first-fair ask rest some =
    let long : length (replicate (length rest) 0) ≡ length rest = length-replicate {A = ℕ} (length rest) 0 in
    let ones : sum (1 ∷ replicate (length rest) 0) ≡ 1 + sum (replicate (length rest) 0) = sum_by-cons (λ (n : ℕ). n) 1 (replicate (length rest) 0) in
    let zeros : sum (replicate (length rest) 0) ≡ length rest * 0 = sum_by-replicate (λ (n : ℕ). n) (length rest) 0 in
    let all : sum_by (λ (a : Terms). a.demand) (ask ∷ rest) ≡ ask.demand + sum_by (λ (a : Terms). a.demand) rest = sum_by-cons (λ (a : Terms). a.demand) ask rest in
    record {
      same_length = omega (arith, long);
      some = λ i h w. first-some (length rest) i w;
      wanted = λ i h w. first-wanted ask rest (length rest) i some w;
      others = λ i h. behind (length rest) i h;
      total = omega arith;
      even = λ i j h w hj wj low high. let one = first-single (length rest) j wj in absurd (omega (arith, one, high));
    }
