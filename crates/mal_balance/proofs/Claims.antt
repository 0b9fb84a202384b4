use Rattle.std.proofs.Common.{◌≡◌, ℕ, zero, suc, ◌+◌, ◌*◌, ◌<◌, ◌≤◌, ◌⊎◌, inl, inr, List, refl, arith}
use Rattle.std.proofs.Math.Nat.{mul-lt-mul_of_pos_right, lt_of_mul-lt-mul_right}
use Rattle.mal_base.specs.Asks.{Terms}
use Rattle.spec_balance.specs.Fair.{priority_at, demand_at, volume_at}
use Rattle.mal_balance.specs.Greedy.{IsClosed, Precedes, IsNext}

-- a comparison by cross products goes through a third job that has some worker
swap : (x y z : ℕ) → x * y * z ≡ x * z * y
swap x y z = grind arith

mul-right-le : (a b k : ℕ) → a ≤ b → a * k ≤ b * k
mul-right-le a b k h = grind (arith)

pub crossing : (pi vi pb vb pk vk : ℕ) → 1 ≤ vi → pi * vb ≤ pb * vi → pb * vk < pk * vb → pi * vk < pk * vi
crossing pi vi pb vb pk vk some le lt =
    let a : pi * vb * vk ≤ pb * vi * vk = mul-right-le _ _ vk le in
    let b : pb * vk * vi < pk * vb * vi = mul-lt-mul_of_pos_right lt some in
    let c = swap pi vb vk in
    let d = swap pb vi vk in
    let e = swap pk vb vi in
    lt_of_mul-lt-mul_right vb (omega (arith, a, b, c, d, e))

last : (i k : ℕ) → i < k + 1 → (i < k) ⊎ (i ≡ k)
last zero zero h = inr (omega arith)
last zero (suc k) h = inl (omega arith)
last (suc i) zero h = absurd (omega arith)
last (suc i) (suc k) h = lift (last i k (omega arith))
  where
    lift : (i < k) ⊎ (i ≡ k) → (suc i < suc k) ⊎ (suc i ≡ suc k)
    lift (inl a) = inl (omega arith)
    lift (inr a) = inr (omega arith)

precedes-le : (asks : List Terms) (vs : List ℕ) (b i : ℕ) → Precedes asks vs b i → priority_at asks i * volume_at vs b ≤ priority_at asks b * volume_at vs i
precedes-le asks vs b i (inl h) = omega arith
precedes-le asks vs b i (inr e) = omega arith

-- a job that has its demand changes nothing
closed-more : (asks : List Terms) (vs : List ℕ) (k i : ℕ) → IsClosed asks vs k → demand_at asks k ≤ volume_at vs k → (i < k) ⊎ (i ≡ k) → demand_at asks i ≤ volume_at vs i
closed-more asks vs k i all has (inl h) = all i h
closed-more asks vs k i all has (inr e) = rw e has

-- a job with a better claim takes the place
new-more : (asks : List Terms) (vs : List ℕ) (k b i : ℕ) → IsNext asks vs k b → ((j : ℕ) → j ≤ k → 1 ≤ volume_at vs j) → priority_at asks b * volume_at vs k < priority_at asks k * volume_at vs b → volume_at vs i < demand_at asks i → (i < k) ⊎ (i ≡ k) → Precedes asks vs k i
new-more asks vs k b i n some claim low (inl h) =
    inl (crossing (priority_at asks i) (volume_at vs i) (priority_at asks b) (volume_at vs b) (priority_at asks k) (volume_at vs k) (some i (omega arith)) (precedes-le asks vs b i (n.before i h low)) claim)
new-more asks vs k b i n some claim low (inr e) = inr (rw e (refl, omega arith))

pub best-new : (asks : List Terms) (vs : List ℕ) (k b : ℕ) → IsNext asks vs k b → ((j : ℕ) → j ≤ k → 1 ≤ volume_at vs j) → priority_at asks b * volume_at vs k < priority_at asks k * volume_at vs b → volume_at vs k < demand_at asks k → IsNext asks vs (k + 1) k
best-new asks vs k b n some claim low = record {
  here = omega arith;
  open_still = low;
  before = λ i h low'. new-more asks vs k b i n some claim low' (last i k h);
}

-- a job with no better claim does not
tie : (asks : List Terms) (vs : List ℕ) (k b : ℕ) → b < k → (x y : ℕ) → priority_at asks k * volume_at vs b ≡ x → priority_at asks b * volume_at vs k ≡ y → (x < y) ⊎ (x ≡ y) → Precedes asks vs b k
tie asks vs k b low x y p q (inl h) = inl (omega arith)
tie asks vs k b low x y p q (inr e) = inr (omega arith, omega arith)
