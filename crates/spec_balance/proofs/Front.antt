use Rattle.std.proofs.Common.{◌≡◌, ℕ, suc, ◌+◌, ◌-◌, ◌*◌, ◌<◌, ◌≤◌, ◌⊎◌, inl, inr, min, List, [], ◌∷◌, length, take, drop, get_or, sum, sum_by, All, refl, sym, ◌∙◌, ap, arith}
use Rattle.std.proofs.lemmas.List.{length-take, length-take-le, take_all, get_or-take, get_or-drop, get_or_past}
use Rattle.std.proofs.lemmas.List.Elements.{All-head, All-tail, All-take}
use Rattle.std.proofs.lemmas.List.Sums.{sum_by-cons, sum_by-take-drop, sum_by-take-le}
use Rattle.mal_base.specs.Asks.{Terms}
use Rattle.spec_balance.specs.Fair.{no_ask, priority_at, demand_at, volume_at, HasNoBetterClaim, IsFair, AsksForSome}
use Rattle.spec_balance.proofs.Unique.{compare, unique}

-- a list of nothing but zeros has the sum 0
zeros : (xs : List ℕ) → ((i : ℕ) → get_or xs i 0 ≡ 0) → sum xs ≡ 0
zeros [] none = refl
zeros (x ∷ xs) none =
    let here : x ≡ 0 = none 0 in
    let rest : sum xs ≡ 0 = zeros xs (λ i. none (suc i)) in
    let both : sum (x ∷ xs) ≡ x + sum xs = sum_by-cons (λ (n : ℕ). n) x xs in
    omega arith

-- jobs that each ask for a worker ask together for as many as they are
some_each : (asks : List Terms) → All AsksForSome asks → length asks ≤ sum_by (λ (a : Terms). a.demand) asks
some_each [] some = omega arith
some_each (a ∷ asks) some =
    let here : 1 ≤ a.demand = All-head AsksForSome a asks some in
    let rest : length asks ≤ sum_by (λ (b : Terms). b.demand) asks = some_each asks (All-tail AsksForSome a asks some) in
    let both : sum_by (λ (b : Terms). b.demand) (a ∷ asks) ≡ a.demand + sum_by (λ (b : Terms). b.demand) asks = sum_by-cons (λ (b : Terms). b.demand) a asks in
    omega arith

-- the first jobs, as many as there are workers, ask for as many of them as all do
wanted-front : (workers : ℕ) (asks : List Terms) → All AsksForSome asks → (length asks ≤ workers) ⊎ (workers ≤ length asks) → min workers (sum_by (λ (a : Terms). a.demand) (take workers asks)) ≡ min workers (sum_by (λ (a : Terms). a.demand) asks)
wanted-front workers asks some (inl few) = rw (take_all workers asks few) refl
wanted-front workers asks some (inr many) =
    let front : length (take workers asks) ≤ sum_by (λ (a : Terms). a.demand) (take workers asks) = some_each (take workers asks) (All-take AsksForSome workers asks some) in
    let long : length (take workers asks) ≡ workers = length-take-le workers asks many in
    let more : sum_by (λ (a : Terms). a.demand) (take workers asks) ≤ sum_by (λ (a : Terms). a.demand) asks = sum_by-take-le (λ (a : Terms). a.demand) asks workers in
    omega arith

order : (m n : ℕ) → (m ≤ n) ⊎ (n ≤ m)
order m n = by_less (compare m n)
  where
    by_less : (m < n) ⊎ (n ≤ m) → (m ≤ n) ⊎ (n ≤ m)
    by_less (inl h) = inl (omega arith)
    by_less (inr h) = inr h

-- what stands among the first stands there in the whole list
demand-front : (workers : ℕ) (asks : List Terms) (i : ℕ) → i < workers → demand_at (take workers asks) i ≡ demand_at asks i
demand-front workers asks i w = ap (λ (a : Terms). a.demand) (get_or-take workers asks i no_ask w)

priority-front : (workers : ℕ) (asks : List Terms) (i : ℕ) → i < workers → priority_at (take workers asks) i ≡ priority_at asks i
priority-front workers asks i w = ap (λ (a : Terms). a.priority) (get_or-take workers asks i no_ask w)

volume-front : (workers : ℕ) (vs : List ℕ) (i : ℕ) → i < workers → volume_at (take workers vs) i ≡ volume_at vs i
volume-front workers vs i w = get_or-take workers vs i 0 w

-- a claim over two priorities and two volumes
abbrev Claim : (p q u v i j : ℕ) → Type 0
Claim p q u v i j = (p * (v - 1) < q * u) ⊎ ((q * u ≡ p * (v - 1)) × (j ≤ i))

claim-same : (p q u v a b c d i j : ℕ) → a ≡ p → b ≡ q → c ≡ u → d ≡ v → Claim p q u v i j → Claim a b c d i j
claim-same p q u v a b c d i j e f g h claim = rw (e, f, g, h) claim

claim-front : (workers : ℕ) (asks : List Terms) (vs : List ℕ) (i j : ℕ) → i < workers → j < workers → HasNoBetterClaim asks vs i j → HasNoBetterClaim (take workers asks) (take workers vs) i j
claim-front workers asks vs i j iw jw claim =
    claim-same _ _ _ _ _ _ _ _ i j (priority-front workers asks i iw) (priority-front workers asks j jw) (volume-front workers vs i iw) (volume-front workers vs j jw) claim

-- the volumes of the first jobs, as many as there are workers, are fair for these jobs alone
front-fair : (workers : ℕ) (asks : List Terms) (vs : List ℕ) → All AsksForSome asks → IsFair workers asks vs → IsFair workers (take workers asks) (take workers vs)
front-fair workers asks vs some f =
    let asked : length (take workers asks) ≡ min workers (length asks) = length-take workers asks in
    let given : length (take workers vs) ≡ min workers (length vs) = length-take workers vs in
    let same : length vs ≡ length asks = f.same_length in
    let rest : sum (drop workers vs) ≡ 0 = zeros (drop workers vs) (λ i. get_or-drop workers vs i 0 ∙ f.others (workers + i) (omega arith)) in
    let cut : sum (take workers vs) + sum (drop workers vs) ≡ sum vs = sum_by-take-drop (λ (n : ℕ). n) vs workers in
    let all : sum vs ≡ min workers (sum_by (λ (a : Terms). a.demand) asks) = f.total in
    let front = wanted-front workers asks some (order (length asks) workers) in
    record {
      same_length = omega arith;
      some = λ i h w. omega (arith, volume-front workers vs i w, f.some i (omega arith) w);
      wanted = λ i h w. omega (arith, volume-front workers vs i w, demand-front workers asks i w, f.wanted i (omega arith) w);
      others = λ i h. get_or_past (take workers vs) i 0 (omega arith);
      total = rw front (omega arith);
      even = λ i j ia iw ja jw low high. claim-front workers asks vs i j iw jw
          (f.even i j (omega arith) iw (omega arith) jw (omega (arith, low, volume-front workers vs i iw, demand-front workers asks i iw)) (omega (arith, high, volume-front workers vs j jw)));
    }

-- where the asks of the first jobs, as many as there are workers, are the same, each place has the same volume
pub keeps : (workers : ℕ) (asks others : List Terms) (us vs : List ℕ) → All AsksForSome asks → All AsksForSome others → take workers asks ≡ take workers others → IsFair workers asks us → IsFair workers others vs → (i : ℕ) → volume_at us i ≡ volume_at vs i
keeps workers asks others us vs some some_others same f g i =
    let a : IsFair workers (take workers asks) (take workers us) = front-fair workers asks us some f in
    let b : IsFair workers (take workers others) (take workers vs) = front-fair workers others vs some_others g in
    let e : take workers us ≡ take workers vs = unique workers (take workers asks) (take workers us) (take workers vs) a (rw same b) in
    by_place (compare i workers) e
  where
    by_place : (i < workers) ⊎ (workers ≤ i) → take workers us ≡ take workers vs → volume_at us i ≡ volume_at vs i
    by_place (inl w) e = sym (get_or-take workers us i 0 w) ∙ (ap (λ (xs : List ℕ). get_or xs i 0) e ∙ get_or-take workers vs i 0 w)
    by_place (inr h) e = f.others i h ∙ sym (g.others i h)
