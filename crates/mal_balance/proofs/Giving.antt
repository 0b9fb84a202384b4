use Rattle.std.proofs.Common.{◌≡◌, ◌≢◌, ℕ, zero, suc, true, false, eqb, ◌+◌, ◌-◌, ◌*◌, ◌<◌, ◌≤◌, ◌⊎◌, inl, inr, min, List, [], ◌∷◌, length, get_or, set, sum, sum_by, sym, ◌∙◌, ap, arith, get_or-set_other}
use Rattle.std.proofs.lemmas.Grind.{get_or-set_at}
use Rattle.std.proofs.lemmas.Bool.Decides.{eqb_tells}
use Rattle.std.proofs.lemmas.List.Sums.{sum_by-cons, sum_by-set}
use Rattle.std.proofs.Math.ListN.{length-set}
use Rattle.mal_base.specs.Asks.{Terms}
use Rattle.spec_balance.specs.Fair.{no_ask, priority_at, demand_at, volume_at, HasNoBetterClaim, IsFair}
use Rattle.spec_balance.proofs.Unique.{compare}
use Rattle.mal_balance.specs.Greedy.{IsGreedy, IsClosed, Precedes, IsNext, IsStarted}

same_or : (i b : ℕ) → (i ≡ b) ⊎ (i ≢ b)
same_or i b = tells (eqb_tells i b)
  where
    tells : ((eqb i b ≡ true) × (i ≡ b)) ⊎ ((eqb i b ≡ false) × (i ≢ b)) → (i ≡ b) ⊎ (i ≢ b)
    tells (inl t) = inl t.1
    tells (inr t) = inr t.1

-- the claim of job i on a worker of job j, over their priorities and volumes
abbrev Claims : (pi pj wi wj i j : ℕ) → Type 0
Claims pi pj wi wj i j = (pi * (wj - 1) < pj * wi) ⊎ ((pj * wi ≡ pi * (wj - 1)) × (j ≤ i))

own-claim : (p v i j : ℕ) → j ≤ i → Claims p p (v + 1) (v + 1) i j
own-claim zero v i j le = inr (omega arith, le)
own-claim (suc p) v i j le = let e : v + 1 - 1 ≡ v = omega arith in rw e (inl (omega arith))

raised-claim : (pi pj vi wj i j : ℕ) → Claims pi pj vi wj i j → Claims pi pj (vi + 1) wj i j
raised-claim pi pj vi wj i j (inl h) = inl (omega arith)
raised-claim pi zero vi wj i j (inr e) = inr (omega arith, e.1)
raised-claim pi (suc pj) vi wj i j (inr e) = inl (omega arith)

taken-claim : (pi pb vi vb i b : ℕ) → (pi * vb < pb * vi) ⊎ ((pb * vi ≡ pi * vb) × (b ≤ i)) → Claims pi pb vi (vb + 1) i b
taken-claim pi pb vi vb i b h = let e : vb + 1 - 1 ≡ vb = omega arith in rw e h

-- the volumes after one worker more for job b
at_same : (vs : List ℕ) (b i : ℕ) → b < length vs → i ≡ b → volume_at (set vs b (volume_at vs b + 1)) i ≡ volume_at vs b + 1
at_same vs b i low e = get_or-set_at vs b i (volume_at vs b + 1) 0 e low

at_other : (vs : List ℕ) (b i : ℕ) → i ≢ b → volume_at (set vs b (volume_at vs b + 1)) i ≡ volume_at vs i
at_other vs b i ne = get_or-set_other vs b i (volume_at vs b + 1) 0 ne

-- what the rule asks of each pair stays true
even-more : (asks : List Terms) (first made : ℕ) (vs : List ℕ) (b i j : ℕ) → IsGreedy asks first made vs → IsNext asks vs first b → i < first → j < first → (i ≡ b) ⊎ (i ≢ b) → (j ≡ b) ⊎ (j ≢ b) → volume_at (set vs b (volume_at vs b + 1)) i < demand_at asks i → 1 < volume_at (set vs b (volume_at vs b + 1)) j → HasNoBetterClaim asks (set vs b (volume_at vs b + 1)) i j
even-more asks first made vs b i j g n il jl (inl e) (inl f) low high =
    let here : b < length vs = omega (arith, n.here, g.within, g.same_length) in
    let wi = at_same vs b i here e in
    let wj = at_same vs b j here f in
    let pi : priority_at asks i ≡ priority_at asks b = ap (λ (k : ℕ). priority_at asks k) e in
    let pj : priority_at asks j ≡ priority_at asks b = ap (λ (k : ℕ). priority_at asks k) f in
    rw (wi, wj, pi, pj) (own-claim (priority_at asks b) (volume_at vs b) i j (omega arith))
even-more asks first made vs b i j g n il jl (inl e) (inr f) low high =
    let here : b < length vs = omega (arith, n.here, g.within, g.same_length) in
    let wi = at_same vs b i here e in
    let wj = at_other vs b j f in
    let pi : priority_at asks i ≡ priority_at asks b = ap (λ (k : ℕ). priority_at asks k) e in
    let old : HasNoBetterClaim asks vs b j = g.even b j n.here jl n.open_still (rw wj at high) in
    let back : Claims (priority_at asks b) (priority_at asks j) (volume_at vs b) (volume_at vs j) i j = rw e old in
    rw (wi, wj, pi) (raised-claim (priority_at asks b) (priority_at asks j) (volume_at vs b) (volume_at vs j) i j back)
even-more asks first made vs b i j g n il jl (inr e) (inl f) low high =
    let here : b < length vs = omega (arith, n.here, g.within, g.same_length) in
    let wi = at_other vs b i e in
    let wj = at_same vs b j here f in
    let pj : priority_at asks j ≡ priority_at asks b = ap (λ (k : ℕ). priority_at asks k) f in
    let first_is : Precedes asks vs b i = n.before i il (rw wi at low) in
    let taken : Claims (priority_at asks i) (priority_at asks b) (volume_at vs i) (volume_at vs b + 1) i j = rw f (taken-claim (priority_at asks i) (priority_at asks b) (volume_at vs i) (volume_at vs b) i b first_is) in
    rw (wi, wj, pj) taken
even-more asks first made vs b i j g n il jl (inr e) (inr f) low high =
    let wi = at_other vs b i e in
    let wj = at_other vs b j f in
    rw (wi, wj) (g.even i j il jl (rw wi at low) (rw wj at high))

some-more : (asks : List Terms) (first made : ℕ) (vs : List ℕ) (b i : ℕ) → IsGreedy asks first made vs → IsNext asks vs first b → i < first → (i ≡ b) ⊎ (i ≢ b) → 1 ≤ volume_at (set vs b (volume_at vs b + 1)) i
some-more asks first made vs b i g n il (inl e) =
    let here : b < length vs = omega (arith, n.here, g.within, g.same_length) in
    rw (at_same vs b i here e) (omega arith)
some-more asks first made vs b i g n il (inr e) = rw (at_other vs b i e) (g.some i il)

wanted-more : (asks : List Terms) (first made : ℕ) (vs : List ℕ) (b i : ℕ) → IsGreedy asks first made vs → IsNext asks vs first b → i < first → (i ≡ b) ⊎ (i ≢ b) → volume_at (set vs b (volume_at vs b + 1)) i ≤ demand_at asks i
wanted-more asks first made vs b i g n il (inl e) =
    let here : b < length vs = omega (arith, n.here, g.within, g.same_length) in
    let low : volume_at vs b < demand_at asks b = n.open_still in
    let d : demand_at asks i ≡ demand_at asks b = ap (λ (k : ℕ). demand_at asks k) e in
    rw (at_same vs b i here e, d) (omega arith)
wanted-more asks first made vs b i g n il (inr e) = rw (at_other vs b i e) (g.wanted i il)

-- one worker more goes to the job that comes next
pub greedy-more : (asks : List Terms) (first made : ℕ) (vs : List ℕ) (b : ℕ) → IsGreedy asks first made vs → IsNext asks vs first b → IsGreedy asks first (made + 1) (set vs b (volume_at vs b + 1))
greedy-more asks first made vs b g n =
    let low : b < first = n.here in
    let here : b < length vs = omega (arith, n.here, g.within, g.same_length) in
    let long : length (set vs b (volume_at vs b + 1)) ≡ length vs = length-set vs b (volume_at vs b + 1) in
    let total : sum (set vs b (volume_at vs b + 1)) + volume_at vs b ≡ sum vs + (volume_at vs b + 1) = sum_by-set (λ (x : ℕ). x) vs b (volume_at vs b + 1) 0 here in
    let was : sum vs ≡ made = g.total in
    record {
      same_length = long ∙ g.same_length;
      within = g.within;
      some = λ i h. some-more asks first made vs b i g n h (same_or i b);
      wanted = λ i h. wanted-more asks first made vs b i g n h (same_or i b);
      others = λ i h. let ne : i ≢ b = omega arith in rw (at_other vs b i ne) (g.others i h);
      total = omega arith;
      even = λ i j il jl lo hi. even-more asks first made vs b i j g n il jl (same_or i b) (same_or j b) lo hi;
    }

ones-more : (asks : List Terms) (k : ℕ) (vs : List ℕ) (i : ℕ) → IsStarted asks k vs → k < length vs → i < k + 1 → (i ≡ k) ⊎ (i ≢ k) → volume_at (set vs k 1) i ≡ 1
ones-more asks k vs i s here h (inl e) = get_or-set_at vs k i 1 0 e here
ones-more asks k vs i s here h (inr ne) = get_or-set_other vs k i 1 0 ne ∙ s.ones i (omega arith)

asked-more : (asks : List Terms) (k : ℕ) (vs : List ℕ) (i : ℕ) → IsStarted asks k vs → 1 ≤ demand_at asks k → i < k + 1 → (i ≡ k) ⊎ (i ≢ k) → 1 ≤ demand_at asks i
asked-more asks k vs i s some h (inl e) = rw e some
asked-more asks k vs i s some h (inr ne) = s.asked i (omega arith)

pub started-more : (asks : List Terms) (k : ℕ) (vs : List ℕ) (x : ℕ) → IsStarted asks k vs → k < length asks → 1 ≤ demand_at asks k → x ≡ 1 → IsStarted asks (k + 1) (set vs k x)
started-more asks k vs x s low some one =
    let size : length vs ≡ length asks = s.same_length in
    let here : k < length vs = omega arith in
    let was : volume_at vs k ≡ 0 = s.zeros k (omega arith) in
    let sums : sum (set vs k 1) + volume_at vs k ≡ sum vs + 1 = sum_by-set (λ (x : ℕ). x) vs k 1 0 here in
    let before : sum vs ≡ k = s.total in
    rw one (record {
      same_length = length-set vs k 1 ∙ size;
      ones = λ i h. ones-more asks k vs i s here h (same_or i k);
      asked = λ i h. asked-more asks k vs i s some h (same_or i k);
      zeros = λ i h. let ne : i ≢ k = omega arith in get_or-set_other vs k i 1 0 ne ∙ s.zeros i (omega arith);
      total = omega arith;
    })

-- sums, place by place
sums-le : {X Y : Type 0} (f : X → ℕ) (g : Y → ℕ) (xs : List X) (ys : List Y) (d : X) (e : Y) → length xs ≡ length ys → ((i : ℕ) → i < length xs → f (get_or xs i d) ≤ g (get_or ys i e)) → sum_by f xs ≤ sum_by g ys
sums-le f g [] [] d e same all = omega arith
sums-le f g [] (y ∷ ys) d e same all = absurd (omega arith)
sums-le f g (x ∷ xs) [] d e same all = absurd (omega arith)
sums-le f g (x ∷ xs) (y ∷ ys) d e same all =
    let left : sum_by f (x ∷ xs) ≡ f x + sum_by f xs = sum_by-cons f x xs in
    let right : sum_by g (y ∷ ys) ≡ g y + sum_by g ys = sum_by-cons g y ys in
    let head : f x ≤ g y = all 0 (omega arith) in
    let rest : sum_by f xs ≤ sum_by g ys = sums-le f g xs ys d e (omega arith) (λ i h. all (suc i) (omega arith)) in
    omega arith

wanted-all : (asks : List Terms) (first made : ℕ) (vs : List ℕ) (i : ℕ) → IsGreedy asks first made vs → (i < first) ⊎ (first ≤ i) → volume_at vs i ≤ demand_at asks i
wanted-all asks first made vs i g (inl h) = g.wanted i h
wanted-all asks first made vs i g (inr h) = let none : volume_at vs i ≡ 0 = g.others i h in omega arith

-- when all that there is has been given, the volumes are fair
pub fair-from_greedy : (workers : ℕ) (asks : List Terms) (first made : ℕ) (vs : List ℕ) → IsGreedy asks first made vs → first ≡ min (length asks) workers → made ≡ min workers (sum_by (λ a. a.demand) asks) → IsFair workers asks vs
fair-from_greedy workers asks first made vs g e m = record {
  same_length = g.same_length;
  some = λ i h w. g.some i (omega arith);
  wanted = λ i h w. g.wanted i (omega arith);
  others = λ i h. g.others i (omega arith);
  total = g.total ∙ m;
  even = λ i j h w hj wj low high. g.even i j (omega arith) (omega arith) low high;
}

pub fair-full : (workers : ℕ) (asks : List Terms) (first : ℕ) (vs : List ℕ) → IsGreedy asks first workers vs → first ≡ min (length asks) workers → IsFair workers asks vs
fair-full workers asks first vs g e =
    let le : sum vs ≤ sum_by (λ (a : Terms). a.demand) asks = sums-le (λ n. n) (λ t. t.demand) vs asks 0 no_ask g.same_length (λ i h. wanted-all asks first workers vs i g (compare i first)) in
    let was : sum vs ≡ workers = g.total in
    fair-from_greedy workers asks first workers vs g e (omega arith)

pub fair-closed : (workers : ℕ) (asks : List Terms) (first made : ℕ) (vs : List ℕ) → IsGreedy asks first made vs → IsClosed asks vs first → first ≤ made → made < workers → first ≡ min (length asks) workers → IsFair workers asks vs
fair-closed workers asks first made vs g closed some low e =
    let le : sum vs ≤ sum_by (λ (a : Terms). a.demand) asks = sums-le (λ n. n) (λ t. t.demand) vs asks 0 no_ask g.same_length (λ i h. wanted-all asks first made vs i g (compare i first)) in
    let ge : sum_by (λ (a : Terms). a.demand) asks ≤ sum vs = sums-le (λ t. t.demand) (λ n. n) asks vs no_ask 0 (sym g.same_length) (λ i h. closed i (omega arith)) in
    let was : sum vs ≡ made = g.total in
    fair-from_greedy workers asks first made vs g e (omega arith)
