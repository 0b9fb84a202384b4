-- Numbers make an ask exactly where each is in its range, and a weight.
use Rattle.std.proofs.Common.{◌≡◌, ℕ, zero, suc, ◌≤◌, Bool, true, false, cond, ◌&&◌, ◌==◌, nat_le, ℤ, pos, negsuc, nat_abs, Option, Some, None, refl, sym, ap, ap₂, ◌∙◌, subst, arith}
use Rattle.std.proofs.lemmas.Bool.{leb-true, le-leb, eqb-true}
use Rattle.mal_base.specs.Asks.{Terms, IsAsk, Weighed, IsWeight, is_up_to, ask_of, ask_under, ask_of_numbers, weight_of, with_profile}
use Rattle.mal_base.specs.Limits.{limits}
use Rattle.mal_base.specs.Profiles.{number, profile_of}
use Rattle.mal_base.specs.declared.profile.Profile.{Profile}
use Rattle.mal_base.specs.declared.profile.Profile.TheVariants.{Plain, Lean}
use Rattle.mal_base.proofs.Sorting.{and-left, and-right, and-both}

-- a number is this one or more, up to another
pub record IsUpTo (max : ℕ) (z : ℤ) : Type 0 where
  pub own : z ≡ pos (nat_abs z)
  pub some : 1 ≤ nat_abs z
  pub low : nat_abs z ≤ max

pub up-to : (max : ℕ) (z : ℤ) → is_up_to max z ≡ true → IsUpTo max z
up-to max (pos n) h =
    record { own = refl; some = leb-true 1 n (and-left _ _ h); low = leb-true n max (and-right (nat_le 1 n) _ h) }
up-to max (negsuc n) h = absurd (cc)

pub is-up-to : (max n : ℕ) → 1 ≤ n → n ≤ max → is_up_to max (pos n) ≡ true
is-up-to max n some low = and-both _ _ (le-leb 1 n some) (le-leb n max low)

some-is : {A : Type 0} (x y : A) → ◌≡◌ {A = Option A} (Some x) (Some y) → x ≡ y
some-is x y e = cc

-- ---- profiles

pub profile-again : (p : Profile) → profile_of (pos (number p)) ≡ Some p
profile-again Plain = refl
profile-again Lean = refl

pub profile-number : (z : ℤ) (p : Profile) → profile_of z ≡ Some p → z ≡ pos (number p)
profile-number (negsuc n) p e = absurd (cc)
profile-number (pos n) p e = by_tests (n == 1) refl (n == 2) refl e
  where
    by_tests : (a : Bool) → (n == 1) ≡ a → (b : Bool) → (n == 2) ≡ b → cond a (Some Plain) (cond b (Some Lean) None) ≡ Some p → pos n ≡ pos (number p)
    by_tests true h b k e = ap pos (eqb-true n 1 h) ∙ ap (λ (q : Profile). pos (number q)) (some-is Plain p e)
    by_tests false h true k e = ap pos (eqb-true n 2 k) ∙ ap (λ (q : Profile). pos (number q)) (some-is Lean p e)
    by_tests false h false k e = absurd (cc)

-- ---- asks

-- these numbers are those of an ask, which are in their ranges
pub record AreOf (p d s : ℤ) (ask : Terms) : Type 0 where
  pub priority : p ≡ pos ask.priority
  pub demand : d ≡ pos ask.demand
  pub slices : s ≡ pos ask.slices
  pub formed : IsAsk ask

abbrev terms : ℕ → ℕ → ℕ → Profile → Terms
terms p d s q = record { priority = p; demand = d; slices = s; profile = q }

three-of : (p d s : ℤ) (ask : Terms) → ask_of p d s ≡ Some ask → (profile : Profile) → AreOf p d s (with_profile ask profile)
three-of p d s ask e profile = by_test (is_up_to limits.priority p && (is_up_to limits.demand d && is_up_to limits.slices s)) refl e
  where
    by_test : (b : Bool) → (is_up_to limits.priority p && (is_up_to limits.demand d && is_up_to limits.slices s)) ≡ b → cond b (Some (terms (nat_abs p) (nat_abs d) (nat_abs s) Plain)) None ≡ Some ask → AreOf p d s (with_profile ask profile)
    by_test false h e = absurd (cc)
    by_test true h e =
        let x : IsUpTo limits.priority p = up-to limits.priority p (and-left _ _ h) in
        let others : (is_up_to limits.demand d && is_up_to limits.slices s) ≡ true = and-right (is_up_to limits.priority p) _ h in
        let y : IsUpTo limits.demand d = up-to limits.demand d (and-left _ _ others) in
        let z : IsUpTo limits.slices s = up-to limits.slices s (and-right (is_up_to limits.demand d) _ others) in
        subst (λ (t : Terms). AreOf p d s (with_profile t profile)) (some-is (terms (nat_abs p) (nat_abs d) (nat_abs s) Plain) ask e)
        (record {
          priority = x.own;
          demand = y.own;
          slices = z.own;
          formed = record { some_priority = x.some; priority_bound = x.low; some_demand = y.some; demand_bound = y.low; some_slices = z.some; slices_bound = z.low };
        })

-- what numbers make an ask, they are its own
pub numbers-of : (p d s q : ℤ) (ask : Terms) → ask_of_numbers p d s q ≡ Some ask → AreOf p d s ask × (q ≡ pos (number ask.profile))
numbers-of p d s q ask e = by_parts (ask_of p d s) refl (profile_of q) refl e
  where
    by_parts : (a : Option Terms) → ask_of p d s ≡ a → (b : Option Profile) → profile_of q ≡ b → ask_under a b ≡ Some ask → AreOf p d s ask × (q ≡ pos (number ask.profile))
    by_parts None h b k e = absurd (cc)
    by_parts (Some t) h None k e = absurd (cc)
    by_parts (Some t) h (Some profile) k e =
        subst (λ (u : Terms). AreOf p d s u × (q ≡ pos (number u.profile))) (some-is (with_profile t profile) ask e)
        (three-of p d s t h profile, profile-number q profile k)

-- the numbers of an ask make it
pub ask-again : (ask : Terms) → IsAsk ask → ask_of_numbers (pos ask.priority) (pos ask.demand) (pos ask.slices) (pos (number ask.profile)) ≡ Some ask
ask-again ask is =
    let x : is_up_to limits.priority (pos ask.priority) ≡ true = is-up-to limits.priority ask.priority is.some_priority is.priority_bound in
    let y : is_up_to limits.demand (pos ask.demand) ≡ true = is-up-to limits.demand ask.demand is.some_demand is.demand_bound in
    let z : is_up_to limits.slices (pos ask.slices) ≡ true = is-up-to limits.slices ask.slices is.some_slices is.slices_bound in
    ap (λ (b : Bool). ask_under (cond b (Some (terms ask.priority ask.demand ask.slices Plain)) None) (profile_of (pos (number ask.profile)))) (and-both _ _ x (and-both _ _ y z))
    ∙ ap (ask_under (Some (terms ask.priority ask.demand ask.slices Plain))) (profile-again ask.profile)

-- ---- weights

abbrev weight : ℕ → ℕ → Weighed
weight p d = record { priority = p; demand = d }

-- these numbers are those of a weight, which are in their ranges
pub record AreOfWeight (p d : ℤ) (w : Weighed) : Type 0 where
  pub priority : p ≡ pos w.priority
  pub demand : d ≡ pos w.demand
  pub formed : IsWeight w

pub numbers-of-weight : (p d : ℤ) (w : Weighed) → weight_of p d ≡ Some w → AreOfWeight p d w
numbers-of-weight p d w e = by_test (is_up_to limits.priority p && is_up_to limits.demand d) refl e
  where
    by_test : (b : Bool) → (is_up_to limits.priority p && is_up_to limits.demand d) ≡ b → cond b (Some (weight (nat_abs p) (nat_abs d))) None ≡ Some w → AreOfWeight p d w
    by_test false h e = absurd (cc)
    by_test true h e =
        let x : IsUpTo limits.priority p = up-to limits.priority p (and-left _ _ h) in
        let y : IsUpTo limits.demand d = up-to limits.demand d (and-right (is_up_to limits.priority p) _ h) in
        subst (λ (v : Weighed). AreOfWeight p d v) (some-is (weight (nat_abs p) (nat_abs d)) w e)
        (record {
          priority = x.own;
          demand = y.own;
          formed = record { some_priority = x.some; priority_bound = x.low; some_demand = y.some; demand_bound = y.low };
        })

pub weight-again : (w : Weighed) → IsWeight w → weight_of (pos w.priority) (pos w.demand) ≡ Some w
weight-again w is =
    let x : is_up_to limits.priority (pos w.priority) ≡ true = is-up-to limits.priority w.priority is.some_priority is.priority_bound in
    let y : is_up_to limits.demand (pos w.demand) ≡ true = is-up-to limits.demand w.demand is.some_demand is.demand_bound in
    ap (λ (b : Bool). cond b (Some w) None) (and-both _ _ x y)
