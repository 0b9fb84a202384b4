-- Words say an ask exactly where each says its number, and so a weight.
use Rattle.std.proofs.Common.{◌≡◌, ℕ, zero, suc, ◌≤◌, Bool, true, false, cond, ◌&&◌, ℤ, pos, negsuc, Option, Some, None, Result, Ok, Err, refl, sym, ap, ◌∙◌, subst, arith}
use Rattle.std.specs.Prelude.{nat_abs}
use Rattle.std.proofs.lemmas.Bool.{eqb-true}
use Rattle.mal_base.specs.Asks.{Terms, IsAsk, Weighed, IsWeight, ask_of_numbers, weight_of}
use Rattle.mal_base.specs.Profiles.{number, last_profile, profile_of}
use Rattle.mal_base.specs.declared.profile.Profile.{Profile}
use Rattle.mal_base.specs.declared.profile.Profile.TheVariants.{Plain, Lean}
use Rattle.mal_base.proofs.Asked.{profile-again, AreOf, numbers-of, ask-again, AreOfWeight, numbers-of-weight, weight-again}
use Rattle.spec_text.specs.Asks.{first_profile, is_first, is_number, number_said, ranged, ask_said, weight_said}
use Rattle.spec_text.specs.Numbers.{NumberWord}
use Rattle.spec_text.specs.Numbers.NumberWord.{NotANumber, TooLarge, Number}
use Rattle.spec_text.specs.declared.ask_fault.AskFault.{AskFault}
use Rattle.spec_text.specs.declared.ask_fault.AskFault.TheVariants.{NotNumbers, OutOfRange}

-- the number of a profile
pub some-number : (p : Profile) → 1 ≤ number p
some-number Plain = omega arith
some-number Lean = omega arith

pub number-bound : (p : Profile) → number p ≤ last_profile
number-bound Plain = omega arith
number-bound Lean = omega arith

-- two profiles that are said alike are equal
pub same-profile : (p q : Profile) → Number (pos (number p)) ≡ Number (pos (number q)) → p ≡ q
same-profile p q e =
    some-same p q (sym (profile-again p) ∙ ap profile_said e ∙ profile-again q)
  where
    profile_said : NumberWord → Option Profile
    profile_said w = profile_of (number_said w)

    some-same : (x y : Profile) → ◌≡◌ {A = Option Profile} (Some x) (Some y) → x ≡ y
    some-same x y e = cc

-- the first profile
pub first-is : (p : Profile) → is_first p ≡ true → p ≡ Plain
first-is p e = same-profile p Plain (ap (λ (n : ℕ). Number (pos n)) (eqb-true (number p) first_profile e))

-- a word that says a number above 0 says it
says : (w : NumberWord) (n : ℕ) → 1 ≤ n → number_said w ≡ pos n → w ≡ Number (pos n)
says NotANumber n some e = let same : 0 ≡ n = ap nat_abs e in absurd (omega (arith, same))
says TooLarge n some e = let same : 0 ≡ n = ap nat_abs e in absurd (omega (arith, same))
says (Number z) n some e = ap Number e

-- numbers that make something
made : {A : Type 0} (o : Option A) (x : A) → ranged o ≡ Ok x → o ≡ Some x
made None x e = absurd (cc)
made (Some y) x e = cc

passed : {A : Type 0} (b : Bool) (r : Result A AskFault) (x : A) → cond b r (Err NotNumbers) ≡ Ok x → r ≡ Ok x
passed true r x e = e
passed false r x e = absurd (cc)

-- what four words say where they say an ask, which is in form
pub record SayAsk (p d s q : NumberWord) (ask : Terms) : Type 0 where
  pub priority : p ≡ Number (pos ask.priority)
  pub demand : d ≡ Number (pos ask.demand)
  pub slices : s ≡ Number (pos ask.slices)
  pub profile : q ≡ Number (pos (number ask.profile))
  pub formed : IsAsk ask

pub ask-says : (p d s q : NumberWord) (ask : Terms) → ask_said p d s q ≡ Ok ask → SayAsk p d s q ask
ask-says p d s q ask e =
    let numbers = passed (is_number p && is_number d && is_number s && is_number q) (ranged (ask_of_numbers (number_said p) (number_said d) (number_said s) (number_said q))) ask e in
    let of = numbers-of (number_said p) (number_said d) (number_said s) (number_said q) ask (made _ ask numbers) in
    let is : AreOf (number_said p) (number_said d) (number_said s) ask = of.0 in
    record {
      priority = says p ask.priority is.formed.some_priority is.priority;
      demand = says d ask.demand is.formed.some_demand is.demand;
      slices = says s ask.slices is.formed.some_slices is.slices;
      profile = says q (number ask.profile) (some-number ask.profile) of.1;
      formed = is.formed;
    }

pub says-ask : (p d s q : NumberWord) (ask : Terms) → SayAsk p d s q ask → ask_said p d s q ≡ Ok ask
says-ask p d s q ask is =
    rw (is.priority, is.demand, is.slices, is.profile) (ap ranged (ask-again ask is.formed))

-- the same of two words that say a weight
pub record SayWeight (p d : NumberWord) (w : Weighed) : Type 0 where
  pub priority : p ≡ Number (pos w.priority)
  pub demand : d ≡ Number (pos w.demand)
  pub formed : IsWeight w

pub weight-says : (p d : NumberWord) (w : Weighed) → weight_said p d ≡ Ok w → SayWeight p d w
weight-says p d w e =
    let numbers = passed (is_number p && is_number d) (ranged (weight_of (number_said p) (number_said d))) w e in
    let is : AreOfWeight (number_said p) (number_said d) w = numbers-of-weight (number_said p) (number_said d) w (made _ w numbers) in
    record {
      priority = says p w.priority is.formed.some_priority is.priority;
      demand = says d w.demand is.formed.some_demand is.demand;
      formed = is.formed;
    }

pub says-weight : (p d : NumberWord) (w : Weighed) → SayWeight p d w → weight_said p d ≡ Ok w
says-weight p d w is = rw (is.priority, is.demand) (ap ranged (weight-again w is.formed))
