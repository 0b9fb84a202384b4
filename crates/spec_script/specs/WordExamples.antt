-- Worked examples of what words say.
use Rattle.std.specs.Prelude.{◌≡◌, ℕ, List, [], ◌∷◌, codes, Err}
use Rattle.mal_base.specs.declared.profile.Profile.TheVariants.{Plain, Lean}
use Rattle.mal_base.specs.Asks.{Terms}
use Rattle.mal_base.specs.declared.line_fault.LineFault.TheVariants.{Range}
use Rattle.mal_base.specs.Limits.{limits}
use Rattle.spec_script.specs.Reading.{read_text}
use Rattle.spec_script.specs.Grammar.{Asks, Assumes}

-- the words of a priority, a demand, slices and a profile, which may be left out, and the words after the `a` of a
-- line of assumptions; a literal is given by its code: 3 and 4 are -1 and 2
pub record WordExamples : Type 0 where
  pub greatest : Asks (codes "1000") (codes "64") (codes "4096") (codes "2" ∷ []) (record { priority = 1000; demand = 64; slices = 4096; profile = Lean })
  pub leading_zeros : Asks (codes "01") (codes "1") (codes "004") (codes "02" ∷ []) (record { priority = 1; demand = 1; slices = 4; profile = Lean })
  pub no_profile : Asks (codes "1") (codes "1") (codes "4") [] (record { priority = 1; demand = 1; slices = 4; profile = Plain })
  pub no_sign : (ask : Terms) → Asks (codes "+1") (codes "1") (codes "4") [] ask → ⊥
  pub no_zero : (ask : Terms) → Asks (codes "0") (codes "1") (codes "4") [] ask → ⊥
  pub above_the_greatest : (ask : Terms) → Asks (codes "1") (codes "65") (codes "4") [] ask → ⊥
  pub third_profile : (ask : Terms) → Asks (codes "1") (codes "1") (codes "4") (codes "3" ∷ []) ask → ⊥
  pub two_profiles : (ask : Terms) → Asks (codes "1") (codes "1") (codes "4") (codes "2" ∷ codes "2" ∷ []) ask → ⊥
  pub in_order : Assumes 2 (codes "2" ∷ codes "-1" ∷ codes "2" ∷ codes "0" ∷ []) (3 ∷ 4 ∷ [])
  pub not_closed : (assumptions : List ℕ) → Assumes 2 (codes "2" ∷ []) assumptions → ⊥
  pub both_signs : (assumptions : List ℕ) → Assumes 2 (codes "2" ∷ codes "-2" ∷ codes "0" ∷ []) assumptions → ⊥
  pub above_the_variables : (assumptions : List ℕ) → Assumes 1 (codes "2" ∷ codes "0" ∷ []) assumptions → ⊥
  pub whatever_is_behind : read_text limits (codes "t a\nj p 0 1 4\nx\ne\ne\n") ≡ Err (2, Range)
