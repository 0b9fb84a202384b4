use Rattle.std.specs.Prelude.{◌≡◌, ℕ, ◌≤◌, ◌^◌, ◌<◌, [], ◌∷◌, codes}
use Rattle.spec_script.specs.Formed.{IsScript}
use Rattle.mal_base.specs.Limits.{limits}
use Rattle.spec_script.specs.Generated.{most_generated, generated, literals_from, variables, tenant_of, name_of, ask_from}
use Rattle.spec_seq.specs.Draws.{next}

-- the script of a seed is in form, with as many jobs as are made
abbrev pub GeneratedIsScript : Type 0
GeneratedIsScript = (seed jobs : ℕ) → seed < 2 ^ 31 → 1 ≤ jobs → jobs ≤ most_generated → IsScript limits (generated seed jobs)

-- worked examples: of seed 1 the first job has priority 7, and its first clause is made of -9, -24 and 13
pub record HasExamples : Type 0 where
  pub tenant : tenant_of 1 ≡ codes "t1"
  pub again : tenant_of 5 ≡ codes "t1"
  pub name : name_of 256 ≡ codes "j256"
  pub priority : (ask_from 1).priority ≡ 7
  pub literals : literals_from 3 variables (next 1) ≡ 19 ∷ 49 ∷ 26 ∷ []
