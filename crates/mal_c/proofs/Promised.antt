-- What the status of a run says.
use Rattle.std.proofs.Common.{◌≡◌, pos, Option, Some, None, nat_abs, refl, ap, arith}
use Rattle.spec_solving.specs.declared.refusal.Refusal.{Refusal}
use Rattle.spec_solving.specs.Solving.{Answer, Solving, Promises}
use Rattle.spec_solving.specs.Solving.Answer.{Open, Unknown, Model, Core}
use Rattle.mal_c.specs.Numbers.{status_in, status_of}
use Rattle.mal_c.specs.Calls.{HasModel, HasCore}

-- 10 is said of a model alone
pub has_model : (s : Solving) → Promises s.proving s.clauses s.assumed s.answer → status_of s ≡ pos 10 → HasModel s
has_model s = by_cases s.refused s.answer refl
  where
    by_cases : (refused : Option Refusal) (answer : Answer) → s.answer ≡ answer → Promises s.proving s.clauses s.assumed answer → status_in refused answer ≡ pos 10 → HasModel s
    by_cases None Open e promise said = absurd (omega (arith, ap nat_abs said))
    by_cases None Unknown e promise said = absurd (omega (arith, ap nat_abs said))
    by_cases None (Model values) e promise said = record { values = values; answer = e; satisfied = promise }
    by_cases None (Core failed lines) e promise said = absurd (omega (arith, ap nat_abs said))
    by_cases (Some cause) answer e promise said = absurd (omega (arith, ap nat_abs said))

-- 20 is said of failed assumptions alone
pub has_core : (s : Solving) → Promises s.proving s.clauses s.assumed s.answer → status_of s ≡ pos 20 → HasCore s
has_core s = by_cases s.refused s.answer refl
  where
    by_cases : (refused : Option Refusal) (answer : Answer) → s.answer ≡ answer → Promises s.proving s.clauses s.assumed answer → status_in refused answer ≡ pos 20 → HasCore s
    by_cases None Open e promise said = absurd (omega (arith, ap nat_abs said))
    by_cases None Unknown e promise said = absurd (omega (arith, ap nat_abs said))
    by_cases None (Model values) e promise said = absurd (omega (arith, ap nat_abs said))
    by_cases None (Core failed lines) e promise said = record { failed = failed; lines = lines; answer = e; core = promise }
    by_cases (Some cause) answer e promise said = absurd (omega (arith, ap nat_abs said))
