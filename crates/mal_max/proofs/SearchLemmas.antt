-- A search goes on question by question, to what is right.
use Rattle.std.proofs.Common.{◌≡◌, ℕ, ◌+◌, ◌*◌, ◌<◌, ◌≤◌, nat_le, Bool, true, false, cond, ◌==◌, ◌&&◌, List, [], length, Option, Some, None, refl, subst, arith}
use Rattle.std.proofs.lemmas.Bool.{and_parts, leb-true}
use Rattle.mal_base.specs.Limits.{limits}
use Rattle.mal_base.specs.Formulas.{literals_of}
use Rattle.spec_report.specs.Replies.{Model, Proof, AllSpent, AllStarved}
use Rattle.spec_course.specs.Course.{Asked, Leads}
use Rattle.spec_course.specs.Course.Next.{Asks, Ends}
use Rattle.spec_course.specs.Supported.{AreSupported}
use Rattle.spec_job.specs.KeyedJob.{Key}
use Rattle.spec_inquiry.specs.Rounds.{asked_in}
use Rattle.spec_inquiry.specs.Searches.{AsksOnly, HasRoom, IsSearch, Proofs, StepAssumes, one_solver}
use Rattle.spec_inquiry.proofs.SearchLemmas.{search-supported}
use Rattle.spec_max.specs.Optimum.{Instance, Solution, Optimum, Best, variables_in, clauses_in, cheaper, first, opening, solution_in, step}
use Rattle.spec_max.specs.Right.{IsServed}
use Rattle.spec_max.proofs.SearchLemmas.{search-asks, search-is-right, unknown-is-told}
use Rattle.mal_inquiry.specs.Searching.{IsFoundIn}
use Rattle.mal_job.specs.declared.finding.Finding.TheVariants as found
use Rattle.mal_max.specs.Found.{IsFound, key}

-- each question after the first only assumes
step-assumes : (w : Instance) → StepAssumes (variables_in w) (step w)
step-assumes w best (Model model) = by_cost ((solution_in w model).cost == 0)
  where
    by_cost : (b : Bool) → AsksOnly (variables_in w) (cond b (Ends (Best (solution_in w model) [])) (Asks (Some (solution_in w model)) (cheaper w (solution_in w model).cost)))
    by_cost true = tt
    by_cost false = record { has_variables = refl; has_none = refl }
step-assumes w best (Proof failed lines) = tt
step-assumes w best (AllSpent n) = tt
step-assumes w best AllStarved = tt

-- a model that is found has a value for each variable of the formula
pub found-whole : (w : Instance) (stood : Proofs → Option Solution) (number : ℕ) (model : List Bool) → IsFoundIn (step w) None (opening w) stood number (found.Model model) → w.formula.variables ≤ length model
found-whole w stood number model f = let whole : length model ≡ w.formula.variables + length w.softs * length w.softs = f.evident.whole in more w.formula.variables (length w.softs * length w.softs) (length model) whole
  where
    more : (n m k : ℕ) → k ≡ n + m → n ≤ k
    more n m k e = omega (arith, e)

-- a job has room for all questions: no question comes after more than there are soft literals
pub search-room : (w : Instance) → IsServed w → HasRoom (step w) None (opening w)
search-room w s =
    let two = and_parts (nat_le (variables_in w) limits.variables && nat_le (length (clauses_in w)) limits.clauses) (nat_le (literals_of (clauses_in w)) limits.literals) s.limited in
    let one = and_parts (nat_le (variables_in w) limits.variables) (nat_le (length (clauses_in w)) limits.clauses) two.0 in
    record {
      assumes = step-assumes w;
      clauses = leb-true (length (clauses_in w)) limits.clauses one.1;
      literals = leb-true (literals_of (clauses_in w)) limits.literals two.1;
      few = λ asked best r supported leads. fewer (length asked) (length w.softs) (search-asks w asked best r s supported leads).few s.few;
    }
  where
    fewer : (n most : ℕ) → n ≤ most → most ≤ limits.softs → n < limits.revisions
    fewer n most low high = omega (arith, low, high)

-- where a search ends, the optimum is found
search-found : (slices : ℕ) (w : Instance) (optimum : Optimum) → IsServed w → IsSearch key (one_solver slices) (step w) (first w) optimum → IsFound slices w optimum
search-found slices w optimum s u = record {
  search = u;
  right = (search-is-right w (asked_in u.rounds) optimum s supported u.leads).0;
  told = λ before last cause e. unknown-is-told w before last optimum cause (subst (λ (asked : List Asked). Leads (step w) (first w) asked (Ends optimum)) e u.leads);
}
  where
    supported : AreSupported (variables_in w) (clauses_in w) (asked_in u.rounds)
    supported = search-supported key (one_solver slices) (step w) None (opening w) u.rounds u.history (Ends optimum) (step-assumes w) u.inquiry u.leads

pub named-found : (slices : ℕ) (w : Instance) (optimum : Optimum) (k : Key) → k ≡ key → IsServed w → IsSearch k (one_solver slices) (step w) (first w) optimum → IsFound slices w optimum
named-found slices w optimum k e s u = search-found slices w optimum s (subst (λ (j : Key). IsSearch j (one_solver slices) (step w) (first w) optimum) e u)
