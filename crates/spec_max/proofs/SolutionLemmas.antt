use Rattle.std.proofs.Common.{◌≡◌, ℕ, ◌/◌, ◌≤◌, ◌<◌, Bool, true, not, ◌&&◌, nat_le, List, [], ◌∷◌, ◌++◌, length, take, drop, take-append-drop, Option, Some, None, refl, sym, ap, subst, ◌∙◌, arith}
use Rattle.std.specs.List.{list_all}
use Rattle.std.proofs.lemmas.Bool.{and_parts, and_from, leb-true, le-leb}
use Rattle.std.proofs.lemmas.List.{length-take-le}
use Rattle.std.proofs.lemmas.List.Folds.{list_all-append}
use Rattle.std.proofs.lemmas.List.Sums.{count_by-le-length}
use Rattle.mal_base.specs.Limits.{limits}
use Rattle.mal_base.specs.Clauses.{rises}
use Rattle.mal_base.specs.Formulas.{is_within, is_clause_of, is_within_limits, literals_of}
use Rattle.mal_revision.specs.Posted.{is_posted}
use Rattle.spec_logic.specs.Logic.{is_true_in, satisfies, satisfies_clause}
use Rattle.spec_course.specs.Supported.{IsModel}
use Rattle.spec_max.specs.Counter.{counter}
use Rattle.spec_max.specs.Cost.{cost}
use Rattle.spec_max.specs.Optimum.{Instance, Solution, solution_in, variables_in, clauses_in, costs_less, opening, cheaper}
use Rattle.spec_max.specs.Right.{IsServed, IsSolution}
use Rattle.spec_max.proofs.Totals.{same-cost}
use Rattle.spec_max.proofs.Extending.{same-kept}
use Rattle.spec_max.proofs.Counting.{cost_is_below}
use Rattle.spec_max.proofs.Forms.{counter_in_form, cost_below_within}
use Rattle.spec_max.proofs.Refuting.{more-satisfies, formula-clauses}

-- literals and clauses of some variables are of more
within-wider : (v w : ℕ) (ls : List ℕ) → v ≤ w → is_within v ls ≡ true → is_within w ls ≡ true
within-wider v w [] le h = refl
within-wider v w (l ∷ ls) le h =
    let both = and_parts (nat_le 1 (l / 2) && nat_le (l / 2) v) (is_within v ls) h in
    let here = and_parts (nat_le 1 (l / 2)) (nat_le (l / 2) v) both.0 in
    let high = leb-true (l / 2) v here.1 in
    and_from (nat_le 1 (l / 2) && nat_le (l / 2) w) (is_within w ls) (and_from (nat_le 1 (l / 2)) (nat_le (l / 2) w) here.0 (le-leb (l / 2) w (omega arith))) (within-wider v w ls le both.1)

clause-wider : (v w : ℕ) (c : Option (List ℕ)) → v ≤ w → is_clause_of v c ≡ true → is_clause_of w c ≡ true
clause-wider v w None le h = let low = leb-true 1 v h in le-leb 1 w (omega arith)
clause-wider v w (Some lits) le h =
    let both = and_parts (rises lits) (is_within v lits) h in
    and_from (rises lits) (is_within w lits) both.0 (within-wider v w lits le both.1)

clauses-wider : (v w : ℕ) (cs : List (Option (List ℕ))) → v ≤ w → list_all (is_clause_of v) cs ≡ true → list_all (is_clause_of w) cs ≡ true
clauses-wider v w [] le h = refl
clauses-wider v w (c ∷ cs) le h =
    let both = and_parts (is_clause_of v c) (list_all (is_clause_of v) cs) h in
    and_from (is_clause_of w c) (list_all (is_clause_of w) cs) (clause-wider v w c le both.0) (clauses-wider v w cs le both.1)

-- a solution costs at most what all soft literals do
pub solution-few : (w : Instance) (found : Solution) → IsSolution w found → found.cost ≤ length w.softs
solution-few w found s = subst (λ (k : ℕ). k ≤ length w.softs) (sym s.costs) (count_by-le-length (λ l. not (is_true_in found.model l)) w.softs)

-- the first question may be posted
pub opening-posted : (w : Instance) → IsServed w → is_posted (opening w) ≡ true
opening-posted w s =
    let more : w.formula.variables ≤ variables_in w = omega arith in
    and_from (is_within_limits (variables_in w) (clauses_in w) && list_all (is_clause_of (variables_in w)) (clauses_in w)) true
    (and_from (is_within_limits (variables_in w) (clauses_in w)) (list_all (is_clause_of (variables_in w)) (clauses_in w)) s.limited
    (list_all-append (is_clause_of (variables_in w)) w.formula.clauses (counter w.formula.variables w.softs)
    ∙ and_from (list_all (is_clause_of (variables_in w)) w.formula.clauses) (list_all (is_clause_of (variables_in w)) (counter w.formula.variables w.softs))
    (clauses-wider w.formula.variables (variables_in w) w.formula.clauses more (formula-clauses w.formula s.formed))
    (counter_in_form w.formula.variables w.softs s.within)))
    refl

-- and so may a question for less
pub cheaper-posted : (w : Instance) (c : ℕ) → IsServed w → 1 ≤ c → c ≤ length w.softs → is_posted (cheaper w c) ≡ true
cheaper-posted w c s low high =
    let two = and_parts (nat_le (variables_in w) limits.variables && nat_le (length (clauses_in w)) limits.clauses) (nat_le (literals_of (clauses_in w)) limits.literals) s.limited in
    let one = and_parts (nat_le (variables_in w) limits.variables) (nat_le (length (clauses_in w)) limits.clauses) two.0 in
    and_from (is_within_limits (variables_in w) [] && true) (is_within (variables_in w) (costs_less w c ∷ []))
    (and_from (is_within_limits (variables_in w) []) true (and_from (nat_le (variables_in w) limits.variables && true) true (and_from (nat_le (variables_in w) limits.variables) true one.0 refl) refl) refl)
    (cost_below_within w.formula.variables w.softs c low high)

-- the first values of a model of formula and counter are a solution, which costs what the model does
pub record IsFront (w : Instance) (model : List Bool) : Type 0 where
  pub solution : IsSolution w (solution_in w model)
  pub same : (solution_in w model).cost ≡ cost w.softs model
  pub few : (solution_in w model).cost ≤ length w.softs
  pub counted : satisfies model (counter w.formula.variables w.softs) ≡ true

pub front-solves : (w : Instance) (model : List Bool) (assumptions : List ℕ) → IsServed w → IsModel (variables_in w) (clauses_in w) assumptions model → IsFront w model
front-solves w model assumptions s m =
    let v : ℕ = w.formula.variables in
    let front : List Bool = take v model in
    let long = m.whole in
    let enough : v ≤ length model = omega arith in
    let whole : length front ≡ v = length-take-le v model enough in
    let split : front ++ drop v model ≡ model = take-append-drop v model in
    let both = and_parts (satisfies model (clauses_in w)) (list_all (is_true_in model) assumptions) m.satisfied in
    let parts = and_parts (satisfies model w.formula.clauses) (satisfies model (counter v w.softs)) (sym (list_all-append (satisfies_clause model) w.formula.clauses (counter v w.softs)) ∙ both.0) in
    let clauses = subst (λ (k : ℕ). list_all (is_clause_of k) w.formula.clauses ≡ true) (sym whole) (formula-clauses w.formula s.formed) in
    let softs = subst (λ (k : ℕ). is_within k w.softs ≡ true) (sym whole) s.within in
    let price : cost w.softs front ≡ cost w.softs model = sym (same-cost (front ++ drop v model) front w.softs (same-kept front (drop v model) w.softs softs)) ∙ ap (λ (xs : List Bool). cost w.softs xs) split in
    record {
      solution = record {
        whole = whole;
        satisfied = sym (more-satisfies front (drop v model) w.formula.clauses clauses) ∙ ap (λ (xs : List Bool). satisfies xs w.formula.clauses) split ∙ parts.0;
        costs = refl;
      };
      same = price;
      few = count_by-le-length (λ x. not (is_true_in front x)) w.softs;
      counted = parts.1;
    }

-- a model under the assumption of a lower cost costs less
pub front-cheaper : (w : Instance) (model : List Bool) (c : ℕ) → IsServed w → 1 ≤ c → IsModel (variables_in w) (clauses_in w) (costs_less w c ∷ []) model → (solution_in w model).cost < c
front-cheaper w model c s low m =
    let f = front-solves w model (costs_less w c ∷ []) s m in
    let both = and_parts (satisfies model (clauses_in w)) (list_all (is_true_in model) (costs_less w c ∷ [])) m.satisfied in
    let off = and_parts (is_true_in model (costs_less w c)) true both.1 in
    subst (λ (k : ℕ). k < c) (sym f.same) (cost_is_below w.formula.variables w.softs model c f.counted low off.0)
