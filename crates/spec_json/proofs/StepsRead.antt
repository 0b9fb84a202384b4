-- The steps that values say are read of them.
use Rattle.std.proofs.Common.{◌≡◌, ℕ, ◌+◌, ◌≤◌, Bool, true, false, cond, not, ◌||◌, ◌==◌, nat_lt, int_lt, List, [], ◌∷◌, ◌++◌, map, length, ℤ, pos, nat_abs, Option, Some, Result, Ok, Err, refl, sym, ap, ap₂, ◌∙◌, arith, append_assoc, append-nil}
use Rattle.std.specs.List.{count_by}
use Rattle.std.proofs.lemmas.List.Sums.{sum_by-append, sum_by-cons}
use Rattle.std.proofs.lemmas.Grind.{flat_map-append}
use Rattle.std.proofs.lemmas.Bool.Decides.{nat_tests}
use Rattle.mal_base.specs.Limits.{limits}
use Rattle.mal_base.specs.Asks.{Weighed, weight_of}
use Rattle.mal_base.specs.Formulas.{literals_of}
use Rattle.mal_base.proofs.Asked.{weight-again}
use Rattle.mal_base.proofs.Sorting.{and-left}
use Rattle.mal_revision.specs.Posted.{Posted}
use Rattle.spec_dimacs.specs.Merged.{sorted}
use Rattle.spec_dimacs.specs.Reading.{◌>>=◌}
use Rattle.spec_script.specs.Script.{revisions_at, revisions_in}
use Rattle.spec_script.specs.declared.step.Step.{Step}
use Rattle.spec_script.specs.declared.step.Step.TheVariants.{Revise, Reask}
use Rattle.spec_script.specs.Formed.{clauses_of, clause_literals}
use Rattle.serde_json.specs.Data.{Data}
use Rattle.spec_json.specs.Shape.{is_revision, key_count}
use Rattle.spec_json.specs.Numbers.{assumptions_in, clauses_in, has_number, is_above, is_none, variables_in, weight_in}
use Rattle.spec_json.specs.Reading.{all_stepped, literals, reasked, revised, revision_in, stepped, with_consistent, with_revision, with_weight}
use Rattle.spec_json.specs.Grammar.{SaysRevision, SaysStep, SaysWeight, SaySteps}
use Rattle.spec_json.specs.declared.fault.JsonFault.{JsonFault}
use Rattle.spec_json.proofs.Numbering.{low-test, none-of, not-below}
use Rattle.spec_json.proofs.Saying.{AllSaid, Assumed, all-said, assumed, made}

-- a test that does not hold lets go on, and one that holds
pub goes : {A : Type 0} (b : Bool) (fault : JsonFault) (x : Result A JsonFault) → b ≡ false → cond b (Err fault) x ≡ x
goes true fault x h = absurd (cc)
goes false fault x h = refl

pub holds : (b : Bool) → b ≡ true → not b ≡ false
holds true h = refl
holds false h = absurd (cc)

-- the clauses and the literals of steps after which others stand
behind : (steps more : List Step) (r : Posted) → revisions_in (steps ++ Revise r ∷ more) ≡ revisions_in steps ++ r ∷ revisions_in more
behind steps more r = flat_map-append revisions_at steps (Revise r ∷ more)

clauses-behind : (steps more : List Step) (r : Posted) → clauses_of (revisions_in (steps ++ Revise r ∷ more)) ≤ limits.clauses → clauses_of (revisions_in steps) + length r.clauses ≤ limits.clauses
clauses-behind steps more r h =
    let all : clauses_of (revisions_in (steps ++ Revise r ∷ more)) ≡ clauses_of (revisions_in steps) + (length r.clauses + clauses_of (revisions_in more)) =
    ap clauses_of (behind steps more r) ∙ sum_by-append (λ (p : Posted). length p.clauses) (revisions_in steps) (r ∷ revisions_in more)
    ∙ ap (λ (n : ℕ). clauses_of (revisions_in steps) + n) (sum_by-cons (λ (p : Posted). length p.clauses) r (revisions_in more)) in
    omega arith

literals-behind : (steps more : List Step) (r : Posted) → clause_literals (revisions_in (steps ++ Revise r ∷ more)) ≤ limits.literals → clause_literals (revisions_in steps) + literals_of r.clauses ≤ limits.literals
literals-behind steps more r h =
    let all : clause_literals (revisions_in (steps ++ Revise r ∷ more)) ≡ clause_literals (revisions_in steps) + (literals_of r.clauses + clause_literals (revisions_in more)) =
    ap clause_literals (behind steps more r) ∙ sum_by-append (λ (p : Posted). literals_of p.clauses) (revisions_in steps) (r ∷ revisions_in more)
    ∙ ap (λ (n : ℕ). clause_literals (revisions_in steps) + n) (sum_by-cons (λ (p : Posted). literals_of p.clauses) r (revisions_in more)) in
    omega arith

-- steps after which others stand, all of them within the limits of a job
pub record Within (steps : List Step) : Type 0 where
  pub clauses : clauses_of (revisions_in steps) ≤ limits.clauses
  pub literals : clause_literals (revisions_in steps) ≤ limits.literals

-- ---- a revision

abbrev posted : ℕ → List (Option (List ℕ)) → List ℕ → Posted
posted v cs lits = record { variables = v; clauses = cs; assumptions = lits }

revision-read : (job : ℕ) (d : Data) (steps more : List Step) (r : Posted) → SaysRevision d r → Within (steps ++ Revise r ∷ more) → revised job steps d ≡ Ok (steps ++ Revise r ∷ [])
revision-read job d steps more r is within =
    let size : nat_abs (variables_in d) ≡ r.variables = ap nat_abs is.variables in
    let said : AllSaid r.variables (clauses_in d) r.clauses = all-said r.variables (clauses_in d) r.clauses is.clauses in
    let own : Assumed r.variables (assumptions_in d) r.assumptions = assumed r.variables (assumptions_in d) r.assumptions is.assumptions in
    let some : (int_lt (variables_in d) (pos 0) || has_number is_none (clauses_in d) (assumptions_in d)) ≡ false =
    none-of _ _ (ap (λ (z : ℤ). int_lt z (pos 0)) is.variables ∙ not-below r.variables) (none-of _ _ said.some own.some) in
    let few : nat_lt limits.variables (nat_abs (variables_in d)) ≡ false = ap (λ (n : ℕ). nat_lt limits.variables n) size ∙ low-test limits.variables r.variables is.few in
    let low : has_number (is_above (nat_abs (variables_in d))) (clauses_in d) (assumptions_in d) ≡ false =
    ap (λ (n : ℕ). has_number (is_above n) (clauses_in d) (assumptions_in d)) size ∙ none-of _ _ said.low own.low in
    let same : revision_in d ≡ r =
    ap (λ (v : ℕ). posted v (map made (clauses_in d)) (sorted (literals (assumptions_in d)))) size
    ∙ ap (λ (cs : List (Option (List ℕ))). posted r.variables cs (sorted (literals (assumptions_in d)))) said.own
    ∙ ap (λ (lits : List ℕ). posted r.variables r.clauses lits) own.own in
    goes _ _ _ some ∙ goes _ _ _ few ∙ goes _ _ _ low
    ∙ ap (with_consistent job steps (revision_in d)) own.none
    ∙ ap (λ (p : Posted). with_revision job steps p) same
    ∙ goes _ _ _ (low-test limits.clauses _ (clauses-behind steps more r within.clauses))
    ∙ goes _ _ _ (low-test limits.literals _ (literals-behind steps more r within.literals))

-- ---- a change of the ask

weight-read : (job : ℕ) (d : Data) (steps : List Step) (w : Weighed) → SaysWeight d w → reasked job steps d ≡ Ok (steps ++ Reask w ∷ [])
weight-read job d steps w is =
    let own : weight_in d ≡ Some w = ap₂ (λ (p q : ℤ). weight_of p q) is.priority is.demand ∙ weight-again w is.formed in
    ap (λ (o : Option Weighed). with_weight job steps o) own

-- ---- the steps of a job

two-not-three : (n : ℕ) → (n == 2) ≡ true → (n == 3) ≡ false
two-not-three n h = grind (arith, nat_tests)

step-read : (job : ℕ) (d : Data) (steps more : List Step) (step : Step) → SaysStep d step → Within (steps ++ step ∷ more) → stepped job steps d ≡ Ok (steps ++ step ∷ [])
step-read job d steps more (Revise r) is within =
    ap (λ (b : Bool). cond b (revised job steps d) (reasked job steps d)) (and-left _ _ is.shape) ∙ revision-read job d steps more r is within
step-read job d steps more (Reask w) is within =
    ap (λ (b : Bool). cond b (revised job steps d) (reasked job steps d)) (two-not-three (key_count d) (and-left _ _ is.shape)) ∙ weight-read job d steps w is

pub steps-read : (job : ℕ) (ds : List Data) (steps more : List Step) → SaySteps ds more → Within (steps ++ more) → all_stepped job steps ds ≡ Ok (steps ++ more)
steps-read job [] steps [] is within = ap (λ (xs : List Step). Ok xs) (sym (append-nil steps))
steps-read job [] steps (step ∷ more) is within = absurd is
steps-read job (d ∷ ds) steps [] is within = absurd is
steps-read job (d ∷ ds) steps (step ∷ more) is within =
    let all : (steps ++ step ∷ []) ++ more ≡ steps ++ step ∷ more = append_assoc steps (step ∷ []) more in
    ap (λ (x : Result (List Step) JsonFault). x >>= λ next. all_stepped job next ds) (step-read job d steps more step is.0 within)
    ∙ steps-read job ds (steps ++ step ∷ []) more is.1 (rw all within)
    ∙ ap (λ (xs : List Step). Ok xs) all

-- ---- how many revisions there are

pub counted : (ds : List Data) (steps : List Step) → SaySteps ds steps → count_by is_revision ds ≡ length (revisions_in steps)
counted [] [] is = refl
counted [] (step ∷ steps) is = absurd is
counted (d ∷ ds) [] is = absurd is
counted (d ∷ ds) (Revise r ∷ steps) is =
    let all : count_by is_revision (d ∷ ds) ≡ 1 + length (revisions_in steps) =
    sum_by-cons (λ (x : Data). cond (is_revision x) 1 0) d ds
    ∙ ap₂ (λ (b : Bool) (n : ℕ). cond b 1 0 + n) (and-left _ _ is.0.shape) (counted ds steps is.1) in
    omega arith
counted (d ∷ ds) (Reask w ∷ steps) is =
    let all : count_by is_revision (d ∷ ds) ≡ 0 + length (revisions_in steps) =
    sum_by-cons (λ (x : Data). cond (is_revision x) 1 0) d ds
    ∙ ap₂ (λ (b : Bool) (n : ℕ). cond b 1 0 + n) (two-not-three (key_count d) (and-left _ _ is.0.shape)) (counted ds steps is.1) in
    omega arith
