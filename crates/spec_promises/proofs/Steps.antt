-- Nothing after the first faulty step of a job counts.
use Rattle.std.proofs.Common.{◌≡◌, ℕ, ◌+◌, List, [], ◌∷◌, ◌++◌, length, Result, Ok, Err, refl, ap, ◌∙◌}
use Rattle.mal_base.specs.Asks.{Terms}
use Rattle.spec_dimacs.specs.Reading.{◌>>=◌}
use Rattle.spec_script.specs.Script.{ScriptedJob}
use Rattle.spec_script.specs.declared.step.Step.{Step}
use Rattle.serde_json.specs.Data.{Data}
use Rattle.spec_json.specs.Reading.{all_stepped, job_of, stepped, with_steps}
use Rattle.spec_json.specs.Shape.{steps_in}
use Rattle.spec_json.specs.declared.fault.JsonFault.{JsonFault}
use Rattle.spec_promises.specs.Steps.{StepFaultIsFirst}

-- the first faulty value after steps
record IsFirstAfter (job : ℕ) (steps : List Step) (ds : List Data) (fault : JsonFault) : Type 0 where
  front : List Data
  faulty : Data
  after : List Data
  read : List Step
  parts : ds ≡ front ++ faulty ∷ after
  before : all_stepped job steps front ≡ Ok read
  own : stepped job read faulty ≡ Err fault

first-after : (job : ℕ) (steps : List Step) (ds : List Data) (fault : JsonFault) → all_stepped job steps ds ≡ Err fault → IsFirstAfter job steps ds fault
first-after job steps [] fault e = absurd (cc)
first-after job steps (d ∷ ds) fault e = by_answer (λ more h. first-after job more ds fault h) (stepped job steps d) refl e
  where
    by_answer : ((more : List Step) → all_stepped job more ds ≡ Err fault → IsFirstAfter job more ds fault) → (r : Result (List Step) JsonFault) → stepped job steps d ≡ r → (r >>= λ more. all_stepped job more ds) ≡ Err fault → IsFirstAfter job steps (d ∷ ds) fault
    by_answer rest (Ok more) q h =
        let is = rest more h in
        record {
          front = d ∷ is.front;
          faulty = is.faulty;
          after = is.after;
          read = is.read;
          parts = ap (λ (xs : List Data). d ∷ xs) is.parts;
          before = ap (λ (r : Result (List Step) JsonFault). r >>= λ next. all_stepped job next is.front) q ∙ is.before;
          own = is.own;
        }
    by_answer rest (Err x) q h =
        let same : x ≡ fault = cc in
        record { front = []; faulty = d; after = ds; read = steps; parts = refl; before = refl; own = q ∙ ap (λ (y : JsonFault). Err y) same }

-- what is read of a front goes on after it
goes-on : (job : ℕ) (front others : List Data) (steps read : List Step) → all_stepped job steps front ≡ Ok read → all_stepped job steps (front ++ others) ≡ all_stepped job read others
goes-on job [] others steps read e = let same : steps ≡ read = cc in ap (λ (ss : List Step). all_stepped job ss others) same
goes-on job (d ∷ front) others steps read e = by_answer (λ more h. goes-on job front others more read h) (stepped job steps d) e
  where
    by_answer : ((more : List Step) → all_stepped job more front ≡ Ok read → all_stepped job more (front ++ others) ≡ all_stepped job read others) → (r : Result (List Step) JsonFault) → (r >>= λ more. all_stepped job more front) ≡ Ok read
        → (r >>= λ more. all_stepped job more (front ++ others)) ≡ all_stepped job read others
    by_answer rest (Ok more) h = rest more h
    by_answer rest (Err x) h = absurd (cc)

-- a job has the fault of its steps
steps-fault : (jobs : List ScriptedJob) (d : Data) (ask : Terms) (fault : JsonFault) → with_steps jobs d ask ≡ Err fault → all_stepped (length jobs + 1) [] (steps_in d) ≡ Err fault
steps-fault jobs d ask fault e = by_answer (all_stepped (length jobs + 1) [] (steps_in d)) e
  where
    by_answer : (r : Result (List Step) JsonFault) → (r >>= λ steps. Ok (jobs ++ job_of d ask steps ∷ [])) ≡ Err fault → r ≡ Err fault
    by_answer (Ok steps) h = absurd (cc)
    by_answer (Err x) h = let same : x ≡ fault = cc in ap (λ (y : JsonFault). Err y) same

pub step_fault_is_first : StepFaultIsFirst
step_fault_is_first jobs d ask fault e =
    let job : ℕ = length jobs + 1 in
    let is = first-after job [] (steps_in d) fault (steps-fault jobs d ask fault e) in
    record {
      front = is.front;
      faulty = is.faulty;
      after = is.after;
      steps = is.read;
      parts = is.parts;
      before = is.before;
      first = λ x terms others q.
          ap (λ (ds : List Data). all_stepped job [] ds >>= λ steps. Ok (jobs ++ job_of x terms steps ∷ [])) q
          ∙ (ap (λ (r : Result (List Step) JsonFault). r >>= λ steps. Ok (jobs ++ job_of x terms steps ∷ [])) (goes-on job is.front (is.faulty ∷ others) [] is.read is.before)
          ∙ ap (λ (r : Result (List Step) JsonFault). (r >>= λ more. all_stepped job more others) >>= λ steps. Ok (jobs ++ job_of x terms steps ∷ [])) is.own);
    }
