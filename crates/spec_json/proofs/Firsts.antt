-- Nothing after the first faulty job counts.
use Rattle.std.proofs.Common.{◌≡◌, List, [], ◌∷◌, ◌++◌, Result, Ok, Err, refl, ap, ◌∙◌}
use Rattle.mal_base.specs.declared.limits.Limits.{Limits}
use Rattle.spec_dimacs.specs.Reading.{◌>>=◌}
use Rattle.spec_script.specs.Script.{ScriptedJob}
use Rattle.serde_json.specs.Data.{Data}
use Rattle.spec_json.specs.Reading.{with_job, with_jobs}
use Rattle.spec_json.specs.Laws.{FaultIsFirst}
use Rattle.spec_json.specs.declared.fault.JsonFault.{JsonFault}

-- the same after jobs
record IsFirstBehind (limits : Limits) (jobs : List ScriptedJob) (ds : List Data) (fault : JsonFault) : Type 0 where
  front : List Data
  faulty : Data
  behind : List Data
  read : List ScriptedJob
  parts : ds ≡ front ++ faulty ∷ behind
  before : with_jobs limits jobs front ≡ Ok read
  own : with_job limits read faulty ≡ Err fault

err-is : {A B : Type 0} (r : Result A JsonFault) (f : A → Result B JsonFault) (x fault : JsonFault) → (Err x >>= f) ≡ Err fault → x ≡ fault
err-is r f x fault e = cc

first-behind : (limits : Limits) (jobs : List ScriptedJob) (ds : List Data) (fault : JsonFault) → with_jobs limits jobs ds ≡ Err fault → IsFirstBehind limits jobs ds fault
first-behind limits jobs [] fault e = absurd (cc)
first-behind limits jobs (d ∷ ds) fault e = by_answer (λ after h. first-behind limits after ds fault h) (with_job limits jobs d) refl e
  where
    by_answer : ((after : List ScriptedJob) → with_jobs limits after ds ≡ Err fault → IsFirstBehind limits after ds fault) → (r : Result (List ScriptedJob) JsonFault) → with_job limits jobs d ≡ r → (r >>= λ after. with_jobs limits after ds) ≡ Err fault → IsFirstBehind limits jobs (d ∷ ds) fault
    by_answer ih (Ok after) q h =
        let is = ih after h in
        record {
          front = d ∷ is.front;
          faulty = is.faulty;
          behind = is.behind;
          read = is.read;
          parts = ap (λ (xs : List Data). d ∷ xs) is.parts;
          before = ap (λ (r : Result (List ScriptedJob) JsonFault). r >>= λ next. with_jobs limits next is.front) q ∙ is.before;
          own = is.own;
        }
    by_answer ih (Err x) q h =
        let same : x ≡ fault = cc in
        record { front = []; faulty = d; behind = ds; read = jobs; parts = refl; before = refl; own = q ∙ ap (λ (y : JsonFault). Err y) same }

-- what is read of a front goes on after it
goes-on : (limits : Limits) (front others : List Data) (jobs read : List ScriptedJob) → with_jobs limits jobs front ≡ Ok read → with_jobs limits jobs (front ++ others) ≡ with_jobs limits read others
goes-on limits [] others jobs read e = let same : jobs ≡ read = cc in ap (λ (js : List ScriptedJob). with_jobs limits js others) same
goes-on limits (d ∷ front) others jobs read e = by_answer (λ after h. goes-on limits front others after read h) (with_job limits jobs d) e
  where
    by_answer : ((after : List ScriptedJob) → with_jobs limits after front ≡ Ok read → with_jobs limits after (front ++ others) ≡ with_jobs limits read others) → (r : Result (List ScriptedJob) JsonFault) → (r >>= λ after. with_jobs limits after front) ≡ Ok read
        → (r >>= λ after. with_jobs limits after (front ++ others)) ≡ with_jobs limits read others
    by_answer ih (Ok after) h = ih after h
    by_answer ih (Err x) h = absurd (cc)

pub fault_is_first : FaultIsFirst
fault_is_first limits ds fault e =
    let is = first-behind limits [] ds fault e in
    record {
      front = is.front;
      faulty = is.faulty;
      behind = is.behind;
      jobs = is.read;
      parts = is.parts;
      before = is.before;
      first = λ others. goes-on limits is.front (is.faulty ∷ others) [] is.read is.before
          ∙ ap (λ (r : Result (List ScriptedJob) JsonFault). r >>= λ after. with_jobs limits after others) is.own;
    }
