-- A text spells a script exactly where reading gives it.
use Rattle.std.proofs.Common.{◌≡◌, ℕ, ◌+◌, ◌≤◌, Bool, true, false, cond, ◌&&◌, ◌==◌, is_some, List, [], ◌∷◌, ◌++◌, codes, length, ℤ, pos, not, Option, Some, None, Result, Ok, refl, sym, ap, ap₂, ◌∙◌, arith, append_assoc, append-nil}
use Rattle.std.specs.Prelude.{unwrap_or}
use Rattle.std.specs.List.{count_by, list_all}
use Rattle.std.specs.Option.{option_map_or}
use Rattle.std.proofs.lemmas.Grind.{fold-append}
use Rattle.mal_base.specs.declared.limits.Limits.{Limits}
use Rattle.mal_base.specs.Asks.{IsAsk, Terms, ask_of_numbers}
use Rattle.mal_base.specs.Names.{is_name}
use Rattle.mal_base.proofs.Asked.{ask-again, numbers-of}
use Rattle.mal_base.proofs.Sorting.{and-left, and-right}
use Rattle.spec_dimacs.specs.Reading.{◌>>=◌}
use Rattle.spec_script.specs.Script.{ScriptedJob, Scripted, revisions, revisions_in}
use Rattle.spec_script.specs.declared.step.Step.{Step}
use Rattle.spec_script.specs.Reading.{has_room}
use Rattle.spec_script.specs.Formed.{IsJob, MayFollow, MayAllFollow, tenants_of, with_name}
use Rattle.spec_script.proofs.Inversions.{bind_ok, not_refused, ok_is}
use Rattle.spec_script.proofs.Again.{written-read}
use Rattle.serde_json.specs.Data.{Data, null, boolean, number, string, array, object}
use Rattle.serde_json.specs.Find.{get}
use Rattle.spec_json.specs.Shape.{at, has, is_document_shape, has_ask_shape, has_job_frame, is_job_shape, is_list, is_list_of, is_name_text, is_revision, is_step_shape, items_in, jobs_in, json_in, key_count, steps_in, text_in, whole_in}
use Rattle.spec_json.specs.Numbers.{ask_in, profile_in}
use Rattle.spec_json.specs.Reading.{admitted, all_stepped, asked, job_of, of_jobs, read_json, read_text, with_job, with_jobs}
use Rattle.spec_json.specs.Grammar.{SaysAsk, SaysJob, SayJobs, SaySteps, Spells}
use Rattle.spec_json.specs.Laws.{SpelledIsRead, SpelledIsReadAgain, SpelledIsScript}
use Rattle.spec_json.specs.declared.fault.JsonFault.{JsonFault}
use Rattle.spec_json.proofs.Numbering.{low-test, not-above}
use Rattle.spec_json.proofs.Steps.{Low, More, none-low, steps-said}
use Rattle.spec_json.proofs.StepsRead.{counted, goes, holds, steps-read}

-- ---- the parts of a job

-- a name under a key
named : (o : Option Data) → option_map_or is_name_text o false ≡ true → (o ≡ Some (string (text_in (unwrap_or o null)))) × (is_name (text_in (unwrap_or o null)) ≡ true)
named None h = absurd (cc)
named (Some null) h = absurd (cc)
named (Some (boolean b)) h = absurd (cc)
named (Some (number n)) h = absurd (cc)
named (Some (string s)) h = (refl, h)
named (Some (array ds)) h = absurd (cc)
named (Some (object ms)) h = absurd (cc)

-- a list under a key
listed : (test : Data → Bool) (o : Option Data) → option_map_or (is_list_of test) o false ≡ true → list_all test (items_in (unwrap_or o null)) ≡ true
listed test None h = absurd (cc)
listed test (Some d) h = and-right (is_list d) _ h

-- the ask that a value says
record HasAsk (d : Data) (ask : Terms) : Type 0 where
  says : SaysAsk d ask
  form : IsAsk ask

ask-said : (d : Data) (ask : Terms) → ask_in d ≡ Some ask → HasAsk d ask
ask-said d ask e =
    let of = numbers-of (whole_in (at (codes "priority") d)) (whole_in (at (codes "demand") d)) (whole_in (at (codes "slices") d)) (profile_in d) ask e in
    record { says = record { priority = of.0.priority; demand = of.0.demand; slices = of.0.slices; profile = of.1 }; form = of.0.formed }

ask-read : (d : Data) (ask : Terms) → SaysAsk d ask → IsAsk ask → ask_in d ≡ Some ask
ask-read d ask is form =
    ap₂ (λ (p q : ℤ). ask_of_numbers p q (whole_in (at (codes "slices") d)) (profile_in d)) is.priority is.demand
    ∙ ap₂ (λ (s q : ℤ). ask_of_numbers (pos ask.priority) (pos ask.demand) s q) is.slices is.profile
    ∙ ask-again ask form

-- the tenants of jobs with one more
tenants-more : (jobs : List ScriptedJob) (j : ScriptedJob) → with_name (tenants_of jobs) j.tenant ≡ tenants_of (jobs ++ j ∷ [])
tenants-more jobs j = sym (fold-append (λ (names : List (List ℕ)) (i : ScriptedJob). with_name names i.tenant) [] jobs (j ∷ []))

-- ---- what is read of a job, it says

record OneJob (limits : Limits) (jobs : List ScriptedJob) (d : Data) (after : List ScriptedJob) : Type 0 where
  job : ScriptedJob
  parts : after ≡ jobs ++ job ∷ []
  says : SaysJob d job
  follows : MayFollow limits jobs job

-- the shapes of the parts of a job
record HasParts (d : Data) : Type 0 where
  tenant : has is_name_text (codes "tenant") d ≡ true
  name : has is_name_text (codes "name") d ≡ true
  steps : has (is_list_of is_step_shape) (codes "steps") d ≡ true

parts-of : (d : Data) → is_job_shape d ≡ true → HasParts d
parts-of d h =
    let frame : has_job_frame d ≡ true = and-left _ _ h in
    let names : (has is_name_text (codes "tenant") d && has is_name_text (codes "name") d) ≡ true = and-right (has_job_frame d) _ h in
    let both : (has_ask_shape d && has (is_list_of is_step_shape) (codes "steps") d) ≡ true = and-right (key_count d == cond (is_some (get (codes "profile") d)) 7 6) _ frame in
    record { tenant = and-left _ _ names; name = and-right (has is_name_text (codes "tenant") d) _ names; steps = and-right (has_ask_shape d) _ both }

not-true : (b : Bool) → not b ≡ false → b ≡ true
not-true true h = refl
not-true false h = absurd (cc)

admitted-said : (limits : Limits) (jobs : List ScriptedJob) (d : Data) (ask : Terms) (after : List ScriptedJob) → is_job_shape d ≡ true → HasAsk d ask → asked limits jobs d (Some ask) ≡ Ok after → OneJob limits jobs d after
admitted-said limits jobs d ask after shape has-ask e =
    let tenants = not_refused _ _ _ after e in
    let new = not_refused _ _ _ after tenants.1 in
    let room = not_refused _ _ _ after new.1 in
    let few = not_refused _ _ _ after room.1 in
    let read = bind_ok (all_stepped (length jobs + 1) [] (steps_in d)) (λ (steps : List Step). Ok (jobs ++ job_of d ask steps ∷ [])) after few.1 in
    let has : HasParts d = parts-of d shape in
    let tenant = named (get (codes "tenant") d) has.tenant in
    let name = named (get (codes "name") d) has.name in
    let said : More (steps_in d) [] read.0 = steps-said (length jobs + 1) (steps_in d) [] read.0 (listed is_step_shape (get (codes "steps") d) has.steps) none-low read.1 in
    let say : SaySteps (steps_in d) read.0 = rw said.parts said.say in
    let count : count_by is_revision (steps_in d) ≡ length (revisions_in read.0) = counted (steps_in d) read.0 say in
    let fits : count_by is_revision (steps_in d) ≤ limits.revisions = not-above limits.revisions _ few.0 in
    let low : Low read.0 = said.low in
    let form : IsJob limits (job_of d ask read.0) = record { tenant = tenant.1; name = name.1; ask = has-ask.form; few = omega arith; formed = low.formed; clauses = low.clauses; literals = low.literals } in
    let bound : length (with_name (tenants_of jobs) (text_in (at (codes "tenant") d))) ≤ limits.tenants = not-above limits.tenants _ tenants.0 in
    record {
      job = job_of d ask read.0;
      parts = sym (ok_is _ _ read.2);
      says = record { shape = shape; tenant = tenant.0; name = name.0; ask = has-ask.says; steps = say };
      follows = record { formed = form; new = new.0; room = not-true _ room.0; tenants = rw (sym (tenants-more jobs (job_of d ask read.0))) bound };
    }

job-said : (limits : Limits) (jobs : List ScriptedJob) (d : Data) (after : List ScriptedJob) → with_job limits jobs d ≡ Ok after → OneJob limits jobs d after
job-said limits jobs d after e =
    let a = not_refused _ _ _ after e in
    by_ask (not-true _ a.0) (ask_in d) refl a.1
  where
    by_ask : is_job_shape d ≡ true → (o : Option Terms) → ask_in d ≡ o → asked limits jobs d o ≡ Ok after → OneJob limits jobs d after
    by_ask shape None q h = absurd (cc)
    by_ask shape (Some ask) q h = admitted-said limits jobs d ask after shape (ask-said d ask q) h

record MoreJobs (limits : Limits) (jobs : List ScriptedJob) (ds : List Data) (after : List ScriptedJob) : Type 0 where
  more : List ScriptedJob
  parts : after ≡ jobs ++ more
  say : SayJobs limits jobs ds more

jobs-said : (limits : Limits) (jobs : List ScriptedJob) (ds : List Data) (after : List ScriptedJob) → with_jobs limits jobs ds ≡ Ok after → MoreJobs limits jobs ds after
jobs-said limits jobs [] after e = record { more = []; parts = sym (ok_is _ _ e) ∙ sym (append-nil jobs); say = tt }
jobs-said limits jobs (d ∷ ds) after e =
    let a = bind_ok (with_job limits jobs d) (λ next. with_jobs limits next ds) after e in
    let one : OneJob limits jobs d a.0 = job-said limits jobs d a.0 a.1 in
    let rest : MoreJobs limits (jobs ++ one.job ∷ []) ds after = jobs-said limits (jobs ++ one.job ∷ []) ds after (rw (sym one.parts) a.2) in
    record {
      more = one.job ∷ rest.more;
      parts = rest.parts ∙ append_assoc jobs (one.job ∷ []) rest.more;
      say = (one.says, one.follows, rest.say);
    }

-- ---- what values say is read

abbrev a_job : List ℕ → List ℕ → Terms → List Step → ScriptedJob
a_job tenant name ask steps = record { tenant = tenant; name = name; ask = ask; steps = steps }

job-own : (d : Data) (j : ScriptedJob) → SaysJob d j → job_of d j.ask j.steps ≡ j
job-own d j is = ap₂ (λ (t n : Option Data). a_job (text_in (unwrap_or t null)) (text_in (unwrap_or n null)) j.ask j.steps) is.tenant is.name

job-read : (limits : Limits) (jobs : List ScriptedJob) (d : Data) (j : ScriptedJob) → SaysJob d j → MayFollow limits jobs j → with_job limits jobs d ≡ Ok (jobs ++ j ∷ [])
job-read limits jobs d j is may =
    let form : IsJob limits j = may.formed in
    let tenants : length (with_name (tenants_of jobs) j.tenant) ≤ limits.tenants = rw (tenants-more jobs j) may.tenants in
    let count : count_by is_revision (steps_in d) ≡ length (revisions j) = counted (steps_in d) j.steps is.steps in
    let few : length (revisions j) ≤ limits.revisions = form.few in
    let bound : count_by is_revision (steps_in d) ≤ limits.revisions = omega arith in
    goes _ _ _ (holds (is_job_shape d) is.shape)
    ∙ ap (λ (o : Option Terms). asked limits jobs d o) (ask-read d j.ask is.ask form.ask)
    ∙ ap₂ (λ (t n : Option Data). admitted limits jobs (text_in (unwrap_or t null)) (text_in (unwrap_or n null)) d j.ask) is.tenant is.name
    ∙ goes _ _ _ (low-test limits.tenants _ tenants)
    ∙ goes _ _ _ may.new
    ∙ goes _ _ _ (holds (has_room limits j.tenant jobs) may.room)
    ∙ goes _ _ _ (low-test limits.revisions _ bound)
    ∙ ap (λ (x : Result (List Step) JsonFault). x >>= λ steps. Ok (jobs ++ job_of d j.ask steps ∷ [])) (steps-read (length jobs + 1) (steps_in d) [] j.steps is.steps (record { clauses = form.clauses; literals = form.literals }))
    ∙ ap (λ (i : ScriptedJob). Ok (jobs ++ i ∷ [])) (job-own d j is)

jobs-read : (limits : Limits) (jobs : List ScriptedJob) (ds : List Data) (more : List ScriptedJob) → SayJobs limits jobs ds more → with_jobs limits jobs ds ≡ Ok (jobs ++ more)
jobs-read limits jobs [] [] is = ap (λ (xs : List ScriptedJob). Ok xs) (sym (append-nil jobs))
jobs-read limits jobs [] (j ∷ js) is = absurd is
jobs-read limits jobs (d ∷ ds) [] is = absurd is
jobs-read limits jobs (d ∷ ds) (j ∷ js) is =
    ap (λ (x : Result (List ScriptedJob) JsonFault). x >>= λ next. with_jobs limits next ds) (job-read limits jobs d j is.0 is.1)
    ∙ jobs-read limits (jobs ++ j ∷ []) ds js is.2
    ∙ ap (λ (xs : List ScriptedJob). Ok xs) (append_assoc jobs (j ∷ []) js)

-- ---- a text

read-spelled : (limits : Limits) (text : List ℕ) (s : Scripted) → read_text limits text ≡ Ok s → Spells limits text s
read-spelled limits text s e =
    let a = bind_ok (read_json limits (json_in text)) (λ (jobs : List ScriptedJob). Ok (of_jobs jobs)) s e in
    by_value (json_in text) refl a.0 a.1 (ok_is _ _ a.2)
  where
    by_value : (o : Option Data) → json_in text ≡ o → (jobs : List ScriptedJob) → read_json limits o ≡ Ok jobs → of_jobs jobs ≡ s → Spells limits text s
    by_value None q jobs h same = absurd (cc)
    by_value (Some d) q jobs h same =
        let a = not_refused _ _ _ jobs h in
        let is : MoreJobs limits [] (jobs_in d) jobs = jobs-said limits [] (jobs_in d) jobs a.1 in
        let own : is.more ≡ s.jobs = sym is.parts ∙ ap (λ (x : Scripted). x.jobs) same in
        record { document = d; is_json = q; shape = not-true _ a.0; jobs = rw (sym own) is.say }

spelled-read : (limits : Limits) (text : List ℕ) (s : Scripted) → Spells limits text s → read_text limits text ≡ Ok s
spelled-read limits text s is =
    ap (λ (o : Option Data). read_json limits o >>= λ jobs. Ok (of_jobs jobs)) is.is_json
    ∙ ap (λ (x : Result (List ScriptedJob) JsonFault). x >>= λ jobs. Ok (of_jobs jobs)) (goes _ _ _ (holds (is_document_shape is.document) is.shape) ∙ jobs-read limits [] (jobs_in is.document) s.jobs is.jobs)

pub spelled-is-read : SpelledIsRead
spelled-is-read limits text s = (spelled-read limits text s, read-spelled limits text s)

-- ---- a script in form

all-follow : (limits : Limits) (jobs : List ScriptedJob) (ds : List Data) (js : List ScriptedJob) → SayJobs limits jobs ds js → MayAllFollow limits jobs js
all-follow limits jobs [] [] is = tt
all-follow limits jobs [] (j ∷ js) is = absurd is
all-follow limits jobs (d ∷ ds) [] is = absurd is
all-follow limits jobs (d ∷ ds) (j ∷ js) is = (is.1, all-follow limits (jobs ++ j ∷ []) ds js is.2)

pub spelled-is-script : SpelledIsScript
spelled-is-script limits text s is = all-follow limits [] (jobs_in is.document) s.jobs is.jobs

pub spelled-is-read-again : SpelledIsReadAgain
spelled-is-read-again limits text s is = written-read limits s (spelled-is-script limits text s is)
