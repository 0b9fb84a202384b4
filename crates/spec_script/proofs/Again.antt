-- A script in form is spelled by the text that it is written as.
use Rattle.std.proofs.Common.{◌≡◌, ℕ, ◌+◌, ◌<◌, ◌≤◌, ◌^◌, Bool, true, false, cond, ◌==◌, ◌&&◌, List, [], ◌∷◌, ◌++◌, map, length, codes, nat_le, Option, Some, None, Result, Ok, Err, refl, sym, ap, ap₂, ◌∙◌, ◌⊎◌, inl, inr, subst, arith, append_assoc, append-nil, length-append}
use Rattle.std.specs.List.{list_all, list_any}
use Rattle.std.specs.Str.{bytes_eq}
use Rattle.std.proofs.lemmas.Bool.{leb-true}
use Rattle.std.proofs.lemmas.Bool.Decides.{nat_tests}
use Rattle.std.proofs.lemmas.Grind.{flat_map-append}
use Rattle.std.proofs.lemmas.List.Sums.{sum_by-cons, fold-append}
use Rattle.mal_base.specs.Limits.{limits}
use Rattle.mal_base.specs.Asks.{Terms, IsAsk, Weighed}
use Rattle.mal_base.specs.Formulas.{Formulated, is_within, is_clause_of, is_within_limits, is_formula, literals_of}
use Rattle.mal_base.specs.Clauses.{rises}
use Rattle.mal_base.proofs.Sorting.{and-left, and-right}
use Rattle.mal_revision.specs.Posted.{Posted, is_posted}
use Rattle.mal_base.specs.Profiles.{number, last_profile}
use Rattle.mal_base.specs.declared.profile.Profile.{Profile}
use Rattle.spec_text.specs.Asks.{is_first, profile_words}
use Rattle.spec_text.specs.Numbers.{decimal_word}
use Rattle.spec_text.proofs.Numerals.{is_numeral-decimal, value_of-decimal}
use Rattle.mal_base.specs.declared.block_fault.BlockFault.{BlockFault}
use Rattle.mal_base.specs.declared.block_fault.BlockFault.TheVariants.{BadHeader}
use Rattle.spec_dimacs.specs.Rows as rows
use Rattle.spec_dimacs.specs.Reading.{Block, ◌>>=◌, opened, after_rows, ended}
use Rattle.spec_dimacs.specs.Written as formula
use Rattle.spec_dimacs.specs.Written.{clause_words, header_words, formula_rows}
use Rattle.spec_dimacs.proofs.Behind.{Leads, whole_leads}
use Rattle.spec_dimacs.proofs.Again.{written_rows}
use Rattle.spec_dimacs.proofs.Laws.{written_is_read}
use Rattle.mal_base.specs.declared.limits.Limits.{Limits}
use Rattle.spec_script.specs.Script.{ScriptedJob, revisions, revisions_at, revisions_in, rows_of, spelling}
use Rattle.spec_script.specs.declared.step.Step.{Step}
use Rattle.spec_script.specs.declared.step.Step.TheVariants.{Revise, Reask}
use Rattle.spec_script.specs.Reading.{OpenJob, Reading, begun, with_revision, with_weight}
use Rattle.spec_text.proofs.Asked.{first-is, number-bound, some-number}
use Rattle.spec_script.specs.Formed.{with_name, tenants_of, clauses_of, clause_literals, is_up_to, is_weight, is_step, IsJob, MayFollow, MayAllFollow}
use Rattle.spec_script.specs.Grammar.{Asks, SayProfile, SaysUpTo, formula_of, Reasks, Revises, StepAll, Runs, MakeAll}
use Rattle.spec_script.specs.Laws.{WrittenIsSpelled, WrittenIsRead}
use Rattle.spec_script.proofs.Assumed.{assumptions-again}
use Rattle.spec_script.proofs.Words.{room-admits}
use Rattle.spec_script.proofs.Reading.{spelled-read}
use Rattle.spec_script.proofs.Written.{text-rows, jobs-stand, revision-formula, few-variables, lines_of, step_lines_of, job_lines_of, parts_of, parts-lines, clauses-inside}

-- ---- a block

abbrev formula_in : Posted → Formulated
formula_in r = record { variables = r.variables; clauses = r.clauses }

-- the lines of a formula in form lead to it
written-leads : (f : Formulated) → is_formula f ≡ true → Leads (formula_rows f) f
written-leads f h =
    let forms : list_all (is_clause_of f.variables) f.clauses ≡ true = and-right (is_within_limits f.variables f.clauses) _ h in
    let low : f.variables ≤ limits.variables = few-variables f.variables f.clauses (and-left _ _ h) in
    subst (λ (rs : List (List (List ℕ))). Leads rs f)
    (written_rows f low forms ∙ ap (λ (rs : List (List (List ℕ))). header_words f.variables (length f.clauses) ∷ rs) (append-nil (map clause_words f.clauses)))
    (whole_leads (rows.rows_of (formula.spelling f)) 0 f (written_is_read f h))

-- the formula of a header and of the lines after it
block_read : List (List (List ℕ)) → Result Formulated BlockFault
block_read [] = Err BadHeader
block_read (header ∷ body) = opened header >>= λ b. after_rows body b >>= ended

leads-read : (lines : List (List (List ℕ))) (f : Formulated) → Leads lines f → block_read lines ≡ Ok f
unfolding block_read
leads-read lines f is =
    ap block_read is.halves
    ∙ ap (λ (r : Result Block BlockFault). r >>= λ b. after_rows is.others b >>= ended) is.opens
    ∙ ap (λ (r : Result Block BlockFault). r >>= ended) is.rest.reads
    ∙ is.rest.ends

-- a block whose lines lead to a formula gives it
pub block-reads : (header : List (List ℕ)) (body : List (List (List ℕ))) (f : Formulated) → Leads ((codes "p" ∷ header) ∷ body) f → formula_of header body ≡ Ok f
unfolding block_read
block-reads header body f is = leads-read ((codes "p" ∷ header) ∷ body) f is

block-again : (r : Posted) → is_formula (formula_in r) ≡ true → formula_of (lines_of r).header (lines_of r).body ≡ Ok (formula_in r)
block-again r h = block-reads (lines_of r).header (lines_of r).body (formula_in r) (written-leads (formula_in r) h)

-- ---- a revision

revises : (most : Limits) (o : OpenJob) (r : Posted) → is_posted r ≡ true → length (revisions o.job) < most.revisions → o.clauses + length r.clauses ≤ limits.clauses → o.literals + literals_of r.clauses ≤ limits.literals → Revises most o (lines_of r) (with_revision o (formula_in r) r.assumptions)
revises most o r h room few little =
    let form : is_formula (formula_in r) ≡ true = revision-formula r h in
    let low : r.variables ≤ limits.variables = few-variables r.variables r.clauses (and-left _ _ form) in
    let forms : list_all (is_clause_of r.variables) r.clauses ≡ true = and-right (is_within_limits r.variables r.clauses) _ form in
    let assumptions : (rises r.assumptions && is_within r.variables r.assumptions) ≡ true = and-right (is_within_limits r.variables r.clauses && list_all (is_clause_of r.variables) r.clauses) _ h in
    record {
      formula = formula_in r;
      assumptions = r.assumptions;
      room = room;
      inside = clauses-inside r.variables r.clauses low forms;
      spelled = block-again r form;
      assumed = assumptions-again r.variables r.assumptions low (and-left _ _ assumptions) (and-right (rises r.assumptions) _ assumptions);
      fits = record { clauses = few; literals = little };
      revised = refl;
    }

-- ---- a priority and a demand

number-again : (n max : ℕ) → 1 ≤ n → n ≤ max → max < 2 ^ 63 → SaysUpTo max (decimal_word n) n
number-again n max some low bound =
    let short : n < 2 ^ 64 = omega arith in
    ((is_numeral-decimal n short, value_of-decimal n short), some, low)

up_to-again : (n max : ℕ) → is_up_to max n ≡ true → max < 2 ^ 63 → SaysUpTo max (decimal_word n) n
up_to-again n max h bound = number-again n max (leb-true 1 n (and-left _ _ h)) (leb-true n max (and-right (nat_le 1 n) _ h)) bound

reasks : (o : OpenJob) (w : Weighed) → is_weight w ≡ true → Reasks o (decimal_word w.priority) (decimal_word w.demand) (with_weight o w)
reasks o w h = record {
  weight = w;
  weighs = record { priority_says = up_to-again w.priority limits.priority (and-left _ _ h) (omega arith); demand_says = up_to-again w.demand limits.demand (and-right (is_up_to limits.priority w.priority) _ h) (omega arith) };
  reasked = refl;
}

-- ---- the steps of a job

-- a job with these steps in place of its own
abbrev with_steps : ScriptedJob → List Step → ScriptedJob
with_steps j steps = record { tenant = j.tenant; name = j.name; ask = j.ask; steps = steps }

-- what the lines of steps make of a job
record Ended (most : Limits) (o : OpenJob) (steps : List Step) : Type 0 where
  ended : OpenJob
  stepped : StepAll most o (map step_lines_of steps) ended
  job : ended.job ≡ with_steps o.job (o.job.steps ++ steps)

step-all : (most : Limits) (steps : List Step) (o : OpenJob) → list_all is_step steps ≡ true → length (revisions o.job) + length (revisions_in steps) ≤ most.revisions → o.clauses + clauses_of (revisions_in steps) ≤ limits.clauses → o.literals + clause_literals (revisions_in steps) ≤ limits.literals → Ended most o steps
step-all most [] o h room few little = record { ended = o; stepped = refl; job = ap (with_steps o.job) (sym (append-nil o.job.steps)) }
step-all most (Revise r ∷ steps) o h room few little =
    let rs : List Posted = revisions_in steps in
    let next : OpenJob = with_revision o (formula_in r) r.assumptions in
    let more : clauses_of (r ∷ rs) ≡ length r.clauses + clauses_of rs = sum_by-cons (λ (r : Posted). length r.clauses) r rs in
    let longer : clause_literals (r ∷ rs) ≡ literals_of r.clauses + clause_literals rs = sum_by-cons (λ (r : Posted). literals_of r.clauses) r rs in
    let one : length (revisions next.job) ≡ length (revisions o.job) + 1 = ap length (flat_map-append revisions_at o.job.steps (Revise r ∷ [])) ∙ length-append (revisions o.job) (r ∷ []) in
    let rest : Ended most next steps = step-all most steps next (and-right (is_step (Revise r)) _ h) (omega arith) (omega arith) (omega arith) in
    record {
      ended = rest.ended;
      stepped = (next, revises most o r (and-left _ _ h) (omega arith) (omega arith) (omega arith), rest.stepped);
      job = rest.job ∙ ap (with_steps o.job) (append_assoc o.job.steps (Revise r ∷ []) steps);
    }
step-all most (Reask w ∷ steps) o h room few little =
    let next : OpenJob = with_weight o w in
    let none : length (revisions next.job) ≡ length (revisions o.job) + 0 = ap length (flat_map-append revisions_at o.job.steps (Reask w ∷ [])) ∙ length-append (revisions o.job) [] in
    let rest : Ended most next steps = step-all most steps next (and-right (is_step (Reask w)) _ h) (omega arith) few little in
    record {
      ended = rest.ended;
      stepped = (next, reasks o w (and-left _ _ h), rest.stepped);
      job = rest.job ∙ ap (with_steps o.job) (append_assoc o.job.steps (Reask w ∷ []) steps);
    }

-- ---- the first lines of a job

abbrev reading : List ScriptedJob → List (List ℕ) → Option (List ℕ) → Reading
reading jobs tenants tenant = record { jobs = jobs; tenants = tenants; tenant = tenant; opened = None }

-- a name is one of these, or there may be one more
named-room : (most : Limits) (names : List (List ℕ)) (name : List ℕ) → length (with_name names name) ≤ most.tenants → (list_any (bytes_eq name) names ≡ true) ⊎ (length names < most.tenants)
named-room most names name few = by_test (list_any (bytes_eq name) names) refl few
  where
    by_test : (b : Bool) → list_any (bytes_eq name) names ≡ b → length (cond b names (names ++ name ∷ [])) ≤ most.tenants → (list_any (bytes_eq name) names ≡ true) ⊎ (length names < most.tenants)
    by_test true q few = inl q
    by_test false q few = let one : length (names ++ name ∷ []) ≡ length names + 1 = length-append names (name ∷ []) in inr (omega arith)

-- the words of a profile say it
profile-again : (p : Profile) → SayProfile (profile_words p) p
profile-again p = by_test (is_first p) refl
  where
    by_test : (b : Bool) → is_first p ≡ b → SayProfile (cond b [] (decimal_word (number p) ∷ [])) p
    by_test true e = first-is p e
    by_test false e = number-again (number p) last_profile (some-number p) (number-bound p) (omega arith)

asked-again : (ask : Terms) → IsAsk ask → Asks (decimal_word ask.priority) (decimal_word ask.demand) (decimal_word ask.slices) (profile_words ask.profile) ask
asked-again ask is = record {
  priority_says = number-again ask.priority limits.priority is.some_priority is.priority_bound (omega arith);
  demand_says = number-again ask.demand limits.demand is.some_demand is.demand_bound (omega arith);
  slices_says = number-again ask.slices limits.slices is.some_slices is.slices_bound (omega arith);
  profile_say = profile-again ask.profile;
}

-- ---- the jobs of a script

tenants-more : (jobs : List ScriptedJob) (j : ScriptedJob) → tenants_of (jobs ++ j ∷ []) ≡ with_name (tenants_of jobs) j.tenant
tenants-more jobs j = fold-append (λ (names : List (List ℕ)) (j : ScriptedJob). with_name names j.tenant) [] jobs (j ∷ [])

runs : (most : Limits) (jobs : List ScriptedJob) (j : ScriptedJob) → MayFollow most jobs j → Runs most (reading jobs (with_name (tenants_of jobs) j.tenant) (Some j.tenant)) (job_lines_of j) (reading (jobs ++ j ∷ []) (tenants_of (jobs ++ j ∷ [])) (Some j.tenant))
runs most jobs j is =
    let form : IsJob most j = is.formed in
    let some : clauses_of (revisions j) ≤ limits.clauses = form.clauses in
    let short : clause_literals (revisions j) ≤ limits.literals = form.literals in
    let few : 0 + clauses_of (revisions j) ≤ limits.clauses = omega arith in
    let little : 0 + clause_literals (revisions j) ≤ limits.literals = omega arith in
    let free : length (revisions j) ≤ most.revisions = form.few in
    let room : 0 + length (revisions j) ≤ most.revisions = omega arith in
    let e : Ended most (begun j.tenant j.name j.ask) j.steps = step-all most j.steps (begun j.tenant j.name j.ask) form.formed room few little in
    record {
      tenant = j.tenant;
      ask = j.ask;
      ended = e.ended;
      owned = refl;
      name = form.name;
      asks = asked-again j.ask form.ask;
      admitted = room-admits most j.tenant j.name jobs is.new is.room;
      stepped = e.stepped;
      left = ap₂ (λ (names : List (List ℕ)) (x : ScriptedJob). reading (jobs ++ x ∷ []) names (Some j.tenant)) (tenants-more jobs j) (sym e.job);
    }

-- what the parts of jobs make of a script
record Made (most : Limits) (jobs : List ScriptedJob) (tenant : Option (List ℕ)) (js : List ScriptedJob) : Type 0 where
  after : Reading
  made : MakeAll most (reading jobs (tenants_of jobs) tenant) (parts_of js) after
  all : jobs ++ js ≡ after.jobs

make-all : (most : Limits) (js jobs : List ScriptedJob) (tenant : Option (List ℕ)) → MayAllFollow most jobs js → Made most jobs tenant js
make-all most [] jobs tenant h = record { after = reading jobs (tenants_of jobs) tenant; made = refl; all = append-nil jobs }
make-all most (j ∷ js) jobs tenant (first, others) =
    let rest : Made most (jobs ++ j ∷ []) (Some j.tenant) js = make-all most js (jobs ++ j ∷ []) (Some j.tenant) others in
    let few : length (with_name (tenants_of jobs) j.tenant) ≤ most.tenants = subst (λ (names : List (List ℕ)). length names ≤ most.tenants) (tenants-more jobs j) first.tenants in
    record {
      after = rest.after;
      made = (reading jobs (with_name (tenants_of jobs) j.tenant) (Some j.tenant), record { formed = first.formed.tenant; room = named-room most (tenants_of jobs) j.tenant few; left = refl }, (reading (jobs ++ j ∷ []) (tenants_of (jobs ++ j ∷ [])) (Some j.tenant), runs most jobs j first, rest.made));
      all = sym (append_assoc jobs (j ∷ []) js) ∙ rest.all;
    }

pub written-spelled : WrittenIsSpelled
unfolding spelling
written-spelled most s h =
    let m : Made most [] None s.jobs = make-all most s.jobs [] None h in
    record {
      parts = parts_of s.jobs;
      after = m.after;
      lines = text-rows (rows_of s) (jobs-stand most [] s.jobs h) ∙ sym (parts-lines s.jobs);
      made = m.made;
      jobs = m.all;
    }

pub written-read : WrittenIsRead
written-read most s h = spelled-read most (spelling s) s (written-spelled most s h)
