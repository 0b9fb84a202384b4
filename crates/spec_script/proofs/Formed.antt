-- What a text spells is a script in form.
use Rattle.std.proofs.Common.{◌≡◌, ℕ, ◌+◌, ◌<◌, ◌≤◌, Bool, true, false, cond, ◌&&◌, List, [], ◌∷◌, ◌++◌, length, codes, Option, Some, None, Ok, refl, sym, ap, ap₂, ◌∙◌, ◌⊎◌, inl, inr, subst, arith, length-append, append-nil, append_assoc}
use Rattle.std.specs.List.{AllByRecursion, list_all, list_any}
use Rattle.std.specs.Str.{bytes_eq}
use Rattle.std.proofs.lemmas.Bool.{le-leb}
use Rattle.std.proofs.lemmas.List.Folds.{list_all-append}
use Rattle.std.proofs.lemmas.List.Sums.{sum_by_push}
use Rattle.std.proofs.lemmas.Grind.{flat_map-append}
use Rattle.mal_base.specs.Limits.{limits}
use Rattle.mal_base.specs.Asks.{Terms, IsAsk, Weighed}
use Rattle.mal_base.specs.Formulas.{Formulated, is_formula, is_within, literals_of}
use Rattle.mal_base.specs.Clauses.{rises}
use Rattle.mal_base.specs.Names.{is_name}
use Rattle.mal_base.proofs.Sorting.{and-left, and-right, and-both}
use Rattle.mal_revision.specs.Posted.{Posted, is_posted}
use Rattle.spec_dimacs.specs.Rows.{is_passed}
use Rattle.spec_dimacs.proofs.Led.{led_formula}
use Rattle.mal_base.specs.declared.limits.Limits.{Limits}
use Rattle.spec_script.specs.Script.{ScriptedJob, revisions, revisions_at, revisions_in}
use Rattle.spec_script.specs.declared.step.Step.TheVariants.{Revise, Reask}
use Rattle.spec_script.specs.Reading.{OpenJob, Reading, unread, named, is_job, has_room, begun, with_revision, with_weight}
use Rattle.spec_script.specs.Formed.{with_name, tenants_of, clauses_of, clause_literals, is_up_to, is_weight, is_step, IsJob, MayFollow, MayAllFollow}
use Rattle.spec_script.specs.Grammar.{StepLines, Revision, Weight, JobLines, Part, Tenant, Job, Asks, Weighs, SaysUpTo, HasRoomFor, Names, is_inside, formula_of, StepAll, Runs, MakeAll}
use Rattle.spec_script.specs.Laws.{SpelledIsScript, SpelledAgain}
use Rattle.spec_script.proofs.Words.{admits-room, asked-formed}
use Rattle.spec_script.proofs.Parsing.{not_true}
use Rattle.spec_script.proofs.AssumedForms.{assumed-formed}
use Rattle.spec_script.proofs.Named.{AreNamed, tenants-few, named-last, named-more, all-named}
use Rattle.spec_script.proofs.Again.{written-read}
use Rattle.spec_script.proofs.Blocks.{block-leads}

-- ---- a revision

all-counted : (body : List (List (List ℕ))) → list_all is_inside body ≡ true → AllByRecursion (λ row. is_passed row ≡ false) body
all-counted [] h = tt
all-counted (row ∷ rows) h = (not_true (is_passed row) (and-left _ _ (and-left _ _ h)), all-counted rows (and-right (is_inside row) _ h))

-- the formula of a block is in form
block-formed : (header : List (List ℕ)) (body : List (List (List ℕ))) (f : Formulated) → list_all is_inside body ≡ true → formula_of header body ≡ Ok f → is_formula f ≡ true
block-formed header body f inside e =
    led_formula ((codes "p" ∷ header) ∷ body) f (refl, all-counted body inside) (block-leads header body f e)

abbrev posted : Formulated → List ℕ → Posted
posted f lits = record { variables = f.variables; clauses = f.clauses; assumptions = lits }

revision-formed : (f : Formulated) (lits : List ℕ) → is_formula f ≡ true → (rises lits && is_within f.variables lits) ≡ true → is_posted (posted f lits) ≡ true
revision-formed f lits form formed = and-both _ _ form formed

-- ---- the steps of a job

-- a job of which some steps are read
record Fits (most : Limits) (tenant name : List ℕ) (ask : Terms) (o : OpenJob) : Type 0 where
  tenant_is : o.job.tenant ≡ tenant
  name_is : o.job.name ≡ name
  ask_is : o.job.ask ≡ ask
  few : length (revisions o.job) ≤ most.revisions
  formed : list_all is_step o.job.steps ≡ true
  clauses : o.clauses ≡ clauses_of (revisions o.job)
  literals : o.literals ≡ clause_literals (revisions o.job)
  few_clauses : o.clauses ≤ limits.clauses
  few_literals : o.literals ≤ limits.literals

-- the revisions of a job with one more after its steps
with-one : (j : ScriptedJob) (r : Posted) → revisions_in (j.steps ++ Revise r ∷ []) ≡ revisions j ++ r ∷ []
with-one j r = flat_map-append revisions_at j.steps (Revise r ∷ [])

fits-more : (most : Limits) (tenant name : List ℕ) (ask : Terms) (o : OpenJob) (f : Formulated) (lits : List ℕ) → Fits most tenant name ask o → length (revisions o.job) < most.revisions → is_posted (posted f lits) ≡ true → HasRoomFor o f → Fits most tenant name ask (with_revision o f lits)
fits-more most tenant name ask o f lits is room form low = record {
  tenant_is = is.tenant_is;
  name_is = is.name_is;
  ask_is = is.ask_is;
  few = let one : length (revisions (with_revision o f lits).job) ≡ length (revisions o.job) + 1 = ap length (with-one o.job (posted f lits)) ∙ length-append (revisions o.job) (posted f lits ∷ []) in omega arith;
  formed = list_all-append is_step o.job.steps (Revise (posted f lits) ∷ []) ∙ and-both _ _ is.formed (and-both _ _ form refl);
  clauses = ap (λ (n : ℕ). n + length f.clauses) is.clauses ∙ sym (ap clauses_of (with-one o.job (posted f lits)) ∙ sum_by_push (λ (r : Posted). length r.clauses) (revisions o.job) (posted f lits));
  literals = ap (λ (n : ℕ). n + literals_of f.clauses) is.literals ∙ sym (ap clause_literals (with-one o.job (posted f lits)) ∙ sum_by_push (λ (r : Posted). literals_of r.clauses) (revisions o.job) (posted f lits));
  few_clauses = low.clauses;
  few_literals = low.literals;
}

-- the revisions of a job with a change of its ask after its steps
with-none : (j : ScriptedJob) (w : Weighed) → revisions_in (j.steps ++ Reask w ∷ []) ≡ revisions j
with-none j w = flat_map-append revisions_at j.steps (Reask w ∷ []) ∙ append-nil (revisions j)

says-up_to : (max : ℕ) (word : List ℕ) (n : ℕ) → SaysUpTo max word n → is_up_to max n ≡ true
says-up_to max word n is = and-both _ _ (le-leb 1 n is.1) (le-leb n max is.2)

weight-formed : (p d : List ℕ) (w : Weighed) → Weighs p d w → is_weight w ≡ true
weight-formed p d w is = and-both _ _ (says-up_to limits.priority p w.priority is.priority_says) (says-up_to limits.demand d w.demand is.demand_says)

fits-weight : (most : Limits) (tenant name : List ℕ) (ask : Terms) (o : OpenJob) (w : Weighed) → Fits most tenant name ask o → is_weight w ≡ true → Fits most tenant name ask (with_weight o w)
fits-weight most tenant name ask o w is form = record {
  tenant_is = is.tenant_is;
  name_is = is.name_is;
  ask_is = is.ask_is;
  few = subst (λ (rs : List Posted). length rs ≤ most.revisions) (sym (with-none o.job w)) is.few;
  formed = list_all-append is_step o.job.steps (Reask w ∷ []) ∙ and-both _ _ is.formed (and-both _ _ form refl);
  clauses = is.clauses ∙ sym (ap clauses_of (with-none o.job w));
  literals = is.literals ∙ sym (ap clause_literals (with-none o.job w));
  few_clauses = is.few_clauses;
  few_literals = is.few_literals;
}

all-fit : (most : Limits) (tenant name : List ℕ) (ask : Terms) (steps : List StepLines) (o after : OpenJob) → Fits most tenant name ask o → StepAll most o steps after → Fits most tenant name ask after
all-fit most tenant name ask [] o after is same = subst (Fits most tenant name ask) same is
all-fit most tenant name ask (Revision r ∷ steps) o after is (next, one, others) =
    let form : is_formula one.formula ≡ true = block-formed r.header r.body one.formula one.inside one.spelled in
    let revision : is_posted (posted one.formula one.assumptions) ≡ true = revision-formed one.formula one.assumptions form (assumed-formed one.formula.variables r.assumed one.assumptions one.assumed) in
    let more : Fits most tenant name ask (with_revision o one.formula one.assumptions) = fits-more most tenant name ask o one.formula one.assumptions is one.room revision one.fits in
    all-fit most tenant name ask steps next after (subst (Fits most tenant name ask) (sym one.revised) more) others
all-fit most tenant name ask (Weight p d ∷ steps) o after is (next, one, others) =
    let more : Fits most tenant name ask (with_weight o one.weight) = fits-weight most tenant name ask o one.weight is (weight-formed p d one.weight one.weighs) in
    all-fit most tenant name ask steps next after (subst (Fits most tenant name ask) (sym one.reasked) more) others

-- ---- the jobs of a script

-- the tenant that was named last has a name, which is among those named
abbrev Owned : Option (List ℕ) → List (List ℕ) → Type 0
Owned None names = Unit {0}
Owned (Some tenant) names = (is_name tenant ≡ true) × (list_any (bytes_eq tenant) names ≡ true)

-- a script of which some lines are read
record Stood (most : Limits) (s : Reading) : Type 0 where
  formed : MayAllFollow most [] s.jobs
  few : length s.tenants ≤ most.tenants
  owners : AreNamed s.tenants s.jobs
  last : Owned s.tenant s.tenants

-- a name is among those with it
among-with : (names : List (List ℕ)) (name : List ℕ) → list_any (bytes_eq name) (with_name names name) ≡ true
among-with names name = by_test (list_any (bytes_eq name) names) refl
  where
    by_test : (a : Bool) → list_any (bytes_eq name) names ≡ a → list_any (bytes_eq name) (cond a names (names ++ name ∷ [])) ≡ true
    by_test true q = q
    by_test false q = named-last names name

owners-with : (names : List (List ℕ)) (name : List ℕ) (jobs : List ScriptedJob) → AreNamed names jobs → AreNamed (with_name names name) jobs
owners-with names name jobs is = by_test (list_any (bytes_eq name) names)
  where
    by_test : (a : Bool) → AreNamed (cond a names (names ++ name ∷ [])) jobs
    by_test true = is
    by_test false = named-more names name jobs is

few-with : (most : Limits) (names : List (List ℕ)) (name : List ℕ) → length names ≤ most.tenants → (list_any (bytes_eq name) names ≡ true) ⊎ (length names < most.tenants) → length (with_name names name) ≤ most.tenants
few-with most names name few room = by_test (list_any (bytes_eq name) names) refl room
  where
    by_test : (a : Bool) → list_any (bytes_eq name) names ≡ a → (list_any (bytes_eq name) names ≡ true) ⊎ (length names < most.tenants) → length (cond a names (names ++ name ∷ [])) ≤ most.tenants
    by_test true q room = few
    by_test false q (inl h) = absurd (cc)
    by_test false q (inr low) = let one : length (names ++ name ∷ []) ≡ length names + 1 = length-append names (name ∷ []) in omega arith

named-stands : (most : Limits) (name : List ℕ) (s next : Reading) → Stood most s → Names most s name next → Stood most next
named-stands most name s next is named =
    subst (Stood most) (sym named.left) (record { formed = is.formed; few = few-with most s.tenants name is.few named.room; owners = owners-with s.tenants name s.jobs is.owners; last = (named.formed, among-with s.tenants name) })

follows-last : (most : Limits) (jobs js : List ScriptedJob) (j : ScriptedJob) → MayAllFollow most jobs js → MayFollow most (jobs ++ js) j → MayAllFollow most jobs (js ++ j ∷ [])
follows-last most jobs [] j h k = (subst (λ (xs : List ScriptedJob). MayFollow most xs j) (append-nil jobs) k, tt)
follows-last most jobs (i ∷ js) j h k = (h.0, follows-last most (jobs ++ i ∷ []) js j h.1 (subst (λ (xs : List ScriptedJob). MayFollow most xs j) (sym (append_assoc jobs (i ∷ []) js)) k))

job-stands : (most : Limits) (s : Reading) (j : JobLines) (next : Reading) → Stood most s → Runs most s j next → Stood most next
job-stands most s j next is run =
    let start : Fits most run.tenant j.name run.ask (begun run.tenant j.name run.ask) = record { tenant_is = refl; name_is = refl; ask_is = refl; few = omega arith; formed = refl; clauses = refl; literals = refl; few_clauses = omega arith; few_literals = omega arith } in
    let fits : Fits most run.tenant j.name run.ask run.ended = all-fit most run.tenant j.name run.ask j.steps (begun run.tenant j.name run.ask) run.ended start run.stepped in
    let owner : (is_name run.tenant ≡ true) × (list_any (bytes_eq run.tenant) s.tenants ≡ true) = subst (λ (t : Option (List ℕ)). Owned t s.tenants) run.owned is.last in
    let own : list_any (bytes_eq run.ended.job.tenant) s.tenants ≡ true = ap (λ (t : List ℕ). list_any (bytes_eq t) s.tenants) fits.tenant_is ∙ owner.1 in
    let owners : AreNamed s.tenants (s.jobs ++ run.ended.job ∷ []) = all-named s.tenants s.jobs run.ended.job is.owners own in
    let all : length (tenants_of (s.jobs ++ run.ended.job ∷ [])) ≤ length s.tenants = tenants-few (s.jobs ++ run.ended.job ∷ []) s.tenants owners in
    let bound : length s.tenants ≤ most.tenants = is.few in
    let form : IsJob most run.ended.job = record {
      tenant = ap is_name fits.tenant_is ∙ owner.0;
      name = ap is_name fits.name_is ∙ run.name;
      ask = subst IsAsk (sym fits.ask_is) (asked-formed j.priority j.demand j.slices j.profile run.ask run.asks);
      few = fits.few;
      formed = fits.formed;
      clauses = subst (λ (n : ℕ). n ≤ limits.clauses) fits.clauses fits.few_clauses;
      literals = subst (λ (n : ℕ). n ≤ limits.literals) fits.literals fits.few_literals;
    } in
    let follows : MayFollow most s.jobs run.ended.job = record {
      formed = form;
      new = ap₂ (λ (t n : List ℕ). list_any (is_job t n) s.jobs) fits.tenant_is fits.name_is ∙ run.admitted.new;
      room = ap (λ (t : List ℕ). has_room most t s.jobs) fits.tenant_is ∙ admits-room most run.tenant j.name s.jobs run.admitted;
      tenants = omega arith;
    } in
    subst (Stood most) (sym run.left) (record { formed = follows-last most [] s.jobs run.ended.job is.formed follows; few = is.few; owners = owners; last = is.last })

all-stand : (most : Limits) (parts : List Part) (s after : Reading) → Stood most s → MakeAll most s parts after → Stood most after
all-stand most [] s after is same = subst (Stood most) same is
all-stand most (Tenant name ∷ parts) s after is (next, h, others) = all-stand most parts next after (named-stands most name s next is h) others
all-stand most (Job j ∷ parts) s after is (next, run, others) = all-stand most parts next after (job-stands most s j next is run) others

pub spelled-script : SpelledIsScript
spelled-script most text s is =
    let stood : Stood most is.after = all-stand most is.parts unread is.after (record { formed = tt; few = omega arith; owners = tt; last = tt }) is.made in
    subst (λ (jobs : List ScriptedJob). MayAllFollow most [] jobs) (sym is.jobs) stood.formed

pub spelled-again : SpelledAgain
spelled-again most text s is = written-read most s (spelled-script most text s is)
