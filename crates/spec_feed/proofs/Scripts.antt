-- A script is a feed: its parts are parts of a feed.
use Rattle.std.proofs.Common.{◌≡◌, ℕ, ◌+◌, ◌<◌, Bool, true, false, cond, ◌||◌, List, [], ◌∷◌, ◌++◌, filter, map, flat_map, codes, Some, None, refl, sym, ap, ap₂, subst, ◌∙◌, append_assoc, append-nil}
use Rattle.std.specs.Prelude.{count_by}
use Rattle.std.specs.List.{list_all, list_any}
use Rattle.std.proofs.lemmas.Grind.{flat_map-append}
use Rattle.std.proofs.lemmas.List.{length-map}
use Rattle.std.proofs.lemmas.List.Sums.{sum_by-cons}
use Rattle.mal_base.specs.declared.key.Key.{Key}
use Rattle.mal_base.specs.declared.limits.Limits.{Limits}
use Rattle.spec_text.specs.Inputs.{lines_of}
use Rattle.spec_script.specs.Script.{ScriptedJob, Scripted}
use Rattle.spec_script.specs.declared.step.Step.{Step}
use Rattle.spec_script.specs.declared.step.Step.TheVariants.{Revise, Reask}
use Rattle.spec_script.specs.Reading.{OpenJob, Reading, begun, is_job, is_of, unread}
use Rattle.spec_script.specs.Grammar as script
use Rattle.spec_script.specs.Grammar.{Admits, JobLines, StepAll, StepLines, Steps, job_lines, step_lines}
use Rattle.spec_script.proofs.Reading.{read-spelled}
use Rattle.spec_feed.specs.declared.post.FeedPost.{FeedPost}
use Rattle.spec_feed.specs.declared.post.FeedPost.TheVariants.{Opens, Takes, Closes}
use Rattle.spec_feed.specs.Reading.{Feeding, closings, key_of}
use Rattle.spec_feed.specs.Grammar.{Part, Tenant, First, Within, Last, JobWords, MakeAll, Spells, is_short, part_lines}
use Rattle.spec_feed.specs.Posts.{job_posts, script_posts}
use Rattle.spec_feed.specs.Laws.{ScriptIsFeed}
use Rattle.spec_feed.proofs.Reading.{spelled-read}
use Rattle.spec_feed.proofs.WordLaws.{WordLaws}

-- ---- the lines of a script's parts are those of parts of a feed

-- the words of a job's first line
abbrev words_of_job : JobLines → JobWords
words_of_job j = record { name = j.name; priority = j.priority; demand = j.demand; slices = j.slices; profile = j.profile }

-- the parts of the lines of a job after its first
abbrev job_parts : List StepLines → List Part
job_parts steps = map Within steps ++ Last ∷ []

-- the parts of a feed that a part of a script is
abbrev feed_parts : script.Part → List Part
feed_parts (script.Tenant name) = Tenant name ∷ []
feed_parts (script.Job j) = First (words_of_job j) ∷ job_parts j.steps

job-lines : (steps : List StepLines) → flat_map part_lines (job_parts steps) ≡ job_lines steps
job-lines [] = refl
job-lines (step ∷ steps) =
    ap (λ (x : List (List (List ℕ))). step_lines step ++ x) (job-lines steps)
    ∙ sym (append_assoc (step_lines step) (flat_map step_lines steps) ((codes "e" ∷ []) ∷ []))

part-lines : (part : script.Part) → flat_map part_lines (feed_parts part) ≡ script.part_lines part
part-lines (script.Tenant name) = refl
part-lines (script.Job j) = ap (λ (x : List (List (List ℕ))). (codes "j" ∷ j.name ∷ j.priority ∷ j.demand ∷ j.slices ∷ j.profile) ∷ x) (job-lines j.steps)

all-lines : (parts : List script.Part) → flat_map part_lines (flat_map feed_parts parts) ≡ flat_map script.part_lines parts
all-lines [] = refl
all-lines (part ∷ parts) =
    flat_map-append part_lines (feed_parts part) (flat_map feed_parts parts)
    ∙ ap₂ (λ (x y : List (List (List ℕ))). x ++ y) (part-lines part) (all-lines parts)

-- ---- what they make

-- a job as it began
abbrev as_begun : ScriptedJob → ScriptedJob
as_begun j = record j { steps = [] }

-- the feed of a script of which some lines are read, where no job is open
abbrev feed_of : Reading → Feeding
feed_of s = record { begun = map as_begun s.jobs; current = None; aside = []; tenants = s.tenants; tenant = s.tenant }

any-begun : (tenant name : List ℕ) (jobs : List ScriptedJob) → list_any (is_job tenant name) (map as_begun jobs) ≡ list_any (is_job tenant name) jobs
any-begun tenant name [] = refl
any-begun tenant name (j ∷ js) = ap (λ (b : Bool). is_job tenant name j || b) (any-begun tenant name js)

count-begun : (tenant : List ℕ) (jobs : List ScriptedJob) → count_by (is_of tenant) (map as_begun jobs) ≡ count_by (is_of tenant) jobs
count-begun tenant [] = refl
count-begun tenant (j ∷ js) =
    sum_by-cons (λ x. cond (is_of tenant x) 1 0) (as_begun j) (map as_begun js)
    ∙ ap (λ (n : ℕ). cond (is_of tenant j) 1 0 + n) (count-begun tenant js)
    ∙ sym (sum_by-cons (λ x. cond (is_of tenant x) 1 0) j js)

admits-begun : (most : Limits) (tenant name : List ℕ) (jobs : List ScriptedJob) → Admits most tenant name jobs → Admits most tenant name (map as_begun jobs)
admits-begun most tenant name jobs is = record {
  new = any-begun tenant name jobs ∙ is.new;
  few_of_tenant = subst (λ (n : ℕ). n < most.jobs_of_tenant) (sym (count-begun tenant jobs)) is.few_of_tenant;
  few = subst (λ (n : ℕ). n < most.jobs) (sym (length-map jobs as_begun)) is.few;
}

make-more : (most : Limits) (parts others : List Part) (s mid after : Feeding) (first later : List FeedPost) → MakeAll most s parts mid first → MakeAll most mid others after later → MakeAll most s (parts ++ others) after (first ++ later)
make-more most [] others s mid after first later is rest =
    subst (λ (t : Feeding). MakeAll most t others after (first ++ later)) (sym is.0) (subst (λ (ps : List FeedPost). MakeAll most mid others after (ps ++ later)) (sym is.1) rest)
make-more most (part ∷ parts) others s mid after first later (next, own, own_others, makes, made, all) rest =
    (next, own, own_others ++ later, makes, make-more most parts others next mid after own_others later made rest, ap (λ (ps : List FeedPost). ps ++ later) all ∙ append_assoc own own_others later)

-- ---- a job

-- the job with these steps more
abbrev pub with_steps : ScriptedJob → List Step → ScriptedJob
with_steps j steps = record j { steps = j.steps ++ steps }

-- a step of a job is one more
pub record OneMore (o next : OpenJob) : Type 0 where
  pub step : Step
  pub job : next.job ≡ with_steps o.job (step ∷ [])

pub one-more : (most : Limits) (o : OpenJob) (lines : StepLines) (next : OpenJob) → Steps most o lines next → OneMore o next
one-more most o (script.Revision r) next is = record { step = Revise (record { variables = is.formula.variables; clauses = is.formula.clauses; assumptions = is.assumptions }); job = ap (λ (x : OpenJob). x.job) is.revised }
one-more most o (script.Weight p d) next is = record { step = Reask is.weight; job = ap (λ (x : OpenJob). x.job) is.reasked }

-- the steps that lines make of a job, and what they post
record Stepped (most : Limits) (s : Feeding) (o : OpenJob) (lines : List StepLines) (ended : OpenJob) : Type 0 where
  steps : List Step
  job : ended.job ≡ with_steps o.job steps
  made : MakeAll most (record s { current = Some o }) (map Within lines) (record s { current = Some ended }) (map (Takes (key_of o.job)) steps)

stepped-all : (most : Limits) (s : Feeding) (lines : List StepLines) (o ended : OpenJob) → StepAll most o lines ended → Stepped most s o lines ended
stepped-all most s [] o ended is = record {
  steps = [];
  job = sym (ap (λ (x : OpenJob). x.job) is) ∙ ap (λ (xs : List Step). record o.job { steps = xs }) (sym (append-nil o.job.steps));
  made = (ap (λ (x : OpenJob). record s { current = Some x }) is, refl);
}
stepped-all most s (line ∷ lines) o ended (next, first, others) =
    let one : OneMore o next = one-more most o line next first in
    let rest : Stepped most s next lines ended = stepped-all most s lines next ended others in
    let key : key_of next.job ≡ key_of o.job = ap key_of one.job in
    record {
      steps = one.step ∷ rest.steps;
      job = rest.job ∙ ap (λ (j : ScriptedJob). with_steps j rest.steps) one.job ∙ ap (λ (xs : List Step). record o.job { steps = xs }) (append_assoc o.job.steps (one.step ∷ []) rest.steps);
      made = (
        record s { current = Some next },
        Takes (key_of o.job) one.step ∷ [],
        map (Takes (key_of o.job)) rest.steps,
        record { job = o; next = next; step = one.step; current = refl; stepped = first; more = ap (λ (j : ScriptedJob). j.steps) one.job; left = refl; posted = refl },
        subst (λ (k : Key). MakeAll most (record s { current = Some next }) (map Within lines) (record s { current = Some ended }) (map (Takes k) rest.steps)) key rest.made,
        refl,
      );
    }

-- ---- the parts

-- what the parts of a script make of its feed, and post
record Posted (most : Limits) (s : Reading) (parts : List Part) (after : Reading) : Type 0 where
  posts : List FeedPost
  made : MakeAll most (feed_of s) parts (feed_of after) posts
  all : flat_map job_posts after.jobs ≡ flat_map job_posts s.jobs ++ posts

tenant-posted : (most : Limits) (s : Reading) (name : List ℕ) (after : Reading) → script.Names most s name after → Posted most s (feed_parts (script.Tenant name)) after
tenant-posted most s name after is = record {
  posts = [];
  made = (feed_of after, [], [], record { formed = is.formed; room = is.room; left = ap feed_of is.left; posted = refl }, (refl, refl), refl);
  all = ap (λ (x : Reading). flat_map job_posts x.jobs) is.left ∙ sym (append-nil (flat_map job_posts s.jobs));
}

map-append : (xs ys : List ScriptedJob) → map as_begun (xs ++ ys) ≡ map as_begun xs ++ map as_begun ys
map-append [] ys = refl
map-append (x ∷ xs) ys = ap (λ (zs : List ScriptedJob). as_begun x ∷ zs) (map-append xs ys)

job-posted : (most : Limits) (s : Reading) (j : JobLines) (after : Reading) → script.Runs most s j after → Posted most s (feed_parts (script.Job j)) after
job-posted most s j after is =
    let first : OpenJob = begun is.tenant j.name is.ask in
    let begins : Feeding = record (feed_of s) { begun = map as_begun s.jobs ++ first.job ∷ [] } in
    let steps : Stepped most begins first j.steps is.ended = stepped-all most begins j.steps first is.ended is.stepped in
    let same : as_begun is.ended.job ≡ first.job = ap as_begun steps.job in
    let key : key_of is.ended.job ≡ key_of first.job = ap key_of steps.job in
    let jobs : map as_begun (s.jobs ++ is.ended.job ∷ []) ≡ map as_begun s.jobs ++ first.job ∷ [] = map-append s.jobs (is.ended.job ∷ []) ∙ ap (λ (x : ScriptedJob). map as_begun s.jobs ++ x ∷ []) same in
    let left : begins ≡ feed_of after = sym (ap feed_of is.left ∙ ap (λ (xs : List ScriptedJob). record begins { begun = xs }) jobs) in
    let ends : MakeAll most (record begins { current = Some is.ended }) (Last ∷ []) (feed_of after) (Closes (key_of is.ended.job) ∷ []) =
    (begins, Closes (key_of is.ended.job) ∷ [], [], record { job = is.ended; current = refl; left = refl; posted = refl }, (left, refl), refl) in
    let posts : job_posts is.ended.job ≡ Opens (key_of first.job) is.ask ∷ (map (Takes (key_of first.job)) steps.steps ++ Closes (key_of is.ended.job) ∷ []) = own first.job is.ended.job steps.steps steps.job in
    record {
      posts = Opens (key_of first.job) is.ask ∷ (map (Takes (key_of first.job)) steps.steps ++ Closes (key_of is.ended.job) ∷ []);
      made = (
        record begins { current = Some first },
        Opens (key_of first.job) is.ask ∷ [],
        map (Takes (key_of first.job)) steps.steps ++ Closes (key_of is.ended.job) ∷ [],
        record { tenant = is.tenant; ask = is.ask; owned = is.owned; name = is.name; asks = is.asks; admitted = admits-begun most is.tenant j.name s.jobs is.admitted; left = refl; posted = refl },
        make-more most (map Within j.steps) (Last ∷ []) (record begins { current = Some first }) (record begins { current = Some is.ended }) (feed_of after) (map (Takes (key_of first.job)) steps.steps) (Closes (key_of is.ended.job) ∷ []) steps.made ends,
        refl,
      );
      all =
          ap (λ (x : Reading). flat_map job_posts x.jobs) is.left
          ∙ flat_map-append job_posts s.jobs (is.ended.job ∷ [])
          ∙ ap (λ (ps : List FeedPost). flat_map job_posts s.jobs ++ ps) (append-nil (job_posts is.ended.job) ∙ posts);
    }
  where
    own : (first ended : ScriptedJob) (steps : List Step) → ended ≡ with_steps (as_begun first) steps → job_posts ended ≡ Opens (key_of first) first.ask ∷ (map (Takes (key_of first)) steps ++ Closes (key_of ended) ∷ [])
    own first ended steps e =
        ap job_posts e ∙ ap (λ (k : Key). Opens (key_of first) first.ask ∷ (map (Takes (key_of first)) steps ++ Closes k ∷ [])) (sym (ap key_of e))

part-posted : (most : Limits) (part : script.Part) (s after : Reading) → script.Makes most s part after → Posted most s (feed_parts part) after
part-posted most (script.Tenant name) s after is = tenant-posted most s name after is
part-posted most (script.Job j) s after is = job-posted most s j after is

all-posted : (most : Limits) (parts : List script.Part) (s after : Reading) → script.MakeAll most s parts after → Posted most s (flat_map feed_parts parts) after
all-posted most [] s after is = record {
  posts = [];
  made = (ap feed_of is, refl);
  all = ap (λ (x : Reading). flat_map job_posts x.jobs) (sym is) ∙ sym (append-nil (flat_map job_posts s.jobs));
}
all-posted most (part ∷ parts) s after (next, is, others) =
    let one : Posted most s (feed_parts part) next = part-posted most part s next is in
    let rest : Posted most next (flat_map feed_parts parts) after = all-posted most parts next after others in
    record {
      posts = one.posts ++ rest.posts;
      made = make-more most (feed_parts part) (flat_map feed_parts parts) (feed_of s) (feed_of next) (feed_of after) one.posts rest.posts one.made rest.made;
      all = rest.all ∙ ap (λ (ps : List FeedPost). ps ++ rest.posts) one.all ∙ append_assoc (flat_map job_posts s.jobs) one.posts rest.posts;
    }

none-left : {A : Type 0} (xs : List A) → filter (λ x. false) xs ≡ []
none-left [] = refl
none-left (x ∷ xs) = none-left xs

-- no job is open, so none is closed at the end
no-closings : (s : Reading) → closings (feed_of s) ≡ []
no-closings s = ap (λ (js : List ScriptedJob). map (λ j. Closes (key_of j)) js) (none-left (map as_begun s.jobs))

script-spelled : (most : Limits) (text : List ℕ) (r : Scripted) → script.Spells most text r → list_all is_short (lines_of text) ≡ true → Spells most text (script_posts r)
script-spelled most text r is short =
    let m : Posted most unread (flat_map feed_parts is.parts) is.after = all-posted most is.parts unread is.after is.made in
    record {
      parts = flat_map feed_parts is.parts;
      after = feed_of is.after;
      made_posts = m.posts;
      short = short;
      lines = is.lines ∙ sym (all-lines is.parts);
      made = m.made;
      posted = ap (flat_map job_posts) is.jobs ∙ m.all ∙ sym (append-nil m.posts) ∙ ap (λ (ps : List FeedPost). m.posts ++ ps) (sym (no-closings is.after));
    }

pub script-is_feed : WordLaws → ScriptIsFeed
script-is_feed laws most text r e short = spelled-read laws most text (script_posts r) (script-spelled most text r (read-spelled most text r e) short)
