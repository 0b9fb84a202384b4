-- When a history has what a script posts.
use Rattle.std.proofs.Common.{◌≡◌, ℕ, zero, suc, ◌+◌, ◌-◌, ◌<◌, ◌≤◌, Bool, true, false, ◌||◌, cond, List, [], ◌∷◌, ◌++◌, length, map, take, get_or, flat_map, filter, Some, refl, sym, ◌∙◌, ap, subst, append_assoc, arith, length-append}
use Rattle.std.specs.Prelude.{slice_get, ◌↔◌, Option, None}
use Rattle.std.specs.List.{list_any}
use Rattle.std.proofs.lemmas.List.{map-append, take_all}
use Rattle.std.proofs.lemmas.Option.{get_or_from_slice_get, slice_get_read}
use Rattle.mal_history.specs.declared.event.Event as written
use Rattle.mal_history.specs.declared.event.Event.TheVariants as of
use Rattle.mal_job.specs.Among.{among}
use Rattle.mal_pool.specs.Testing as testing
use Rattle.mal_pool.specs.Testing.{HasContents, HaveContents, HasPosts}
use Rattle.mal_revision.specs.Posted.{Posted}
use Rattle.spec_job.specs.KeyedJob.{Key, KeyedJob}
use Rattle.spec_hall.specs.Dressed.{dressed, no_revision, revisions_of}
use Rattle.spec_hall.specs.Events.{Event, Open, Revise, Reask, Close, Balance, Start, Finish, Exchange, Leave, Arrive, bare, moves}
use Rattle.spec_hall.specs.Legal.{Legal}
use Rattle.spec_hall.specs.Own.{is_text}
use Rattle.spec_hall.specs.States.{states}
use Rattle.spec_hall.proofs.DressedLemmas.{legal-is_dressed}
use Rattle.spec_run.specs.Complete.{is_post_of, key_of_job, job_events, open_events, posts_of, step_events, jobs_of_tenant}
use Rattle.spec_run.specs.PostLines.{HavePosts, is_post_line, post_lines}
use Rattle.spec_run.specs.Losses as losses
use Rattle.spec_run.proofs.PostingLemmas.{take-one}
use Rattle.spec_script.specs.Script.{ScriptedJob, Scripted, revisions, revisions_in}
use Rattle.spec_script.specs.declared.step.Step.{Step}
use Rattle.spec_script.specs.declared.step.Step.TheVariants as steps

-- the losses that are written down
pub bare-losses : (h : List Event) → list_any testing.is_loss (map bare h) ≡ list_any losses.is_loss h
bare-losses [] = refl
bare-losses (Open k ask ∷ es) = bare-losses es
bare-losses (Revise k number r ∷ es) = bare-losses es
bare-losses (Reask k w ∷ es) = bare-losses es
bare-losses (Close k ∷ es) = bare-losses es
bare-losses (Balance shares ∷ es) = bare-losses es
bare-losses (Start k index worker ∷ es) = bare-losses es
bare-losses (Finish k index worker outcome ∷ es) = ap (λ (b : Bool). losses.is_loss (Finish k index worker outcome) || b) (bare-losses es)
bare-losses (Exchange k ∷ es) = bare-losses es
bare-losses (Leave k ∷ es) = bare-losses es
bare-losses (Arrive k brought ∷ es) = bare-losses es

-- and the moves
pub bare-moves : (h : List Event) → list_any testing.is_move (map bare h) ≡ list_any moves h
bare-moves [] = refl
bare-moves (Open k ask ∷ es) = bare-moves es
bare-moves (Revise k number r ∷ es) = bare-moves es
bare-moves (Reask k w ∷ es) = bare-moves es
bare-moves (Close k ∷ es) = bare-moves es
bare-moves (Balance shares ∷ es) = bare-moves es
bare-moves (Start k index worker ∷ es) = bare-moves es
bare-moves (Finish k index worker outcome ∷ es) = bare-moves es
bare-moves (Exchange k ∷ es) = bare-moves es
bare-moves (Leave k ∷ es) = refl
bare-moves (Arrive k brought ∷ es) = refl

pub moves-told : (h : List Event) (es : List written.Event) (moved : Bool) → es ≡ map bare h → moved ≡ list_any testing.is_move es → list_any moves h ≡ moved
moves-told h es moved bares is = sym (bare-moves h) ∙ (ap (list_any testing.is_move) (sym bares) ∙ sym is)

-- one more job with its contents
contents-behind : (h : List Event) (js : List ScriptedJob) (j : ScriptedJob) → HaveContents h js → HasContents h j → HaveContents h (js ++ j ∷ [])
contents-behind h [] j have here = (here, tt)
contents-behind h (i ∷ is) j have here = (have.0, contents-behind h is j have.1 here)

pub contents-more : (h : List Event) (js : List ScriptedJob) (i : ℕ) (j : ScriptedJob) → HaveContents h (take i js) → HasContents h j → i < length js → j ≡ get_or js i j → HaveContents h (take (i + 1) js)
contents-more h js i j have here low is = subst (HaveContents h) (sym (take-one js i j low is)) (contents-behind h (take i js) j have here)

pub contents-all : (h : List Event) (js : List ScriptedJob) (i : ℕ) → HaveContents h (take i js) → length js ≤ i → HaveContents h js
contents-all h js i have all = subst (HaveContents h) (take_all i js all) have

-- a job among those that have their contents
pub contents-at : (h : List Event) (js : List ScriptedJob) (i : ℕ) (j : ScriptedJob) → HaveContents h js → i < length js → j ≡ get_or js i j → HasContents h j
contents-at h [] i j have low is = absurd (omega arith)
contents-at h (x ∷ xs) zero j have low is = subst (HasContents h) (sym is) have.0
contents-at h (x ∷ xs) (suc i) j have low is = contents-at h xs i j have.1 (omega arith) is

-- a revision that is there, compared with another
pub revision-at : (n i : ℕ) (rs all : List Posted) (r q : Posted) → n ≡ i + 1 → Some r ≡ among n rs → Some q ≡ slice_get all i → (b : Bool) → (b ≡ true ↔ r ≡ q) → (b ≡ true ↔ slice_get rs i ≡ slice_get all i)
revision-at zero i rs all r q is e there b same = absurd (omega (arith, is))
revision-at (suc k) i rs all r q is e there b same = (
  λ t. mine ∙ (ap (λ (x : Posted). Some x) (same.0 t) ∙ there),
  λ t. same.1 (inner r q (sym mine ∙ t ∙ sym there)),
)
  where
    mine : slice_get rs i ≡ Some r
    mine = ap (slice_get rs) (omega (arith, is)) ∙ sym e

    inner : (x y : Posted) → ◌≡◌ {A = Option Posted} (Some x) (Some y) → x ≡ y
    inner x y e = cc

get_or-same : (xs : List Posted) (k : ℕ) → k < length xs → get_or xs k no_revision ≡ get_or xs k (get_or xs k no_revision)
get_or-same [] k low = absurd (omega arith)
get_or-same (x ∷ xs) zero low = refl
get_or-same (x ∷ xs) (suc k) low = get_or-same xs k (omega arith)

there-at : (all : List Posted) (i : ℕ) → i < length all → slice_get all i ≡ Some (get_or all i no_revision)
there-at all i low = slice_get_read all (length all) i (get_or all i no_revision) refl low (get_or-same all i low)

pub lacking : (all : List Posted) (i : ℕ) → i < length all → None ≡ slice_get all i → ⊥
lacking all i low e = differ (get_or all i no_revision) (e ∙ there-at all i low)
  where
    differ : (x : Posted) → ◌≡◌ {A = Option Posted} None (Some x) → ⊥
    differ x q = cc

-- one that is not there
pub revision-none : (n i : ℕ) (rs all : List Posted) → n ≡ i + 1 → None ≡ among n rs → i < length all → slice_get rs i ≡ slice_get all i → ⊥
revision-none zero i rs all is e low t = omega (arith, is)
revision-none (suc k) i rs all is e low t = differ (get_or all i no_revision) (e ∙ (ap (slice_get rs) (omega (arith, is)) ∙ (t ∙ there-at all i low)))
  where
    differ : (x : Posted) → ◌≡◌ {A = Option Posted} None (Some x) → ⊥
    differ x q = cc

-- the contents by place
at-place : (rs all : List Posted) (i : ℕ) → i < length all → slice_get rs i ≡ slice_get all i → get_or rs i no_revision ≡ get_or all i no_revision
at-place rs all i low same = get_or_from_slice_get rs i (get_or all i no_revision) no_revision (same ∙ there-at all i low)

-- what is written down, with the revisions of the jobs
dressed-by : (ts : List KeyedJob) (t : List ℕ) (e : written.Event) → is_post_of t (dressed ts e) ≡ is_post_line t e
dressed-by ts t (of.Open tenant job ask) = refl
dressed-by ts t (of.Revise tenant job number) = refl
dressed-by ts t (of.Reask tenant job weight) = refl
dressed-by ts t (of.Close tenant job) = refl
dressed-by ts t (of.Balance volumes) = refl
dressed-by ts t (of.Start tenant job index worker) = refl
dressed-by ts t (of.Finish tenant job index worker outcome) = refl
dressed-by ts t (of.Exchange tenant job) = refl
dressed-by ts t (of.Leave tenant job) = refl
dressed-by ts t (of.Arrive tenant job) = refl

filter-dressed : (ts : List KeyedJob) (t : List ℕ) (es : List written.Event) → filter (is_post_of t) (map (dressed ts) es) ≡ map (dressed ts) (post_lines t es)
filter-dressed ts t [] = refl
filter-dressed ts t (e ∷ es) =
    ap (λ (b : Bool). cond b (dressed ts e ∷ filter (is_post_of t) (map (dressed ts) es)) (filter (is_post_of t) (map (dressed ts) es))) (dressed-by ts t e)
    ∙ by_test (is_post_line t e) (filter-dressed ts t es)
  where
    by_test : (b : Bool) → filter (is_post_of t) (map (dressed ts) es) ≡ map (dressed ts) (post_lines t es) → cond b (dressed ts e ∷ filter (is_post_of t) (map (dressed ts) es)) (filter (is_post_of t) (map (dressed ts) es)) ≡ map (dressed ts) (cond b (e ∷ post_lines t es) (post_lines t es))
    by_test true h = ap (λ (x : List Event). dressed ts e ∷ x) h
    by_test false h = h

-- what a script posts, written down and with the revisions of jobs that have its contents
opened-dressed : (ts : List KeyedJob) (js : List ScriptedJob) → map (dressed ts) (map bare (open_events js)) ≡ open_events js
opened-dressed ts [] = refl
opened-dressed ts (j ∷ js) = ap (λ (x : List Event). Open (key_of_job j) j.ask ∷ x) (opened-dressed ts js)

stepped-dressed : (ts : List KeyedJob) (k : Key) (all front : List Posted) (ss : List Step) (n : ℕ) → all ≡ front ++ revisions_in ss → n ≡ length front + 1 → ((i : ℕ) → i < length all → get_or (revisions_of k ts) i no_revision ≡ get_or all i no_revision) → map (dressed ts) (map bare (step_events k n ss)) ≡ step_events k n ss
stepped-dressed ts k all front [] n is count has = refl
stepped-dressed ts k all front (steps.Revise r ∷ ss) n is count has =
    let rs : List Posted = revisions_in ss in
    let place : n - 1 ≡ length front = omega (arith, count) in
    let low : length front < length all = low-in all front r rs is in
    let here : get_or (revisions_of k ts) (n - 1) no_revision ≡ r = ap (λ (m : ℕ). get_or (revisions_of k ts) m no_revision) place ∙ (has (length front) low ∙ (ap (λ (x : List Posted). get_or x (length front) no_revision) is ∙ at-front front r rs)) in
    ap (λ (q : Posted). Revise k n q ∷ map (dressed ts) (map bare (step_events k (n + 1) ss))) here
    ∙ ap (λ (x : List Event). Revise k n r ∷ x) (stepped-dressed ts k all (front ++ r ∷ []) ss (n + 1) (is ∙ sym (append_assoc front (r ∷ []) rs)) (ap (λ (m : ℕ). m + 1) (count ∙ sym (one-more front r))) has)
  where
    one-more : (xs : List Posted) (x : Posted) → length (xs ++ x ∷ []) ≡ length xs + 1
    one-more xs x = length-append xs (x ∷ [])

    low-in : (xs ys : List Posted) (z : Posted) (zs : List Posted) → xs ≡ ys ++ z ∷ zs → length ys < length xs
    low-in xs ys z zs e = let size : length xs ≡ length ys + suc (length zs) = ap (λ (x : List Posted). length x) e ∙ length-append ys (z ∷ zs) in omega (arith, size)

    at-front : (xs : List Posted) (x : Posted) (ys : List Posted) → get_or (xs ++ x ∷ ys) (length xs) no_revision ≡ x
    at-front [] x ys = refl
    at-front (z ∷ zs) x ys = at-front zs x ys
stepped-dressed ts k all front (steps.Reask w ∷ ss) n is count has = ap (λ (x : List Event). Reask k w ∷ x) (stepped-dressed ts k all front ss n is count has)

job-dressed : (h : List Event) (j : ScriptedJob) → HasContents h j → map (dressed (states h)) (map bare (job_events j)) ≡ job_events j
job-dressed h j has =
    let ts : List KeyedJob = states h in
    let k : Key = key_of_job j in
    let stepped : List Event = step_events k 1 j.steps in
    ap (map (dressed ts)) (map-append bare stepped (Close k ∷ []))
    ∙ (map-append (dressed ts) (map bare stepped) (map bare (Close k ∷ []))
    ∙ ap (λ (x : List Event). x ++ Close k ∷ []) (stepped-dressed ts k (revisions j) [] j.steps 1 refl refl (λ i low. at-place (revisions_of k ts) (revisions j) i low (has i low))))

jobs-dressed : (h : List Event) (js : List ScriptedJob) → HaveContents h js → map (dressed (states h)) (map bare (flat_map job_events js)) ≡ flat_map job_events js
jobs-dressed h [] have = refl
jobs-dressed h (j ∷ js) have =
    let ts : List KeyedJob = states h in
    ap (map (dressed ts)) (map-append bare (job_events j) (flat_map job_events js))
    ∙ (map-append (dressed ts) (map bare (job_events j)) (map bare (flat_map job_events js))
    ∙ (ap (λ (x : List Event). x ++ map (dressed ts) (map bare (flat_map job_events js))) (job-dressed h j have.0)
    ∙ ap (λ (x : List Event). job_events j ++ x) (jobs-dressed h js have.1)))

all-dressed : (h : List Event) (js : List ScriptedJob) → HaveContents h js → map (dressed (states h)) (map bare (open_events js ++ flat_map job_events js)) ≡ open_events js ++ flat_map job_events js
all-dressed h js have =
    let ts : List KeyedJob = states h in
    let opens : List Event = open_events js in
    let rest : List Event = flat_map job_events js in
    ap (map (dressed ts)) (map-append bare opens rest)
    ∙ (map-append (dressed ts) (map bare opens) (map bare rest)
    ∙ (ap (λ (x : List Event). x ++ map (dressed ts) (map bare rest)) (opened-dressed ts js)
    ∙ ap (λ (x : List Event). opens ++ x) (jobs-dressed h js have)))

-- a tenant's jobs among those that have their contents
tenant-contents : (h : List Event) (t : List ℕ) (js : List ScriptedJob) → HaveContents h js → HaveContents h (filter (λ j. is_text t j.tenant) js)
tenant-contents h t [] have = tt
tenant-contents h t (j ∷ js) have = by_test (is_text t j.tenant) (tenant-contents h t js have.1)
  where
    by_test : (b : Bool) → HaveContents h (filter (λ k. is_text t k.tenant) js) → HaveContents h (cond b (j ∷ filter (λ k. is_text t k.tenant) js) (filter (λ k. is_text t k.tenant) js))
    by_test true rest = (have.0, rest)
    by_test false rest = rest

-- a legal history in which no job moves, whose written posts are the script's, of jobs with its contents, has its posts
pub have-posts : (w : ℕ) (s : Scripted) (h : List Event) → Legal w h → list_any moves h ≡ false → HavePosts s (map bare h) → HaveContents h s.jobs → HasPosts s h
have-posts w s h legal stay posts have = record { posts = tenant-posts; stay = stay }
  where
    tenant-posts : (t : List ℕ) → filter (is_post_of t) h ≡ posts_of t s
    tenant-posts t =
        ap (filter (is_post_of t)) (sym (legal-is_dressed w h legal stay))
        ∙ (filter-dressed (states h) t (map bare h)
        ∙ (ap (map (dressed (states h))) (posts t)
        ∙ all-dressed h (jobs_of_tenant t s) (tenant-contents h t s.jobs have)))
