-- What is written down of a legal history posts what a script says exactly where its events do.
use Rattle.std.proofs.Common.{◌≡◌, ℕ, suc, ◌+◌, Bool, true, false, cond, List, [], ◌∷◌, ◌++◌, length, map, filter, flat_map, slice_get, Option, Some, None, option_map, refl, sym, ◌∙◌, ap, subst, arith, append_assoc, length-append}
use Rattle.std.specs.List.{list_any}
use Rattle.std.specs.Option.{option_map_or}
use Rattle.std.proofs.lemmas.Bool.{or_from, or_parts}
use Rattle.mal_history.specs.declared.event.Event as written
use Rattle.mal_history.specs.declared.event.Event.TheVariants as of
use Rattle.mal_revision.specs.Posted.{Posted}
use Rattle.spec_hall.specs.Events.{Event, Open, Revise, Reask, Close, Balance, Start, Finish, Exchange, Leave, Arrive, bare, moves}
use Rattle.spec_hall.specs.Dressed.{keyed}
use Rattle.spec_hall.specs.Own.{is_key, is_text}
use Rattle.spec_hall.proofs.KeyLemmas.{is_key-same}
use Rattle.spec_run.specs.PostLines.{HavePosts, is_post_line, post_lines}
use Rattle.spec_run.specs.Accounted.{AreWritten, event_by, job_under, numbered, revision_in}
use Rattle.spec_run.specs.Complete.{is_post_of, job_events, jobs_of_tenant, key_of_job, open_events, posts_of, step_events}
use Rattle.spec_run.proofs.OpenLemmas.{IsApart, IsPart, part-of}
use Rattle.spec_script.specs.Formed.{IsScript, MayAllFollow}
use Rattle.mal_base.specs.Limits.{limits}
use Rattle.spec_script.specs.Script.{ScriptedJob, Scripted, revisions, revisions_in}
use Rattle.spec_script.specs.declared.step.Step.{Step}
use Rattle.spec_script.specs.declared.step.Step.TheVariants as steps

-- lists are the same where they are under Some
pub some-same : (one other : List Event) → map Some one ≡ map Some other → one ≡ other
some-same [] [] e = refl
some-same [] (y ∷ ys) e = absurd (cc)
some-same (x ∷ xs) [] e = absurd (cc)
some-same (x ∷ xs) (y ∷ ys) e =
    let head : x ≡ y = cc in
    let tail : map Some xs ≡ map Some ys = cc in
    ap (λ (z : Event). z ∷ xs) head ∙ ap (λ (zs : List Event). y ∷ zs) (some-same xs ys tail)

-- the event that a line stands for is written as that line
as-written : (x e : Event) (line : written.Event) → Some x ≡ Some e → bare x ≡ line → bare e ≡ line
as-written x e line is same = let equal : x ≡ e = cc in ap bare (sym equal) ∙ same

same-stays : (x e : Event) → Some x ≡ Some e → moves x ≡ false → moves e ≡ false
same-stays x e is stay = let equal : x ≡ e = cc in ap moves (sym equal) ∙ stay

bare-given : (s : Scripted) (line : written.Event) (e : Event) → event_by s line ≡ Some e → bare e ≡ line
bare-given s (of.Open tenant job ask) e is = as-written (Open (keyed tenant job) ask) e (of.Open tenant job ask) is refl
bare-given s (of.Revise tenant job number) e is = by_revision (revision_in s (keyed tenant job) number) is
  where
    by_revision : (o : Option Posted) → option_map (λ r. Revise (keyed tenant job) number r) o ≡ Some e → bare e ≡ of.Revise tenant job number
    by_revision None q = absurd (cc)
    by_revision (Some r) q = as-written (Revise (keyed tenant job) number r) e (of.Revise tenant job number) q refl
bare-given s (of.Reask tenant job w) e is = as-written (Reask (keyed tenant job) w) e (of.Reask tenant job w) is refl
bare-given s (of.Close tenant job) e is = as-written (Close (keyed tenant job)) e (of.Close tenant job) is refl
bare-given s (of.Balance volumes) e is = as-written (Balance volumes) e (of.Balance volumes) is refl
bare-given s (of.Start tenant job index worker) e is = as-written (Start (keyed tenant job) index worker) e (of.Start tenant job index worker) is refl
bare-given s (of.Finish tenant job index worker outcome) e is = as-written (Finish (keyed tenant job) index worker outcome) e (of.Finish tenant job index worker outcome) is refl
bare-given s (of.Exchange tenant job) e is = as-written (Exchange (keyed tenant job)) e (of.Exchange tenant job) is refl
bare-given s (of.Leave tenant job) e is = absurd (cc)
bare-given s (of.Arrive tenant job) e is = absurd (cc)

-- so what is written down are the lines of the events
pub written-bare : (s : Scripted) (lines : List written.Event) (events : List Event) → AreWritten s lines events → lines ≡ map bare events
written-bare s [] [] e = refl
written-bare s [] (y ∷ ys) e = absurd (cc)
written-bare s (x ∷ xs) [] e = absurd (cc)
written-bare s (x ∷ xs) (y ∷ ys) e =
    let head : event_by s x ≡ Some y = cc in
    let tail : AreWritten s xs ys = cc in
    ap (λ (z : written.Event). z ∷ xs) (sym (bare-given s x y head)) ∙ ap (λ (zs : List written.Event). bare y ∷ zs) (written-bare s xs ys tail)

-- and no job moves by them
given-stays : (s : Scripted) (line : written.Event) (e : Event) → event_by s line ≡ Some e → moves e ≡ false
given-stays s (of.Open tenant job ask) e is = same-stays (Open (keyed tenant job) ask) e is refl
given-stays s (of.Revise tenant job number) e is = by_revision (revision_in s (keyed tenant job) number) is
  where
    by_revision : (o : Option Posted) → option_map (λ r. Revise (keyed tenant job) number r) o ≡ Some e → moves e ≡ false
    by_revision None q = absurd (cc)
    by_revision (Some r) q = same-stays (Revise (keyed tenant job) number r) e q refl
given-stays s (of.Reask tenant job w) e is = same-stays (Reask (keyed tenant job) w) e is refl
given-stays s (of.Close tenant job) e is = same-stays (Close (keyed tenant job)) e is refl
given-stays s (of.Balance volumes) e is = same-stays (Balance volumes) e is refl
given-stays s (of.Start tenant job index worker) e is = same-stays (Start (keyed tenant job) index worker) e is refl
given-stays s (of.Finish tenant job index worker outcome) e is = same-stays (Finish (keyed tenant job) index worker outcome) e is refl
given-stays s (of.Exchange tenant job) e is = same-stays (Exchange (keyed tenant job)) e is refl
given-stays s (of.Leave tenant job) e is = absurd (cc)
given-stays s (of.Arrive tenant job) e is = absurd (cc)

pub written-stays : (s : Scripted) (lines : List written.Event) (events : List Event) → AreWritten s lines events → list_any moves events ≡ false
written-stays s lines [] are = refl
written-stays s [] (e ∷ es) are = absurd (cc)
written-stays s (x ∷ xs) (e ∷ es) are =
    let head : event_by s x ≡ Some e = cc in
    let tail : AreWritten s xs es = cc in
    or_from (moves e) (list_any moves es) (given-stays s x e head) (written-stays s xs es tail)

-- each event has what the script says
abbrev pub AreScripted : Scripted → List Event → Type 0
AreScripted s events = AreWritten s (map bare events) events

scripted-of : (s : Scripted) (lines : List written.Event) (events : List Event) → AreWritten s lines events → AreScripted s events
scripted-of s lines events are = ap (map (event_by s)) (sym (written-bare s lines events are)) ∙ are

scripted-append : (s : Scripted) (one other : List Event) → AreScripted s one → AreScripted s other → AreScripted s (one ++ other)
scripted-append s [] other a b = b
scripted-append s (x ∷ xs) other a b =
    let head : event_by s (bare x) ≡ Some x = cc in
    let tail : AreScripted s xs = cc in
    ap (λ (o : Option Event). o ∷ map (event_by s) (map bare (xs ++ other))) head ∙ ap (λ (os : List (Option Event)). Some x ∷ os) (scripted-append s xs other tail b)

scripted-filter : (s : Scripted) (test : Event → Bool) (events : List Event) → AreScripted s events → AreScripted s (filter test events)
scripted-filter s test [] a = refl
scripted-filter s test (x ∷ xs) a = by_test (test x) (scripted-filter s test xs tail)
  where
    head : event_by s (bare x) ≡ Some x
    head = cc

    tail : AreScripted s xs
    tail = cc

    by_test : (b : Bool) → AreScripted s (filter test xs) → AreScripted s (cond b (x ∷ filter test xs) (filter test xs))
    by_test true rest = ap (λ (o : Option Event). o ∷ map (event_by s) (map bare (filter test xs))) head ∙ ap (λ (os : List (Option Event)). Some x ∷ os) rest
    by_test false rest = rest

-- the job of a script under its key
under-key : (before : List ScriptedJob) (j : ScriptedJob) (after : List ScriptedJob) → IsApart (key_of_job j) before → job_under (key_of_job j) (before ++ j ∷ after) ≡ Some j
under-key [] j after apart = ap (λ (b : Bool). cond b (Some j) (job_under (key_of_job j) after)) (is_key-same (key_of_job j))
under-key (i ∷ is) j after apart =
    let parts = or_parts (is_key (key_of_job j) (key_of_job i)) (list_any (λ x. is_key (key_of_job j) (key_of_job x)) is) apart in
    ap (λ (b : Bool). cond b (Some i) (job_under (key_of_job j) (is ++ j ∷ after))) parts.0 ∙ under-key is j after parts.1

-- what it posts is the script's
numbered-behind : (front : List Posted) (r : Posted) (back : List Posted) → numbered (length front + 1) (front ++ r ∷ back) ≡ Some r
numbered-behind front r back = ap (λ (n : ℕ). numbered n (front ++ r ∷ back)) (next (length front)) ∙ at front
  where
    next : (n : ℕ) → n + 1 ≡ suc n
    next n = omega arith

    at : (xs : List Posted) → slice_get (xs ++ r ∷ back) (length xs) ≡ Some r
    at [] = refl
    at (x ∷ xs) = at xs

stepped-scripted : (s : Scripted) (j : ScriptedJob) (front : List Posted) (ss : List Step) → job_under (key_of_job j) s.jobs ≡ Some j → revisions j ≡ front ++ revisions_in ss → AreScripted s (step_events (key_of_job j) (length front + 1) ss)
stepped-scripted s j front [] under is = refl
stepped-scripted s j front (steps.Revise r ∷ ss) under is =
    ap (λ (o : Option Event). o ∷ map (event_by s) (map bare (step_events (key_of_job j) (length front + 1 + 1) ss))) head
    ∙ ap (λ (os : List (Option Event)). Some (Revise (key_of_job j) (length front + 1) r) ∷ os) (rest (stepped-scripted s j (front ++ r ∷ []) ss under (is ∙ sym (append_assoc front (r ∷ []) (revisions_in ss)))))
  where
    found : revision_in s (key_of_job j) (length front + 1) ≡ Some r
    found =
        ap (λ (o : Option ScriptedJob). option_map_or (λ (i : ScriptedJob). numbered (length front + 1) (revisions i)) o None) under
        ∙ (ap (numbered (length front + 1)) is ∙ numbered-behind front r (revisions_in ss))

    head : event_by s (bare (Revise (key_of_job j) (length front + 1) r)) ≡ Some (Revise (key_of_job j) (length front + 1) r)
    head = ap (λ (o : Option Posted). option_map (λ p. Revise (key_of_job j) (length front + 1) p) o) found

    long : length (front ++ r ∷ []) ≡ length front + 1
    long = length-append front (r ∷ [])

    rest : AreScripted s (step_events (key_of_job j) (length (front ++ r ∷ []) + 1) ss) → AreScripted s (step_events (key_of_job j) (length front + 1 + 1) ss)
    rest again = subst (λ (n : ℕ). AreScripted s (step_events (key_of_job j) (n + 1) ss)) long again
stepped-scripted s j front (steps.Reask w ∷ ss) under is = ap (λ (os : List (Option Event)). Some (Reask (key_of_job j) w) ∷ os) (stepped-scripted s j front ss under is)

job-scripted : (s : Scripted) (j : ScriptedJob) → job_under (key_of_job j) s.jobs ≡ Some j → AreScripted s (job_events j)
job-scripted s j under = scripted-append s (step_events (key_of_job j) 1 j.steps) (Close (key_of_job j) ∷ []) (stepped-scripted s j [] j.steps under refl) refl

-- each of these jobs is under its key
abbrev AreUnder : Scripted → List ScriptedJob → Type 0
AreUnder s [] = Unit {0}
AreUnder s (j ∷ js) = (job_under (key_of_job j) s.jobs ≡ Some j) × AreUnder s js

all-under : (s : Scripted) (before js : List ScriptedJob) → s.jobs ≡ before ++ js → IsScript limits s → AreUnder s js
all-under s before [] is formed = tt
all-under s before (j ∷ js) is formed =
    let part : IsPart before j js = part-of limits before j js (subst (λ (x : List ScriptedJob). MayAllFollow limits [] x) is formed) in (
      ap (job_under (key_of_job j)) is ∙ under-key before j js part.first,
      all-under s (before ++ j ∷ []) js (is ∙ sym (append_assoc before (j ∷ []) js)) formed,
    )

filter-under : (s : Scripted) (test : ScriptedJob → Bool) (js : List ScriptedJob) → AreUnder s js → AreUnder s (filter test js)
filter-under s test [] are = tt
filter-under s test (j ∷ js) are = by_test (test j) (filter-under s test js are.1)
  where
    by_test : (b : Bool) → AreUnder s (filter test js) → AreUnder s (cond b (j ∷ filter test js) (filter test js))
    by_test true rest = (are.0, rest)
    by_test false rest = rest

opened-scripted : (s : Scripted) (js : List ScriptedJob) → AreScripted s (open_events js)
opened-scripted s [] = refl
opened-scripted s (j ∷ js) = ap (λ (os : List (Option Event)). Some (Open (key_of_job j) j.ask) ∷ os) (opened-scripted s js)

posted-scripted : (s : Scripted) (js : List ScriptedJob) → AreUnder s js → AreScripted s (flat_map job_events js)
posted-scripted s [] are = refl
posted-scripted s (j ∷ js) are = scripted-append s (job_events j) (flat_map job_events js) (job-scripted s j are.0) (posted-scripted s js are.1)

pub posts-scripted : (s : Scripted) (tenant : List ℕ) → IsScript limits s → AreScripted s (posts_of tenant s)
posts-scripted s tenant formed =
    let js : List ScriptedJob = jobs_of_tenant tenant s in
    scripted-append s (open_events js) (flat_map job_events js) (opened-scripted s js) (posted-scripted s js (filter-under s (λ j. is_text tenant j.tenant) s.jobs (all-under s [] s.jobs refl formed)))

-- a tenant's posts are written as its lines
post-bare : (tenant : List ℕ) (e : Event) → is_post_line tenant (bare e) ≡ is_post_of tenant e
post-bare tenant (Open k ask) = refl
post-bare tenant (Revise k number r) = refl
post-bare tenant (Reask k w) = refl
post-bare tenant (Close k) = refl
post-bare tenant (Balance shares) = refl
post-bare tenant (Start k index worker) = refl
post-bare tenant (Finish k index worker outcome) = refl
post-bare tenant (Exchange k) = refl
post-bare tenant (Leave k) = refl
post-bare tenant (Arrive k brought) = refl

posts-bare : (tenant : List ℕ) (events : List Event) → post_lines tenant (map bare events) ≡ map bare (filter (is_post_of tenant) events)
posts-bare tenant [] = refl
posts-bare tenant (e ∷ es) =
    ap (λ (b : Bool). cond b (bare e ∷ post_lines tenant (map bare es)) (post_lines tenant (map bare es))) (post-bare tenant e)
    ∙ by_test (is_post_of tenant e) (posts-bare tenant es)
  where
    by_test : (b : Bool) → post_lines tenant (map bare es) ≡ map bare (filter (is_post_of tenant) es) → cond b (bare e ∷ post_lines tenant (map bare es)) (post_lines tenant (map bare es)) ≡ map bare (cond b (e ∷ filter (is_post_of tenant) es) (filter (is_post_of tenant) es))
    by_test true rest = ap (λ (xs : List written.Event). bare e ∷ xs) rest
    by_test false rest = rest

-- lines of events that are the script's are of the same events
same-scripted : (s : Scripted) (one other : List Event) → AreScripted s one → AreScripted s other → map bare one ≡ map bare other → one ≡ other
same-scripted s one other a b same = some-same one other (sym a ∙ (ap (map (event_by s)) same ∙ b))

-- each tenant posted just what the script says, exactly where it is written so
pub lines-posted : (s : Scripted) (lines : List written.Event) (events : List Event) → IsScript limits s → AreWritten s lines events → HavePosts s lines → (tenant : List ℕ) → filter (is_post_of tenant) events ≡ posts_of tenant s
lines-posted s lines events formed are have tenant =
    same-scripted s (filter (is_post_of tenant) events) (posts_of tenant s) (scripted-filter s (is_post_of tenant) events (scripted-of s lines events are)) (posts-scripted s tenant formed) (sym (posts-bare tenant events) ∙ (ap (post_lines tenant) (sym (written-bare s lines events are)) ∙ have tenant))

pub posted-lines : (s : Scripted) (lines : List written.Event) (events : List Event) → AreWritten s lines events → ((tenant : List ℕ) → filter (is_post_of tenant) events ≡ posts_of tenant s) → HavePosts s lines
posted-lines s lines events are posts tenant =
    ap (post_lines tenant) (written-bare s lines events are) ∙ (posts-bare tenant events ∙ ap (map bare) (posts tenant))
