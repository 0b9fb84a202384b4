-- What is due, one event further.
use Rattle.std.proofs.Common.{◌≡◌, ◌⊎◌, inl, inr, ℕ, zero, suc, ◌+◌, ◌≤◌, Bool, true, false, cond, List, [], ◌∷◌, ◌++◌, length, flat_map, take, drop, slice_get, Option, Some, None, refl, sym, ◌∙◌, ap, subst, arith, append-nil, length-append}
use Rattle.std.specs.Option.{option_map_or}
use Rattle.std.proofs.lemmas.Option.{slice_get_past, slice_get_within, get_or_from_slice_get}
use Rattle.std.proofs.lemmas.List.{drop_more, take_all}
use Rattle.std.proofs.lemmas.Grind.{flat_map-append}
use Rattle.mal_posts.specs.Dues.{IsNumbered, events_behind, jobs_from, left_in, number_behind, of_tenant, step_event}
use Rattle.mal_posts.specs.declared.cursor.Left.{Left}
use Rattle.spec_hall.specs.Events.{Event, Reask, Close}
use Rattle.spec_hall.specs.Own.{is_text}
use Rattle.spec_hall.proofs.KeyLemmas.{is_text-Decides}
use Rattle.spec_job.specs.KeyedJob.{Key}
use Rattle.spec_run.proofs.PostingLemmas.{take-one}
use Rattle.spec_run.specs.Complete.{job_events, key_of_job, step_events}
use Rattle.spec_script.specs.Script.{ScriptedJob, revisions_at, revisions_in}
use Rattle.spec_script.specs.declared.step.Step.{Step}
use Rattle.spec_script.specs.declared.step.Step.TheVariants as steps

drop-one : {A : Type 0} (xs : List A) (i : ℕ) (x : A) → slice_get xs i ≡ Some x → drop i xs ≡ x ∷ drop (i + 1) xs
drop-one xs i x at = drop_more xs i x (slice_get_within xs i x at) ∙ ap (λ y. y ∷ drop (i + 1) xs) (get_or_from_slice_get xs i x x at)

drop-none : {A : Type 0} (xs : List A) (i : ℕ) → slice_get xs i ≡ None → drop i xs ≡ []
drop-none [] zero at = refl
drop-none [] (suc i) at = refl
drop-none (x ∷ xs) zero at = absurd (cc)
drop-none (x ∷ xs) (suc i) at = drop-none xs i at

drop-past : {A : Type 0} (xs : List A) (i : ℕ) → length xs ≤ i → drop i xs ≡ []
drop-past xs i past = drop-none xs i (slice_get_past xs i past)

-- the job at a place, and the later jobs of its tenant
from-some : (js : List ScriptedJob) (i : ℕ) (j : ScriptedJob) → slice_get js i ≡ Some j → jobs_from js i ≡ j ∷ of_tenant j.tenant (drop (i + 1) js)
from-some js i j at = ap (λ (o : Option ScriptedJob). option_map_or (λ k. k ∷ of_tenant k.tenant (drop (i + 1) js)) o []) at

from-past : (js : List ScriptedJob) (i : ℕ) → slice_get js i ≡ None → jobs_from js i ≡ []
from-past js i at = ap (λ (o : Option ScriptedJob). option_map_or (λ k. k ∷ of_tenant k.tenant (drop (i + 1) js)) o []) at

-- a job of the tenant, and one of another
pub place-found : (tenant : List ℕ) (js : List ScriptedJob) (i : ℕ) (j : ScriptedJob) (jobs : List ScriptedJob) → jobs ≡ of_tenant tenant (drop i js) → slice_get js i ≡ Some j → is_text tenant j.tenant ≡ true → jobs ≡ jobs_from js i
place-found tenant js i j jobs so_far at mine =
    so_far ∙ (ap (of_tenant tenant) (drop-one js i j at)
    ∙ (ap (λ (b : Bool). cond b (j ∷ of_tenant tenant (drop (i + 1) js)) (of_tenant tenant (drop (i + 1) js))) mine
    ∙ (ap (λ (t : List ℕ). j ∷ of_tenant t (drop (i + 1) js)) ((is_text-Decides tenant j.tenant).0 mine) ∙ sym (from-some js i j at))))

pub place-passed : (tenant : List ℕ) (js : List ScriptedJob) (i : ℕ) (j : ScriptedJob) (jobs : List ScriptedJob) → jobs ≡ of_tenant tenant (drop i js) → slice_get js i ≡ Some j → is_text tenant j.tenant ≡ false → jobs ≡ of_tenant tenant (drop (i + 1) js)
place-passed tenant js i j jobs so_far at other =
    so_far ∙ (ap (of_tenant tenant) (drop-one js i j at)
    ∙ ap (λ (b : Bool). cond b (j ∷ of_tenant tenant (drop (i + 1) js)) (of_tenant tenant (drop (i + 1) js))) other)

pub place-none : (tenant : List ℕ) (js : List ScriptedJob) (i n : ℕ) (jobs : List ScriptedJob) → jobs ≡ of_tenant tenant (drop i js) → length js ≤ i → n ≡ length js → jobs ≡ jobs_from js n
place-none tenant js i n jobs so_far past end =
    so_far ∙ (ap (of_tenant tenant) (drop-past js i past) ∙ sym (from-past js n (slice_get_past js n (omega (arith, end)))))

-- the number of the next revision after one step more
few-revisions : (s : Step) → length (revisions_at s) ≤ 1
few-revisions (steps.Revise r) = omega arith
few-revisions (steps.Reask w) = omega arith

few-before : (ss : List Step) (n : ℕ) → length (revisions_in (take n ss)) ≤ n
few-before [] zero = omega arith
few-before [] (suc n) = omega arith
few-before (s ∷ ss) zero = omega arith
few-before (s ∷ ss) (suc n) =
    let all : length (revisions_at s ++ revisions_in (take n ss)) ≡ length (revisions_at s) + length (revisions_in (take n ss)) = length-append (revisions_at s) (revisions_in (take n ss)) in
    omega (arith, all, few-revisions s, few-before ss n)

revisions-more : (ss : List Step) (i : ℕ) (s : Step) → slice_get ss i ≡ Some s → length (revisions_in (take (i + 1) ss)) ≡ length (revisions_in (take i ss)) + length (revisions_at s)
revisions-more ss i s at =
    ap (λ (x : List Step). length (revisions_in x)) (take-one ss i s (slice_get_within ss i s at) (sym (get_or_from_slice_get ss i s s at)))
    ∙ (ap length (flat_map-append revisions_at (take i ss) (s ∷ [])) ∙ (length-append (revisions_in (take i ss)) (revisions_in (s ∷ [])) ∙ ap (λ (n : ℕ). length (revisions_in (take i ss)) + n) (ap length (append-nil (revisions_at s)))))

pub number-more : (ss : List Step) (i n later : ℕ) (s : Step) → n ≡ length (revisions_in (take i ss)) + 1 → later ≡ n + length (revisions_at s) → slice_get ss i ≡ Some s → later ≡ length (revisions_in (take (i + 1) ss)) + 1
number-more ss i n later s number step at = omega (arith, number, step, revisions-more ss i s at)

pub number-all : (ss : List Step) (i n posted : ℕ) → n ≡ length (revisions_in (take i ss)) + 1 → (i ≡ posted) ⊎ ((i ≡ length ss) × (length ss ≤ posted)) → n ≡ length (revisions_in (take posted ss)) + 1
number-all ss i n posted number (inl same) = number ∙ ap (λ (k : ℕ). length (revisions_in (take k ss)) + 1) same
number-all ss i n posted number (inr (end, past)) = number ∙ ap (λ (x : List Step). length (revisions_in x) + 1) (take_all i ss (omega (arith, end)) ∙ sym (take_all posted ss past))

pub number-low : (js : List ScriptedJob) (l : Left) (j : ScriptedJob) (n : ℕ) → IsNumbered js l n → slice_get js l.job ≡ Some j → n ≤ l.posted + 1
number-low js l j n numbered at = omega (arith, numbered j at, few-before j.steps l.posted)

same-some : {A : Type 0} (x y : A) → Some x ≡ Some y → x ≡ y
same-some x y e = cc

pub numbered-step : (js : List ScriptedJob) (l : Left) (j : ScriptedJob) (s : Step) (n later : ℕ) → IsNumbered js l n → slice_get js l.job ≡ Some j → slice_get j.steps l.posted ≡ Some s → later ≡ n + length (revisions_at s) → IsNumbered js (record { job = l.job; posted = l.posted + 1 }) later
numbered-step js l j s n later numbered at step is k other =
    let same : j ≡ k = same-some j k (sym at ∙ other) in
    subst (λ (x : ScriptedJob). later ≡ number_behind (l.posted + 1) x) same (number-more j.steps l.posted n later s (numbered j at) is step)

pub numbered-first : (js : List ScriptedJob) (i : ℕ) → IsNumbered js (record { job = i; posted = 0 }) 1
numbered-first js i j at = refl

-- what is left, with the job there
left-some : (js : List ScriptedJob) (l : Left) (j : ScriptedJob) → slice_get js l.job ≡ Some j → left_in js l ≡ events_behind l.posted j ++ flat_map job_events (of_tenant j.tenant (drop (l.job + 1) js))
left-some js l j at = ap (λ (o : Option ScriptedJob). option_map_or (λ k. events_behind l.posted k ++ flat_map job_events (of_tenant k.tenant (drop (l.job + 1) js))) o []) at

pub left-none : (js : List ScriptedJob) (l : Left) → slice_get js l.job ≡ None → left_in js l ≡ []
left-none js l at = ap (λ (o : Option ScriptedJob). option_map_or (λ k. events_behind l.posted k ++ flat_map job_events (of_tenant k.tenant (drop (l.job + 1) js))) o []) at

pub left-first : (js : List ScriptedJob) (i : ℕ) → left_in js (record { job = i; posted = 0 }) ≡ flat_map job_events (jobs_from js i)
left-first js i = by_job (slice_get js i) refl
  where
    by_job : (o : Option ScriptedJob) → slice_get js i ≡ o → left_in js (record { job = i; posted = 0 }) ≡ flat_map job_events (jobs_from js i)
    by_job None at = left-none js (record { job = i; posted = 0 }) at ∙ sym (ap (flat_map job_events) (from-past js i at))
    by_job (Some j) at = left-some js (record { job = i; posted = 0 }) j at ∙ sym (ap (flat_map job_events) (from-some js i j at))

-- the next step of a job
stepped : (k : Key) (n : ℕ) (s : Step) (ss : List Step) → step_events k n (s ∷ ss) ≡ step_event k n s ∷ step_events k (n + length (revisions_at s)) ss
stepped k n (steps.Revise r) ss = refl
stepped k n (steps.Reask w) ss = ap (λ (m : ℕ). Reask k w ∷ step_events k m ss) (plus-none n)
  where
    plus-none : (m : ℕ) → m ≡ m + 0
    plus-none m = omega arith

behind-step : (j : ScriptedJob) (n : ℕ) (s : Step) → slice_get j.steps n ≡ Some s → events_behind n j ≡ step_event (key_of_job j) (number_behind n j) s ∷ events_behind (n + 1) j
behind-step j n s at =
    let k : Key = key_of_job j in
    let more : number_behind n j + length (revisions_at s) ≡ number_behind (n + 1) j = omega (arith, revisions-more j.steps n s at) in
    ap (λ (ss : List Step). step_events k (number_behind n j) ss ++ Close k ∷ []) (drop-one j.steps n s at)
    ∙ (ap (λ (es : List Event). es ++ Close k ∷ []) (stepped k (number_behind n j) s (drop (n + 1) j.steps))
    ∙ ap (λ (m : ℕ). step_event k (number_behind n j) s ∷ (step_events k m (drop (n + 1) j.steps) ++ Close k ∷ [])) more)

pub next-step : (js : List ScriptedJob) (l : Left) (j : ScriptedJob) (s : Step) (n : ℕ) → IsNumbered js l n → slice_get js l.job ≡ Some j → slice_get j.steps l.posted ≡ Some s → left_in js l ≡ step_event (key_of_job j) n s ∷ left_in js (record { job = l.job; posted = l.posted + 1 })
next-step js l j s n numbered at step =
    let later : List Event = flat_map job_events (of_tenant j.tenant (drop (l.job + 1) js)) in
    left-some js l j at
    ∙ (ap (λ (es : List Event). es ++ later) (behind-step j l.posted s step)
    ∙ (ap (λ (m : ℕ). step_event (key_of_job j) m s ∷ (events_behind (l.posted + 1) j ++ later)) (sym (numbered j at))
    ∙ ap (λ (es : List Event). step_event (key_of_job j) n s ∷ es) (sym (left-some js (record { job = l.job; posted = l.posted + 1 }) j at))))

-- the closing of a job after its steps
pub next-closing : (js : List ScriptedJob) (l : Left) (j : ScriptedJob) (later : ℕ) → slice_get js l.job ≡ Some j → slice_get j.steps l.posted ≡ None → of_tenant j.tenant (drop (l.job + 1) js) ≡ jobs_from js later → left_in js l ≡ Close (key_of_job j) ∷ left_in js (record { job = later; posted = 0 })
next-closing js l j later at none place =
    let k : Key = key_of_job j in
    left-some js l j at
    ∙ (ap (λ (ss : List Step). (step_events k (number_behind l.posted j) ss ++ Close k ∷ []) ++ flat_map job_events (of_tenant j.tenant (drop (l.job + 1) js))) (drop-none j.steps l.posted none)
    ∙ (ap (λ (xs : List ScriptedJob). Close k ∷ flat_map job_events xs) place ∙ ap (λ (es : List Event). Close k ∷ es) (sym (left-first js later))))
