-- Of each job the opening is posted first and the closing last.
use Rattle.std.proofs.Common.{◌≡◌, ℕ, ◌≤◌, Bool, true, false, List, [], ◌∷◌, ◌++◌, length, filter, map, Option, Some, refl, sym, ap, ap₂, subst, ◌∙◌, inl, inr, arith, append_assoc, append-nil, option_to_list}
use Rattle.std.specs.List.{list_any}
use Rattle.std.specs.Str.{bytes_eq}
use Rattle.std.proofs.lemmas.List.Elements.{filter-append}
use Rattle.mal_base.proofs.Sorting.{and-left, and-right}
use Rattle.mal_base.specs.declared.key.Key.{Key}
use Rattle.mal_base.specs.declared.limits.Limits.{Limits}
use Rattle.spec_script.specs.Script.{ScriptedJob}
use Rattle.spec_script.specs.declared.step.Step.{Step}
use Rattle.spec_script.specs.Grammar.{StepLines}
use Rattle.spec_script.specs.Reading.{OpenJob, begun, is_job}
use Rattle.spec_script.proofs.Inversions.{same_bytes}
use Rattle.spec_feed.specs.declared.post.FeedPost.{FeedPost}
use Rattle.spec_feed.specs.declared.post.FeedPost.TheVariants.{Opens, Takes, Closes}
use Rattle.spec_feed.specs.Reading.{Feeding, closings, is_open_job, is_opened, key_of, opened, unfed}
use Rattle.spec_feed.specs.Grammar.{Part, Tenant, First, Again, Within, Last, JobWords, Names, Begins, GoesOn, StepsOn, Ends, Makes, MakeAll}
use Rattle.spec_feed.specs.Orders.{IsOrderly, is_post_of, posts_of}
use Rattle.spec_feed.specs.Posts.{job_posts}
use Rattle.spec_feed.specs.Laws.{PostsAreOrderly}
use Rattle.spec_feed.proofs.Filters.{Alone, alone, filter-last, filter-map, filter-no_last, filter-not, filter-turn, filter-yes, none-any, none-kept, not-none, rotated, some-any}
use Rattle.spec_feed.proofs.Scripts.{OneMore, one-more, with_steps}

-- the jobs of this key among those that have begun, and among those that have not ended
abbrev those_begun : Key → Feeding → List ScriptedJob
those_begun k s = filter (is_job k.tenant k.job) s.begun

abbrev those_open : Key → List OpenJob → List OpenJob
those_open k jobs = filter (is_open_job k.tenant k.job) jobs

-- what a job has posted before it ends
abbrev first_posts : ScriptedJob → List FeedPost
first_posts j = Opens (key_of j) j.ask ∷ map (Takes (key_of j)) j.steps

-- the job of a key has not begun, has begun and not ended, or has ended, and so much is posted of it
record Fresh (k : Key) (s : Feeding) (past : List FeedPost) : Type 0 where
  begun : those_begun k s ≡ []
  still : those_open k (opened s) ≡ []
  posts : posts_of k past ≡ []

record Going (k : Key) (s : Feeding) (past : List FeedPost) : Type 0 where
  first : ScriptedJob
  job : OpenJob
  first_own : key_of first ≡ k
  own : key_of job.job ≡ k
  begun : those_begun k s ≡ first ∷ []
  still : those_open k (opened s) ≡ job ∷ []
  posts : posts_of k past ≡ first_posts job.job

record Done (k : Key) (s : Feeding) (past : List FeedPost) : Type 0 where
  first : ScriptedJob
  job : ScriptedJob
  first_own : key_of first ≡ k
  own : key_of job ≡ k
  begun : those_begun k s ≡ first ∷ []
  still : those_open k (opened s) ≡ []
  posts : posts_of k past ≡ job_posts job

data Stands (k : Key) (s : Feeding) (past : List FeedPost) : Type 0 where
  IsFresh : Fresh k s past → Stands k s past
  IsGoing : Going k s past → Stands k s past
  IsDone : Done k s past → Stands k s past

-- ---- what is of another job

no-more : (k : Key) (past new : List FeedPost) → posts_of k new ≡ [] → posts_of k (past ++ new) ≡ posts_of k past
no-more k past new e = filter-append (is_post_of k) past new ∙ ap (λ (ps : List FeedPost). posts_of k past ++ ps) e ∙ append-nil (posts_of k past)

stays : (k : Key) (s t : Feeding) (past new : List FeedPost) → those_begun k t ≡ those_begun k s → those_open k (opened t) ≡ those_open k (opened s) → posts_of k new ≡ [] → Stands k s past → Stands k t (past ++ new)
stays k s t past new b o e (IsFresh h) = IsFresh (record { begun = b ∙ h.begun; still = o ∙ h.still; posts = no-more k past new e ∙ h.posts })
stays k s t past new b o e (IsGoing h) = IsGoing (record { first = h.first; job = h.job; first_own = h.first_own; own = h.own; begun = b ∙ h.begun; still = o ∙ h.still; posts = no-more k past new e ∙ h.posts })
stays k s t past new b o e (IsDone h) = IsDone (record { first = h.first; job = h.job; first_own = h.first_own; own = h.own; begun = b ∙ h.begun; still = o ∙ h.still; posts = no-more k past new e ∙ h.posts })

-- at most one job of a key is open
few-open : (k : Key) (s : Feeding) (past : List FeedPost) → Stands k s past → length (those_open k (opened s)) ≤ 1
few-open k s past (IsFresh h) = subst (λ (os : List OpenJob). length os ≤ 1) (sym h.still) (omega arith)
few-open k s past (IsGoing h) = subst (λ (os : List OpenJob). length os ≤ 1) (sym h.still) (omega arith)
few-open k s past (IsDone h) = subst (λ (os : List OpenJob). length os ≤ 1) (sym h.still) (omega arith)

-- a job that passes the test of a key has it
key-same : (k : Key) (j : ScriptedJob) → is_job k.tenant k.job j ≡ true → key_of j ≡ k
key-same k j e =
    let tenant : k.tenant ≡ j.tenant = same_bytes k.tenant j.tenant (and-left _ _ e) in
    let name : k.job ≡ j.name = same_bytes k.job j.name (and-right (bytes_eq k.tenant j.tenant) _ e) in
    keyed j.tenant k.tenant j.name k.job (sym tenant) (sym name)
  where
    keyed : (a b c d : List ℕ) → a ≡ b → c ≡ d → ◌≡◌ {A = Key} (record { tenant = a; job = c }) (record { tenant = b; job = d })
    keyed a b c d e f = ap₂ (λ (tenant job : List ℕ). record { tenant = tenant; job = job }) e f

-- ---- a tenant's line

tenant-stands : (most : Limits) (k : Key) (s : Feeding) (name : List ℕ) (after : Feeding) (past posts : List FeedPost) → Names most s name after posts → Stands k s past → Stands k after (past ++ posts)
tenant-stands most k s name after past posts is h =
    stays k s after past posts
    (ap (those_begun k) is.left)
    (ap (λ (t : Feeding). those_open k (opened t)) is.left ∙ ap (those_open k) (append-nil (opened s)))
    (ap (posts_of k) is.posted) h

-- ---- the first line of a job

first-stands : (most : Limits) (k : Key) (s : Feeding) (j : JobWords) (after : Feeding) (past posts : List FeedPost) → Begins most s j after posts → Stands k s past → Stands k after (past ++ posts)
first-stands most k s j after past posts is h = by_test (is_job k.tenant k.job (begun is.tenant j.name is.ask).job) refl h
  where
    all_begun : those_begun k after ≡ filter (is_job k.tenant k.job) (s.begun ++ (begun is.tenant j.name is.ask).job ∷ [])
    all_begun = ap (those_begun k) is.left

    all_open : those_open k (opened after) ≡ those_open k (opened s ++ begun is.tenant j.name is.ask ∷ [])
    all_open = ap (λ (t : Feeding). those_open k (opened t)) is.left

    -- no job of this key has begun before
    new : key_of (begun is.tenant j.name is.ask).job ≡ k → those_begun k s ≡ []
    new same =
        none-kept (is_job k.tenant k.job) s.begun
        (ap₂ (λ (tenant name : List ℕ). list_any (is_job tenant name) s.begun) (sym (ap (λ (x : Key). x.tenant) same)) (sym (ap (λ (x : Key). x.job) same)) ∙ is.admitted.new)

    by_stand : is_job k.tenant k.job (begun is.tenant j.name is.ask).job ≡ true → Stands k s past → Stands k after (past ++ posts)
    by_stand q (IsFresh f) =
        let same : key_of (begun is.tenant j.name is.ask).job ≡ k = key-same k (begun is.tenant j.name is.ask).job q in
        IsGoing (record {
          first = (begun is.tenant j.name is.ask).job;
          job = begun is.tenant j.name is.ask;
          first_own = same;
          own = same;
          begun = all_begun ∙ filter-last (is_job k.tenant k.job) s.begun (begun is.tenant j.name is.ask).job q ∙ ap (λ (js : List ScriptedJob). js ++ (begun is.tenant j.name is.ask).job ∷ []) f.begun;
          still = all_open ∙ filter-last (is_open_job k.tenant k.job) (opened s) (begun is.tenant j.name is.ask) q ∙ ap (λ (os : List OpenJob). os ++ begun is.tenant j.name is.ask ∷ []) f.still;
          posts = ap (λ (ps : List FeedPost). posts_of k (past ++ ps)) is.posted ∙ filter-last (is_post_of k) past (Opens (record { tenant = is.tenant; job = j.name }) is.ask) q ∙ ap (λ (ps : List FeedPost). ps ++ Opens (record { tenant = is.tenant; job = j.name }) is.ask ∷ []) f.posts;
        })
    by_stand q (IsGoing g) = let none : those_begun k s ≡ [] = new (key-same k (begun is.tenant j.name is.ask).job q) in let some : those_begun k s ≡ g.first ∷ [] = g.begun in absurd (cc)
    by_stand q (IsDone g) = let none : those_begun k s ≡ [] = new (key-same k (begun is.tenant j.name is.ask).job q) in let some : those_begun k s ≡ g.first ∷ [] = g.begun in absurd (cc)

    by_test : (b : Bool) → is_job k.tenant k.job (begun is.tenant j.name is.ask).job ≡ b → Stands k s past → Stands k after (past ++ posts)
    by_test true q i = by_stand q i
    by_test false q i =
        stays k s after past posts
        (all_begun ∙ filter-no_last (is_job k.tenant k.job) s.begun (begun is.tenant j.name is.ask).job q)
        (all_open ∙ filter-no_last (is_open_job k.tenant k.job) (opened s) (begun is.tenant j.name is.ask) q)
        (ap (posts_of k) is.posted ∙ filter-not (is_post_of k) (Opens (record { tenant = is.tenant; job = j.name }) is.ask) [] q) i

-- ---- the line that goes on with an open job

again-stands : (k : Key) (s : Feeding) (name : List ℕ) (after : Feeding) (past posts : List FeedPost) → GoesOn s name after posts → Stands k s past → Stands k after (past ++ posts)
again-stands k s name after past posts is h =
    let few : length (those_open k (is.front ++ is.job ∷ is.rest)) ≤ 1 = subst (λ (os : List OpenJob). length (those_open k os) ≤ 1) is.found (few-open k s past h) in
    stays k s after past posts
    (ap (those_begun k) is.left)
    (ap (λ (t : Feeding). those_open k (opened t)) is.left ∙ rotated (is_open_job k.tenant k.job) is.front is.job is.rest few ∙ sym (ap (those_open k) is.found))
    (ap (posts_of k) is.posted) h

-- ---- a step

more-posts : (j : ScriptedJob) (step : Step) → first_posts (with_steps j (step ∷ [])) ≡ first_posts j ++ Takes (key_of j) step ∷ []
more-posts j step = ap (λ (ps : List FeedPost). Opens (key_of j) j.ask ∷ ps) (map-last (Takes (key_of j)) j.steps)
  where
    map-last : (f : Step → FeedPost) (steps : List Step) → map f (steps ++ step ∷ []) ≡ map f steps ++ f step ∷ []
    map-last f [] = refl
    map-last f (x ∷ xs) = ap (λ (ps : List FeedPost). f x ∷ ps) (map-last f xs)

step-stands : (most : Limits) (k : Key) (s after : Feeding) (past posts : List FeedPost) (o next : OpenJob) (step : Step) → s.current ≡ Some o → next.job ≡ with_steps o.job (step ∷ []) → after ≡ record s { current = Some next } → posts ≡ Takes (key_of o.job) step ∷ [] → Stands k s past → Stands k after (past ++ posts)
step-stands most k s after past posts o next step own more left posted h = by_test (is_job k.tenant k.job o.job) refl h
  where
    all_begun : those_begun k after ≡ those_begun k s
    all_begun = ap (those_begun k) left

    before : those_open k (opened s) ≡ those_open k (s.aside ++ o ∷ [])
    before = ap (λ (c : Option OpenJob). those_open k (s.aside ++ option_to_list c)) own

    now : those_open k (opened after) ≡ those_open k (s.aside ++ next ∷ [])
    now = ap (λ (t : Feeding). those_open k (opened t)) left

    same_test : is_job k.tenant k.job next.job ≡ is_job k.tenant k.job o.job
    same_test = ap (is_job k.tenant k.job) more

    by_stand : is_job k.tenant k.job o.job ≡ true → Stands k s past → Stands k after (past ++ posts)
    by_stand q (IsFresh f) = absurd (not-none (those_open k s.aside) o [] (sym (before ∙ filter-last (is_open_job k.tenant k.job) s.aside o q) ∙ f.still))
    by_stand q (IsDone f) = absurd (not-none (those_open k s.aside) o [] (sym (before ∙ filter-last (is_open_job k.tenant k.job) s.aside o q) ∙ f.still))
    by_stand q (IsGoing g) =
        let a : Alone (those_open k s.aside) o g.job = alone (those_open k s.aside) o g.job (sym (before ∙ filter-last (is_open_job k.tenant k.job) s.aside o q) ∙ g.still) in
        IsGoing (record {
          first = g.first;
          job = next;
          first_own = g.first_own;
          own = ap key_of more ∙ key-same k o.job q;
          begun = all_begun ∙ g.begun;
          still = now ∙ filter-last (is_open_job k.tenant k.job) s.aside next (same_test ∙ q) ∙ ap (λ (os : List OpenJob). os ++ next ∷ []) a.none;
          posts =
              ap (λ (ps : List FeedPost). posts_of k (past ++ ps)) posted
              ∙ filter-last (is_post_of k) past (Takes (key_of o.job) step) q
              ∙ ap (λ (ps : List FeedPost). ps ++ Takes (key_of o.job) step ∷ []) (g.posts ∙ ap (λ (x : OpenJob). first_posts x.job) (sym a.same))
              ∙ sym (more-posts o.job step)
              ∙ ap first_posts (sym more);
        })

    by_test : (b : Bool) → is_job k.tenant k.job o.job ≡ b → Stands k s past → Stands k after (past ++ posts)
    by_test true q i = by_stand q i
    by_test false q i =
        stays k s after past posts all_begun
        (now ∙ filter-no_last (is_open_job k.tenant k.job) s.aside next (same_test ∙ q) ∙ sym (before ∙ filter-no_last (is_open_job k.tenant k.job) s.aside o q))
        (ap (posts_of k) posted ∙ filter-not (is_post_of k) (Takes (key_of o.job) step) [] q) i

within-stands : (most : Limits) (k : Key) (s after : Feeding) (past posts : List FeedPost) (lines : StepLines) → StepsOn most s lines after posts → Stands k s past → Stands k after (past ++ posts)
within-stands most k s after past posts lines is h =
    let one : OneMore is.job is.next = one-more most is.job lines is.next is.stepped in
    let more : is.next.job ≡ with_steps is.job.job (is.step ∷ []) =
    one.job ∙ sym (ap (λ (x : ScriptedJob). record is.job.job { steps = x.steps }) one.job) ∙ ap (λ (xs : List Step). record is.job.job { steps = xs }) is.more in
    step-stands most k s after past posts is.job is.next is.step is.current more is.left is.posted h

-- ---- the line that ends a job

last-stands : (k : Key) (s after : Feeding) (past posts : List FeedPost) → Ends s after posts → Stands k s past → Stands k after (past ++ posts)
last-stands k s after past posts is h = by_test (is_job k.tenant k.job is.job.job) refl h
  where
    all_begun : those_begun k after ≡ those_begun k s
    all_begun = ap (those_begun k) is.left

    before : those_open k (opened s) ≡ those_open k (s.aside ++ is.job ∷ [])
    before = ap (λ (c : Option OpenJob). those_open k (s.aside ++ option_to_list c)) is.current

    now : those_open k (opened after) ≡ those_open k s.aside
    now = ap (λ (t : Feeding). those_open k (opened t)) is.left ∙ ap (those_open k) (append-nil s.aside)

    by_stand : is_job k.tenant k.job is.job.job ≡ true → Stands k s past → Stands k after (past ++ posts)
    by_stand q (IsFresh f) = absurd (not-none (those_open k s.aside) is.job [] (sym (before ∙ filter-last (is_open_job k.tenant k.job) s.aside is.job q) ∙ f.still))
    by_stand q (IsDone f) = absurd (not-none (those_open k s.aside) is.job [] (sym (before ∙ filter-last (is_open_job k.tenant k.job) s.aside is.job q) ∙ f.still))
    by_stand q (IsGoing g) =
        let a : Alone (those_open k s.aside) is.job g.job = alone (those_open k s.aside) is.job g.job (sym (before ∙ filter-last (is_open_job k.tenant k.job) s.aside is.job q) ∙ g.still) in
        IsDone (record {
          first = g.first;
          job = is.job.job;
          first_own = g.first_own;
          own = key-same k is.job.job q;
          begun = all_begun ∙ g.begun;
          still = now ∙ a.none;
          posts =
              ap (λ (ps : List FeedPost). posts_of k (past ++ ps)) is.posted
              ∙ filter-last (is_post_of k) past (Closes (key_of is.job.job)) q
              ∙ ap (λ (ps : List FeedPost). ps ++ Closes (key_of is.job.job) ∷ []) (g.posts ∙ ap (λ (x : OpenJob). first_posts x.job) (sym a.same));
        })

    by_test : (b : Bool) → is_job k.tenant k.job is.job.job ≡ b → Stands k s past → Stands k after (past ++ posts)
    by_test true q i = by_stand q i
    by_test false q i =
        stays k s after past posts all_begun
        (now ∙ sym (before ∙ filter-no_last (is_open_job k.tenant k.job) s.aside is.job q))
        (ap (posts_of k) is.posted ∙ filter-not (is_post_of k) (Closes (key_of is.job.job)) [] q) i

-- ---- the parts, and the end

part-stands : (most : Limits) (k : Key) (part : Part) (s after : Feeding) (past posts : List FeedPost) → Makes most s part after posts → Stands k s past → Stands k after (past ++ posts)
part-stands most k (Tenant name) s after past posts is h = tenant-stands most k s name after past posts is h
part-stands most k (First j) s after past posts is h = first-stands most k s j after past posts is h
part-stands most k (Again name) s after past posts is h = again-stands k s name after past posts is h
part-stands most k (Within lines) s after past posts is h = within-stands most k s after past posts lines is h
part-stands most k Last s after past posts is h = last-stands k s after past posts is h

all-stand : (most : Limits) (k : Key) (parts : List Part) (s after : Feeding) (past posts : List FeedPost) → MakeAll most s parts after posts → Stands k s past → Stands k after (past ++ posts)
all-stand most k [] s after past posts is h = subst (λ (t : Feeding). Stands k t (past ++ posts)) is.0 (subst (λ (ps : List FeedPost). Stands k s ps) (sym (append-nil past) ∙ ap (λ (ps : List FeedPost). past ++ ps) (sym is.1)) h)
all-stand most k (part ∷ parts) s after past posts (next, first, others, is, rest, all) h =
    subst (Stands k after) (append_assoc past first others ∙ ap (λ (ps : List FeedPost). past ++ ps) (sym all))
    (all-stand most k parts next after (past ++ first) others rest (part-stands most k part s next past first is h))

-- the closings of a key are those of its jobs that have begun and not ended
abbrev closing : ScriptedJob → FeedPost
closing j = Closes (key_of j)

closings-of : (k : Key) (s : Feeding) → posts_of k (closings s) ≡ map closing (filter (is_opened s) (those_begun k s))
closings-of k s =
    filter-map (is_post_of k) closing (filter (is_opened s) s.begun)
    ∙ ap (map closing) (filter-turn (is_job k.tenant k.job) (is_opened s) s.begun)

-- a job of a key is open where one of this key is
opened-of : (k : Key) (s : Feeding) (j : ScriptedJob) → key_of j ≡ k → is_opened s j ≡ list_any (is_open_job k.tenant k.job) (opened s)
opened-of k s j same = ap (λ (x : Key). list_any (is_open_job x.tenant x.job) (opened s)) same

end-orderly : (k : Key) (s : Feeding) (past : List FeedPost) → Stands k s past → IsOrderly k (past ++ closings s)
end-orderly k s past (IsFresh h) =
    inl (no-more k past (closings s) (closings-of k s ∙ ap (λ (js : List ScriptedJob). map closing (filter (is_opened s) js)) h.begun) ∙ h.posts)
end-orderly k s past (IsDone h) =
    let gone : is_opened s h.first ≡ false = opened-of k s h.first h.first_own ∙ none-any (is_open_job k.tenant k.job) (opened s) h.still in
    let none : posts_of k (closings s) ≡ [] = closings-of k s ∙ ap (λ (js : List ScriptedJob). map closing (filter (is_opened s) js)) h.begun ∙ ap (map closing) (filter-not (is_opened s) h.first [] gone) in
    inr (h.job, h.own, no-more k past (closings s) none ∙ h.posts)
end-orderly k s past (IsGoing h) =
    let there : is_opened s h.first ≡ true = opened-of k s h.first h.first_own ∙ some-any (is_open_job k.tenant k.job) (opened s) h.job [] h.still in
    let one : posts_of k (closings s) ≡ Closes (key_of h.first) ∷ [] = closings-of k s ∙ ap (λ (js : List ScriptedJob). map closing (filter (is_opened s) js)) h.begun ∙ ap (map closing) (filter-yes (is_opened s) h.first [] there) in
    let same : key_of h.first ≡ key_of h.job.job = h.first_own ∙ sym h.own in
    inr (h.job.job, h.own, filter-append (is_post_of k) past (closings s) ∙ ap₂ (λ (ps qs : List FeedPost). ps ++ qs) h.posts (one ∙ ap (λ (x : Key). Closes x ∷ []) same))

pub posts-are_orderly : PostsAreOrderly
posts-are_orderly most text posts is k =
    let start : Stands k unfed [] = IsFresh (record { begun = refl; still = refl; posts = refl }) in
    subst (IsOrderly k) (sym is.posted) (end-orderly k is.after is.made_posts (all-stand most k is.parts unfed is.after [] is.made_posts is.made start))
