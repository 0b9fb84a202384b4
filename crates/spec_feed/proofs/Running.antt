-- What is spelled is read: the parts of a feed, line by line.
use Rattle.std.proofs.Common.{◌≡◌, ℕ, ◌<◌, Bool, true, false, cond, not, List, [], ◌∷◌, ◌++◌, length, map, flat_map, codes, Option, Some, None, Result, Ok, Err, refl, sym, ap, ap₂, subst, ◌∙◌, ◌⊎◌, inl, inr, nat_lt, append_assoc, option_to_list}
use Rattle.std.specs.Str.{bytes_eq}
use Rattle.std.specs.Prelude.{count_by}
use Rattle.std.specs.List.{list_all, list_any, slice_get, position_or_len, remove}
use Rattle.std.proofs.lemmas.Bool.{lt-ltb}
use Rattle.mal_base.specs.Asks.{Terms, Weighed}
use Rattle.mal_base.specs.Formulas.{Formulated}
use Rattle.mal_base.specs.declared.limit_kind.LimitKind.TheVariants.{Tenants, Jobs, Revisions}
use Rattle.mal_base.proofs.Sorting.{and-both, and-left, and-right}
use Rattle.mal_base.specs.declared.block_fault.BlockFault.{BlockFault}
use Rattle.spec_dimacs.specs.Rows.{is_passed}
use Rattle.spec_dimacs.specs.Reading as block
use Rattle.spec_dimacs.specs.Reading.{Block, ◌>>=◌, after_rows}
use Rattle.mal_base.specs.declared.line_fault.LineFault.{LineFault}
use Rattle.mal_base.specs.declared.line_fault.LineFault.TheVariants.{BadLine, Duplicate, Limit}
use Rattle.mal_base.specs.declared.limits.Limits.{Limits}
use Rattle.spec_script.specs.Assumptions.{assumptions_in}
use Rattle.spec_script.specs.Script.{revisions}
use Rattle.spec_script.specs.declared.step.Step.{Step}
use Rattle.spec_script.specs.Reading.{OpenJob, in_block, asked, ended_job, has_room, is_of, with_block, with_weight, revised, after_assumptions, after_header, after_weight, inside_block}
use Rattle.spec_script.specs.Grammar.{Admits, RevisionLines, StepLines, Revision, Weight, Revises, Reasks, is_inside, revision_lines, step_lines}
use Rattle.spec_script.proofs.Inversions.{bind_ok, ok_is}
use Rattle.spec_script.proofs.Assumed.{assumes-read}
use Rattle.spec_feed.specs.declared.post.FeedPost.{FeedPost}
use Rattle.spec_feed.specs.declared.post.FeedPost.TheVariants.{Takes}
use Rattle.spec_feed.specs.Reading.{Fed, Feeding, admitted, after_counted, after_job, after_row, at_end, begins, closings, ended, going_on, in_open_block, inside, inside_job, is_open_job, key_of, named, opened, outside, put_aside, quiet, taken_up}
use Rattle.spec_feed.specs.Grammar.{Part, Tenant, First, Again, Within, Last, JobWords, Names, Begins, GoesOn, StepsOn, Ends, part_lines, Makes, MakeAll}
use Rattle.spec_feed.proofs.Lists.{last-got, remove-at, found-at, all-append, all-split, bind-same}
use Rattle.spec_feed.proofs.Parsing.{AreCalm, is_calm, naming, no-step, none-aside, not_true, run, step-got}
use Rattle.spec_feed.proofs.WordLaws.{WordLaws}

-- posts before those of the lines that are left
abbrev pub after_posts : List FeedPost → Result (List FeedPost) LineFault → Result (List FeedPost) LineFault
after_posts first r = r >>= λ posts. Ok (first ++ posts)

-- the feed whose lines are of this job
abbrev at : Feeding → OpenJob → Feeding
at s o = record s { current = Some o }

-- a line that was read
pub run-line : (most : Limits) (row : List (List ℕ)) (rows : List (List (List ℕ))) (s : Feeding) (fed : Fed) → after_row most row s ≡ Ok fed → run most (row ∷ rows) s ≡ after_posts fed.posts (run most rows fed.left)
run-line most row rows s fed e = ap (λ (x : Result Fed LineFault). x >>= λ fed. run most rows fed.left >>= λ posts. Ok (fed.posts ++ posts)) e

-- ---- a step

-- a line of a job that posts nothing
run-quiet : (most : Limits) (row : List (List ℕ)) (rows : List (List (List ℕ))) (s : Feeding) (o : OpenJob) (b : Block) → after_row most row s ≡ Ok (going_on s o (with_block o b)) → run most (row ∷ rows) s ≡ run most rows (at s (with_block o b))
run-quiet most row rows s o b e =
    run-line most row rows s (going_on s o (with_block o b)) e
    ∙ ap (λ (xs : List Step). after_posts (map (Takes (key_of o.job)) xs) (run most rows (at s (with_block o b)))) (no-step o b)
    ∙ bind-same (run most rows (at s (with_block o b)))

-- the lines of a block after its header
run-body : (most : Limits) (body rest : List (List (List ℕ))) (s : Feeding) (o : OpenJob) (b e : Block) → list_all is_inside body ≡ true → after_rows body b ≡ Ok e → run most (body ++ rest) (at s (with_block o b)) ≡ run most rest (at s (with_block o e))
run-body most [] rest s o b e inside h = ap (λ (x : Block). run most rest (at s (with_block o x))) (ok_is b e h)
run-body most ([] ∷ body) rest s o b e inside h = absurd (cc)
run-body most ((first ∷ others) ∷ body) rest s o b e inside h =
    let own : is_inside (first ∷ others) ≡ true = and-left _ _ inside in
    let counts : is_passed (first ∷ others) ≡ false = not_true (is_passed (first ∷ others)) (and-left _ _ own) in
    let other : bytes_eq first (codes "a") ≡ false = not_true (bytes_eq first (codes "a")) (and-right (not (is_passed (first ∷ others))) _ own) in
    let a = bind_ok (block.after_row (first ∷ others) b) (after_rows body) e h in
    run-quiet most (first ∷ others) (body ++ rest) (at s (with_block o b)) (with_block o b) a.0 (one counts other a.0 a.1)
    ∙ run-body most body rest s o a.0 e (and-right (is_inside (first ∷ others)) _ inside) a.2
  where
    one : is_passed (first ∷ others) ≡ false → bytes_eq first (codes "a") ≡ false → (c : Block) → block.after_row (first ∷ others) b ≡ Ok c → after_row most (first ∷ others) (at s (with_block o b)) ≡ Ok (going_on (at s (with_block o b)) (with_block o b) (with_block o c))
    one counts other c h =
        ap (λ (x : Bool). cond x (Ok (quiet (at s (with_block o b)))) (inside_block first others (with_block o b) b >>= λ after. Ok (going_on (at s (with_block o b)) (with_block o b) after))) counts
        ∙ ap (λ (x : Bool). cond x (after_assumptions others (with_block o b) b) (in_block (block.after_row (first ∷ others) b) >>= λ after. Ok (with_block (with_block o b) after)) >>= λ after. Ok (going_on (at s (with_block o b)) (with_block o b) after)) other
        ∙ ap (λ (x : Result Block BlockFault). (in_block x >>= λ after. Ok (with_block (with_block o b) after)) >>= λ after. Ok (going_on (at s (with_block o b)) (with_block o b) after)) h

-- the line of assumptions
run-assumed : (most : Limits) (words : List (List ℕ)) (s : Feeding) (o next : OpenJob) (e : Block) (f : Formulated) (assumptions : List ℕ) → block.ended e ≡ Ok f → assumptions_in f.variables words ≡ Ok assumptions → revised o f assumptions ≡ Ok next
    → after_row most (codes "a" ∷ words) (at s (with_block o e)) ≡ Ok (going_on (at s (with_block o e)) o next)
run-assumed most words s o next e f assumptions h k l =
    ap (λ (x : Result Formulated BlockFault). (in_block x >>= λ f. assumptions_in f.variables words >>= revised o f) >>= λ after. Ok (going_on (at s (with_block o e)) o after)) h
    ∙ ap (λ (x : Result (List ℕ) LineFault). (x >>= revised o f) >>= λ after. Ok (going_on (at s (with_block o e)) o after)) k
    ∙ ap (λ (x : Result OpenJob LineFault). x >>= λ after. Ok (going_on (at s (with_block o e)) o after)) l

-- a line of a job of which no block has begun
in-job : (most : Limits) (first : List ℕ) (others : List (List ℕ)) (s : Feeding) (o : OpenJob) → is_passed (first ∷ others) ≡ false → s.current ≡ Some o → is_calm o → after_row most (first ∷ others) s ≡ inside_job most first others o s
in-job most first others s o counts own calm =
    ap (λ (b : Bool). cond b (Ok (quiet s)) (after_counted most first others s.current s)) counts
    ∙ ap (λ (c : Option OpenJob). after_counted most first others c s) own
    ∙ ap (λ (b : Option Block). inside most first others o b s) calm

-- the line of a header
run-header : (most : Limits) (header : List (List ℕ)) (s : Feeding) (o : OpenJob) (b : Block) → s.current ≡ Some o → is_calm o → length (revisions o.job) < most.revisions → block.opened (codes "p" ∷ header) ≡ Ok b
    → after_row most (codes "p" ∷ header) s ≡ Ok (going_on s o (with_block o b))
run-header most header s o b own calm room h =
    in-job most (codes "p") header s o refl own calm
    ∙ ap (λ (x : Bool). cond x (in_block (block.opened (codes "p" ∷ header)) >>= (λ b. Ok (with_block o b))) (Err (Limit Revisions)) >>= λ after. Ok (going_on s o after)) (lt-ltb (length (revisions o.job)) most.revisions room)
    ∙ ap (λ (x : Result Block BlockFault). (in_block x >>= (λ b. Ok (with_block o b))) >>= λ after. Ok (going_on s o after)) h

-- a step of a job posts what the job has got
pub run-revision : (laws : WordLaws) (most : Limits) (r : RevisionLines) (rest : List (List (List ℕ))) (s : Feeding) (o next : OpenJob) (step : Step) → s.current ≡ Some o → is_calm o → Revises most o r next → next.job.steps ≡ o.job.steps ++ step ∷ []
    → run most (revision_lines r ++ rest) s ≡ after_posts (Takes (key_of o.job) step ∷ []) (run most rest (at s next))
run-revision laws most r rest s o next step own calm is more =
    let a = bind_ok (block.opened (codes "p" ∷ r.header)) (λ b. after_rows r.body b >>= block.ended) is.formula is.spelled in
    let c = bind_ok (after_rows r.body a.0) block.ended is.formula a.2 in
    let fits : revised o is.formula is.assumptions ≡ Ok next = (laws.revision o is.formula is.assumptions next).0 (is.fits, is.revised) in
    let last : after_row most (codes "a" ∷ r.assumed) (at s (with_block o c.0)) ≡ Ok (going_on (at s (with_block o c.0)) o next) = run-assumed most r.assumed s o next c.0 is.formula is.assumptions c.2 (assumes-read is.formula.variables r.assumed is.assumptions is.assumed) fits in
    run-quiet most (codes "p" ∷ r.header) ((r.body ++ (codes "a" ∷ r.assumed) ∷ []) ++ rest) s o a.0 (run-header most r.header s o a.0 own calm is.room a.1)
    ∙ ap (λ (x : List (List (List ℕ))). run most x (at s (with_block o a.0))) (append_assoc r.body ((codes "a" ∷ r.assumed) ∷ []) rest)
    ∙ run-body most r.body ((codes "a" ∷ r.assumed) ∷ rest) s o a.0 c.0 is.inside c.1
    ∙ run-line most (codes "a" ∷ r.assumed) rest (at s (with_block o c.0)) (going_on (at s (with_block o c.0)) o next) last
    ∙ ap (λ (xs : List Step). after_posts (map (Takes (key_of o.job)) xs) (run most rest (at s next))) (step-got o next step more)

-- the line of a priority and a demand
pub run-weight : (laws : WordLaws) (most : Limits) (p d : List ℕ) (rest : List (List (List ℕ))) (s : Feeding) (o next : OpenJob) (step : Step) → s.current ≡ Some o → is_calm o → Reasks o p d next → next.job.steps ≡ o.job.steps ++ step ∷ []
    → run most ((codes "q" ∷ p ∷ d ∷ []) ∷ rest) s ≡ after_posts (Takes (key_of o.job) step ∷ []) (run most rest (at s next))
run-weight laws most p d rest s o next step own calm is more =
    let line : after_row most (codes "q" ∷ p ∷ d ∷ []) s ≡ Ok (going_on s o next) =
    in-job most (codes "q") (p ∷ d ∷ []) s o refl own calm
    ∙ ap (λ (x : Result Weighed LineFault). (x >>= λ w. Ok (with_weight o w)) >>= λ after. Ok (going_on s o after)) ((laws.weight p d is.weight).0 is.weighs)
    ∙ ap (λ (x : OpenJob). Ok (going_on s o x)) (sym is.reasked) in
    run-line most (codes "q" ∷ p ∷ d ∷ []) rest s (going_on s o next) line
    ∙ ap (λ (xs : List Step). after_posts (map (Takes (key_of o.job)) xs) (run most rest (at s next))) (step-got o next step more)

-- ---- a line of no job

-- a feed in which the job that the lines are of, if there is one, has no block
abbrev pub IsCalm : Feeding → Type 0
IsCalm s = AreCalm s.aside × AreCalm (option_to_list s.current)

-- a line of a tenant or of a job stands outside a job: the one that is open is put aside
away : (most : Limits) (first : List ℕ) (others : List (List ℕ)) (s : Feeding) → is_passed (first ∷ others) ≡ false → bytes_eq first (codes "p") ≡ false → bytes_eq first (codes "q") ≡ false → bytes_eq first (codes "e") ≡ false → IsCalm s
    → after_row most (first ∷ others) s ≡ outside most first others (put_aside s)
away most first others s counts no_p no_q no_e calm = by_current s.current refl calm.1
  where
    by_current : (c : Option OpenJob) → s.current ≡ c → AreCalm (option_to_list c) → after_row most (first ∷ others) s ≡ outside most first others (put_aside s)
    by_current None own h =
        ap (λ (b : Bool). cond b (Ok (quiet s)) (after_counted most first others s.current s)) counts
        ∙ ap (λ (c : Option OpenJob). after_counted most first others c s) own
        ∙ sym (ap (outside most first others) (none-aside s own))
    by_current (Some o) own h =
        in-job most first others s o counts own h.0
        ∙ ap (λ (b : Bool). cond b (after_header most (first ∷ others) o >>= (λ after. Ok (going_on s o after))) (cond (bytes_eq first (codes "q")) (after_weight others o >>= (λ after. Ok (going_on s o after))) (cond (bytes_eq first (codes "e")) (ended_job others o >>= (λ j. Ok (ended s j))) (outside most first others (put_aside s))))) no_p
        ∙ ap (λ (b : Bool). cond b (after_weight others o >>= (λ after. Ok (going_on s o after))) (cond (bytes_eq first (codes "e")) (ended_job others o >>= (λ j. Ok (ended s j))) (outside most first others (put_aside s)))) no_q
        ∙ ap (λ (b : Bool). cond b (ended_job others o >>= (λ j. Ok (ended s j))) (outside most first others (put_aside s))) no_e

named-read : (most : Limits) (name : List ℕ) (s after : Feeding) (posts : List FeedPost) → Names most s name after posts → named most name (put_aside s) ≡ Ok (record { left = after; posts = posts })
named-read most name s after posts is = by_test (list_any (bytes_eq name) s.tenants) refl is.room is.left
  where
    by_test : (a : Bool) → list_any (bytes_eq name) s.tenants ≡ a → (list_any (bytes_eq name) s.tenants ≡ true) ⊎ (length s.tenants < most.tenants) → after ≡ naming s name (cond a s.tenants (s.tenants ++ name ∷ []))
        → cond a (Ok (quiet (naming s name s.tenants))) (cond (nat_lt (length s.tenants) most.tenants) (Ok (quiet (naming s name (s.tenants ++ name ∷ [])))) (Err (Limit Tenants))) ≡ Ok (record { left = after; posts = posts })
    by_test true q room e = ap₂ (λ (t : Feeding) (ps : List FeedPost). Ok (record { left = t; posts = ps })) (sym e) (sym is.posted)
    by_test false q (inl h) e = absurd (cc)
    by_test false q (inr low) e =
        ap (λ (b : Bool). cond b (Ok (quiet (naming s name (s.tenants ++ name ∷ [])))) (Err (Limit Tenants))) (lt-ltb (length s.tenants) most.tenants low)
        ∙ ap₂ (λ (t : Feeding) (ps : List FeedPost). Ok (record { left = t; posts = ps })) (sym e) (sym is.posted)

run-tenant : (most : Limits) (name : List ℕ) (rest : List (List (List ℕ))) (s after : Feeding) (posts : List FeedPost) → IsCalm s → Names most s name after posts → run most ((codes "t" ∷ name ∷ []) ∷ rest) s ≡ after_posts posts (run most rest after)
run-tenant most name rest s after posts calm is =
    run-line most (codes "t" ∷ name ∷ []) rest s (record { left = after; posts = posts })
    (away most (codes "t") (name ∷ []) s refl refl refl refl calm
    ∙ ap (λ (b : Bool). cond b (named most name (put_aside s)) (Err BadLine)) is.formed
    ∙ named-read most name s after posts is)

admits-room : (most : Limits) (tenant name : List ℕ) (s : Feeding) → Admits most tenant name s.begun → has_room most tenant s.begun ≡ true
admits-room most tenant name s is = and-both _ _ (lt-ltb (count_by (is_of tenant) s.begun) most.jobs_of_tenant is.few_of_tenant) (lt-ltb (length s.begun) most.jobs is.few)

run-first : (laws : WordLaws) (most : Limits) (j : JobWords) (rest : List (List (List ℕ))) (s after : Feeding) (posts : List FeedPost) → IsCalm s → Begins most s j after posts → run most ((codes "j" ∷ j.name ∷ j.priority ∷ j.demand ∷ j.slices ∷ j.profile) ∷ rest) s ≡ after_posts posts (run most rest after)
run-first laws most j rest s after posts calm is =
    run-line most (codes "j" ∷ j.name ∷ j.priority ∷ j.demand ∷ j.slices ∷ j.profile) rest s (record { left = after; posts = posts })
    (away most (codes "j") (j.name ∷ j.priority ∷ j.demand ∷ j.slices ∷ j.profile) s refl refl refl refl calm
    ∙ ap (λ (x : Option (List ℕ)). after_job most x (j.name ∷ j.priority ∷ j.demand ∷ j.slices ∷ j.profile) (put_aside s)) is.owned
    ∙ ap (λ (b : Bool). cond b (asked j.priority j.demand j.slices j.profile >>= admitted most is.tenant j.name (put_aside s)) (Err BadLine)) is.name
    ∙ ap (λ (x : Result Terms LineFault). x >>= admitted most is.tenant j.name (put_aside s)) ((laws.ask j.priority j.demand j.slices j.profile is.ask).0 is.asks)
    ∙ ap (λ (b : Bool). cond b (Err (Duplicate is.tenant j.name)) (cond (has_room most is.tenant s.begun) (Ok (begins is.tenant j.name is.ask (put_aside s))) (Err (Limit Jobs)))) is.admitted.new
    ∙ ap (λ (b : Bool). cond b (Ok (begins is.tenant j.name is.ask (put_aside s))) (Err (Limit Jobs))) (admits-room most is.tenant j.name s is.admitted)
    ∙ ap₂ (λ (t : Feeding) (ps : List FeedPost). Ok (record { left = t; posts = ps })) (sym is.left) (sym is.posted))

run-again : (most : Limits) (name : List ℕ) (rest : List (List (List ℕ))) (s after : Feeding) (posts : List FeedPost) → IsCalm s → GoesOn s name after posts → run most ((codes "j" ∷ name ∷ []) ∷ rest) s ≡ after_posts posts (run most rest after)
run-again most name rest s after posts calm is =
    let place : position_or_len (is_open_job is.tenant name) (opened s) ≡ length is.front = ap (position_or_len (is_open_job is.tenant name)) is.found ∙ found-at (is_open_job is.tenant name) is.front is.job is.rest is.own is.first in
    let got : slice_get (opened s) (position_or_len (is_open_job is.tenant name) (opened s)) ≡ Some is.job = ap₂ (λ (xs : List OpenJob) (n : ℕ). slice_get xs n) is.found place ∙ last-got is.front is.job is.rest in
    let left : remove (opened s) (position_or_len (is_open_job is.tenant name) (opened s)) ≡ is.front ++ is.rest = ap₂ (λ (xs : List OpenJob) (n : ℕ). remove xs n) is.found place ∙ remove-at is.front is.job is.rest in
    run-line most (codes "j" ∷ name ∷ []) rest s (record { left = after; posts = posts })
    (away most (codes "j") (name ∷ []) s refl refl refl refl calm
    ∙ ap (λ (x : Option (List ℕ)). after_job most x (name ∷ []) (put_aside s)) is.owned
    ∙ ap (taken_up (position_or_len (is_open_job is.tenant name) (opened s)) (put_aside s)) got
    ∙ ap (λ (xs : List OpenJob). Ok (quiet (record s { current = Some is.job; aside = xs }))) left
    ∙ ap₂ (λ (t : Feeding) (ps : List FeedPost). Ok (record { left = t; posts = ps })) (sym is.left) (sym is.posted))

run-last : (most : Limits) (rest : List (List (List ℕ))) (s after : Feeding) (posts : List FeedPost) → IsCalm s → Ends s after posts → run most ((codes "e" ∷ []) ∷ rest) s ≡ after_posts posts (run most rest after)
run-last most rest s after posts calm is =
    let own : AreCalm (is.job ∷ []) = subst (λ (c : Option OpenJob). AreCalm (option_to_list c)) is.current calm.1 in
    run-line most (codes "e" ∷ []) rest s (record { left = after; posts = posts })
    (in-job most (codes "e") [] s is.job refl is.current own.0
    ∙ ap₂ (λ (t : Feeding) (ps : List FeedPost). Ok (record { left = t; posts = ps })) (sym is.left) (sym is.posted))

run-step : (laws : WordLaws) (most : Limits) (lines : StepLines) (rest : List (List (List ℕ))) (s after : Feeding) (posts : List FeedPost) → IsCalm s → StepsOn most s lines after posts → (run most (step_lines lines ++ rest) s ≡ after_posts posts (run most rest after)) × IsCalm after
run-step laws most (Revision r) rest s after posts calm is =
    let own : AreCalm (is.job ∷ []) = subst (λ (c : Option OpenJob). AreCalm (option_to_list c)) is.current calm.1 in (
      run-revision laws most r rest s is.job is.next is.step is.current own.0 is.stepped is.more ∙ ap₂ (λ (t : Feeding) (ps : List FeedPost). after_posts ps (run most rest t)) (sym is.left) (sym is.posted),
      subst IsCalm (sym is.left) (calm.0, (ap (λ (o : OpenJob). o.block) is.stepped.revised, tt)),
    )
run-step laws most (Weight p d) rest s after posts calm is =
    let own : AreCalm (is.job ∷ []) = subst (λ (c : Option OpenJob). AreCalm (option_to_list c)) is.current calm.1 in (
      run-weight laws most p d rest s is.job is.next is.step is.current own.0 is.stepped is.more ∙ ap₂ (λ (t : Feeding) (ps : List FeedPost). after_posts ps (run most rest t)) (sym is.left) (sym is.posted),
      subst IsCalm (sym is.left) (calm.0, (ap (λ (o : OpenJob). o.block) is.stepped.reasked, tt)),
    )

-- ---- the parts

run-part : (laws : WordLaws) (most : Limits) (part : Part) (rest : List (List (List ℕ))) (s after : Feeding) (posts : List FeedPost) → IsCalm s → Makes most s part after posts → (run most (part_lines part ++ rest) s ≡ after_posts posts (run most rest after)) × IsCalm after
run-part laws most (Tenant name) rest s after posts calm is = (run-tenant most name rest s after posts calm is, subst IsCalm (sym is.left) (all-append is_calm s.aside (option_to_list s.current) calm.0 calm.1, tt))
run-part laws most (First j) rest s after posts calm is = (run-first laws most j rest s after posts calm is, subst IsCalm (sym is.left) (all-append is_calm s.aside (option_to_list s.current) calm.0 calm.1, (refl, tt)))
run-part laws most (Again name) rest s after posts calm is =
    let all : AreCalm (is.front ++ is.job ∷ is.rest) = subst AreCalm is.found (all-append is_calm s.aside (option_to_list s.current) calm.0 calm.1) in
    let parts = all-split is_calm is.front (is.job ∷ is.rest) all in
    (run-again most name rest s after posts calm is, subst IsCalm (sym is.left) (all-append is_calm is.front is.rest parts.0 parts.1.1, (parts.1.0, tt)))
run-part laws most (Within lines) rest s after posts calm is = run-step laws most lines rest s after posts calm is
run-part laws most Last rest s after posts calm is = (run-last most rest s after posts calm is, subst IsCalm (sym is.left) (calm.0, tt))

run-end : (s : Feeding) → (c : Option OpenJob) → AreCalm (option_to_list c) → at_end c s ≡ Ok (closings s)
run-end s None h = refl
run-end s (Some o) h = ap (λ (b : Option Block). in_open_block b s) h.0

pub run-parts : (laws : WordLaws) (most : Limits) (parts : List Part) (s after : Feeding) (made posts : List FeedPost) → IsCalm s → MakeAll most s parts after made → posts ≡ made ++ closings after → run most (flat_map part_lines parts) s ≡ Ok posts
run-parts laws most [] s after made posts calm is e =
    run-end s s.current calm.1
    ∙ ap₂ (λ (t : Feeding) (ps : List FeedPost). Ok (ps ++ closings t)) is.0 (sym is.1)
    ∙ ap (λ (ps : List FeedPost). Ok ps) (sym e)
run-parts laws most (part ∷ parts) s after made posts calm (next, first, others, is, rest, all) e =
    let one = run-part laws most part (flat_map part_lines parts) s next first calm is in
    one.0
    ∙ ap (after_posts first) (run-parts laws most parts next after others (others ++ closings after) one.1 rest refl)
    ∙ ap (λ (ps : List FeedPost). Ok ps) (sym (append_assoc first others (closings after)) ∙ ap (λ (ps : List FeedPost). ps ++ closings after) (sym all) ∙ sym e)
