-- What is read is spelled so: the lines that count are those of parts.
use Rattle.std.proofs.Common.{◌≡◌, ℕ, ◌<◌, Bool, true, false, cond, not, List, [], ◌∷◌, ◌++◌, length, map, flat_map, codes, Option, Some, None, Result, Ok, Err, refl, sym, ap, ap₂, subst, ◌∙◌, inl, inr, nat_lt, append_assoc, append-nil, option_to_list}
use Rattle.std.specs.Str.{bytes_eq}
use Rattle.std.specs.List.{AllByRecursion, list_all, list_any, slice_get, position_or_len, remove}
use Rattle.std.proofs.lemmas.Bool.{ltb-true}
use Rattle.mal_base.specs.Names.{is_name}
use Rattle.mal_base.specs.Formulas.{Formulated}
use Rattle.mal_base.specs.declared.limit_kind.LimitKind.TheVariants.{Tenants, Jobs, Revisions}
use Rattle.mal_base.proofs.Sorting.{and-both, and-left, and-right}
use Rattle.mal_base.specs.declared.block_fault.BlockFault.{BlockFault}
use Rattle.spec_dimacs.specs.Rows.{is_passed}
use Rattle.spec_dimacs.specs.Reading as block
use Rattle.spec_dimacs.specs.Reading.{Block, ◌>>=◌, after_rows}
use Rattle.mal_base.specs.declared.line_fault.LineFault.{LineFault}
use Rattle.mal_base.specs.declared.line_fault.LineFault.TheVariants.{BadLine, Duplicate, Limit}
use Rattle.mal_base.specs.declared.limits.Limits.{Limits}
use Rattle.spec_script.specs.Assumptions.{assumptions_in}
use Rattle.spec_script.specs.Formed.{with_name}
use Rattle.spec_script.specs.Script.{revisions}
use Rattle.spec_script.specs.declared.step.Step.{Step}
use Rattle.spec_script.specs.declared.step.Step.TheVariants.{Revise, Reask}
use Rattle.spec_script.specs.Reading.{OpenJob, in_block, asked, has_room, is_job, is_of, with_block, with_revision, with_weight, weighed, revised, after_header, after_weight, after_assumptions, inside_block, ended_job}
use Rattle.spec_script.specs.Grammar.{Admits, Revision, Weight, is_inside}
use Rattle.spec_script.proofs.Inversions.{bind_ok, in_block_ok, chosen, passed, not_refused, same_bytes, ok_is, revised_is}
use Rattle.spec_script.proofs.AssumedForms.{read-assumes}
use Rattle.std.specs.Prelude.{count_by}
use Rattle.spec_feed.specs.declared.post.FeedPost.{FeedPost}
use Rattle.spec_feed.specs.declared.post.FeedPost.TheVariants.{Takes, Closes}
use Rattle.spec_feed.specs.Reading.{Fed, Feeding, admitted, after_counted, after_job, after_row, after_tenant, at_end, begins, closings, ended, going_on, goes_on, in_open_block, inside, inside_job, is_open_job, key_of, named, of_tenant, opened, outside, put_aside, quiet, steps_got, taken_up}
use Rattle.spec_feed.specs.Grammar.{Part, Tenant, First, Again, Within, Last, part_lines, Makes, MakeAll}
use Rattle.spec_feed.proofs.Lists.{FoundIn, looked-up, last-got, none-got, remove-at, found-at, all-append, all-split}
use Rattle.spec_feed.proofs.WordLaws.{WordLaws}

-- no block of a job has begun
abbrev pub is_calm : OpenJob → Type 0
is_calm o = o.block ≡ None

-- no block of a job has begun and not ended
abbrev pub AreCalm : List OpenJob → Type 0
AreCalm jobs = AllByRecursion is_calm jobs

-- the lines that are left are those of parts, which make these posts
pub record Free (most : Limits) (rows : List (List (List ℕ))) (s : Feeding) (posts : List FeedPost) : Type 0 where
  pub parts : List Part
  pub after : Feeding
  pub made_posts : List FeedPost
  pub lines : rows ≡ flat_map part_lines parts
  pub made : MakeAll most s parts after made_posts
  pub posted : posts ≡ made_posts ++ closings after

-- the lines that are left are those of this block, of its assumptions, and of parts
pub record InBlock (most : Limits) (rows : List (List (List ℕ))) (s : Feeding) (o : OpenJob) (b : Block) (posts : List FeedPost) : Type 0 where
  pub body : List (List (List ℕ))
  pub words : List (List ℕ)
  pub rest : List (List (List ℕ))
  pub formula : Formulated
  pub assumptions : List ℕ
  pub next : OpenJob
  pub later : List FeedPost
  pub lines : rows ≡ body ++ (codes "a" ∷ words) ∷ rest
  pub inside : list_all is_inside body ≡ true
  pub spelled : (after_rows body b >>= block.ended) ≡ Ok formula
  pub assumed : assumptions_in formula.variables words ≡ Ok assumptions
  pub revised : revised o formula assumptions ≡ Ok next
  pub posted : posts ≡ map (Takes (key_of o.job)) (steps_got o next) ++ later
  pub job : Free most rest (record s { current = Some next }) later

abbrev pub InOpened : Limits → List (List (List ℕ)) → Feeding → OpenJob → Option Block → List FeedPost → Type 0
InOpened most rows s o None posts = Free most rows s posts
InOpened most rows s o (Some b) posts = InBlock most rows s o b posts

abbrev pub Parsed : Limits → List (List (List ℕ)) → Feeding → Option OpenJob → List FeedPost → Type 0
Parsed most rows s None posts = Free most rows s posts
Parsed most rows s (Some o) posts = InOpened most rows s o o.block posts

-- what is known of the lines after one that left this
abbrev pub Ahead : Limits → List (List (List ℕ)) → List FeedPost → Feeding → Type 0
Ahead most rows later t = AreCalm t.aside → Parsed most rows t t.current later

-- a line that was read begins with a part
abbrev pub Outside : Limits → List (List ℕ) → List (List (List ℕ)) → Feeding → List FeedPost → Fed → Type 0
Outside most row rows s later fed = Ahead most rows later fed.left → Free most (row ∷ rows) s (fed.posts ++ later)

-- the reading of lines that count, without their numbers
abbrev pub run : Limits → List (List (List ℕ)) → Feeding → Result (List FeedPost) LineFault
run most [] s = at_end s.current s
run most (row ∷ rows) s = after_row most row s >>= λ fed. run most rows fed.left >>= λ posts. Ok (fed.posts ++ posts)

-- a part before others
one-part : (most : Limits) (part : Part) (rows : List (List (List ℕ))) (s next : Feeding) (first later posts : List FeedPost) → Makes most s part next first → Free most rows next later → posts ≡ first ++ later → Free most (part_lines part ++ rows) s posts
one-part most part rows s next first later posts is free e = record {
  parts = part ∷ free.parts;
  after = free.after;
  made_posts = first ++ free.made_posts;
  lines = ap (λ (x : List (List (List ℕ))). part_lines part ++ x) free.lines;
  made = (next, first, free.made_posts, is, free.made, refl);
  posted = e ∙ ap (λ (x : List FeedPost). first ++ x) free.posted ∙ sym (append_assoc first free.made_posts (closings free.after));
}

-- ---- the end

no_end : (b : Block) (s : Feeding) (posts : List FeedPost) → in_open_block (Some b) s ≡ Ok posts → ⊥
no_end b s posts e = let h = bind_ok (in_block (block.ended b)) (λ f. Err BadLine) posts e in let k = h.2 in absurd (cc)

end-free : (most : Limits) (s : Feeding) (posts : List FeedPost) → ◌≡◌ {A = Result (List FeedPost) LineFault} (Ok (closings s)) (Ok posts) → Free most [] s posts
end-free most s posts e = record { parts = []; after = s; made_posts = []; lines = refl; made = (refl, refl); posted = sym (ok_is (closings s) posts e) }

end-opened : (most : Limits) (s : Feeding) (o : OpenJob) (b : Option Block) (posts : List FeedPost) → in_open_block b s ≡ Ok posts → InOpened most [] s o b posts
end-opened most s o None posts e = end-free most s posts e
end-opened most s o (Some b) posts e = absurd (no_end b s posts e)

end-parsed : (most : Limits) (s : Feeding) (current : Option OpenJob) (posts : List FeedPost) → at_end current s ≡ Ok posts → Parsed most [] s current posts
end-parsed most s None posts e = end-free most s posts e
end-parsed most s (Some o) posts e = end-opened most s o o.block posts e

-- ---- a tenant's line

-- a feed in which this tenant was named last, of these names
abbrev pub naming : Feeding → List ℕ → List (List ℕ) → Feeding
naming s name names = record s { current = None; aside = opened s; tenants = names; tenant = Some name }

named-parsed : (most : Limits) (name : List ℕ) (rows : List (List (List ℕ))) (s : Feeding) (later : List FeedPost) (fed : Fed) → AreCalm (opened s) → is_name name ≡ true → named most name (put_aside s) ≡ Ok fed → Outside most (codes "t" ∷ name ∷ []) rows s later fed
named-parsed most name rows s later fed calm form e = by_tests (list_any (bytes_eq name) s.tenants) refl (nat_lt (length s.tenants) most.tenants) refl e
  where
    by_tests : (a : Bool) → list_any (bytes_eq name) s.tenants ≡ a → (b : Bool) → nat_lt (length s.tenants) most.tenants ≡ b
        → cond a (Ok (quiet (naming s name s.tenants))) (cond b (Ok (quiet (naming s name (s.tenants ++ name ∷ [])))) (Err (Limit Tenants))) ≡ Ok fed
        → Outside most (codes "t" ∷ name ∷ []) rows s later fed
    by_tests true q b r h =
        let left : naming s name s.tenants ≡ naming s name (with_name s.tenants name) = sym (ap (λ (t : Bool). naming s name (cond t s.tenants (s.tenants ++ name ∷ []))) q) in
        subst (Outside most (codes "t" ∷ name ∷ []) rows s later) (ok_is (quiet (naming s name s.tenants)) fed h)
        (λ ahead. one-part most (Tenant name) rows s (naming s name s.tenants) [] later later (record { formed = form; room = inl q; left = left; posted = refl }) (ahead calm) refl)
    by_tests false q true r h =
        let left : naming s name (s.tenants ++ name ∷ []) ≡ naming s name (with_name s.tenants name) = sym (ap (λ (t : Bool). naming s name (cond t s.tenants (s.tenants ++ name ∷ []))) q) in
        subst (Outside most (codes "t" ∷ name ∷ []) rows s later) (ok_is (quiet (naming s name (s.tenants ++ name ∷ []))) fed h)
        (λ ahead. one-part most (Tenant name) rows s (naming s name (s.tenants ++ name ∷ [])) [] later later (record { formed = form; room = inr (ltb-true (length s.tenants) most.tenants r); left = left; posted = refl }) (ahead calm) refl)
    by_tests false q false r h = absurd (cc)

tenant-parsed : (most : Limits) (others : List (List ℕ)) (rows : List (List (List ℕ))) (s : Feeding) (later : List FeedPost) (fed : Fed) → AreCalm (opened s) → after_tenant most others (put_aside s) ≡ Ok fed → Outside most (codes "t" ∷ others) rows s later fed
tenant-parsed most [] rows s later fed calm e = absurd (cc)
tenant-parsed most (name ∷ word ∷ words) rows s later fed calm e = absurd (cc)
tenant-parsed most (name ∷ []) rows s later fed calm e =
    let h = passed (is_name name) (named most name (put_aside s)) BadLine fed e in named-parsed most name rows s later fed calm h.0 h.1

-- ---- the first line of a job

pub room-admits : (most : Limits) (tenant name : List ℕ) (s : Feeding) → list_any (is_job tenant name) s.begun ≡ false → has_room most tenant s.begun ≡ true → Admits most tenant name s.begun
room-admits most tenant name s new room = record {
  new = new;
  few_of_tenant = ltb-true (count_by (is_of tenant) s.begun) most.jobs_of_tenant (and-left _ _ room);
  few = ltb-true (length s.begun) most.jobs (and-right (nat_lt (count_by (is_of tenant) s.begun) most.jobs_of_tenant) _ room);
}

first-parsed : (laws : WordLaws) (most : Limits) (tenant name p d k : List ℕ) (q : List (List ℕ)) (rows : List (List (List ℕ))) (s : Feeding) (later : List FeedPost) (fed : Fed) → s.tenant ≡ Some tenant → AreCalm (opened s) → of_tenant most tenant (name ∷ p ∷ d ∷ k ∷ q) (put_aside s) ≡ Ok fed → Outside most (codes "j" ∷ name ∷ p ∷ d ∷ k ∷ q) rows s later fed
first-parsed laws most tenant name p d k q rows s later fed own calm e =
    let h = passed (is_name name) (asked p d k q >>= admitted most tenant name (put_aside s)) BadLine fed e in
    let a = bind_ok (asked p d k q) (admitted most tenant name (put_aside s)) fed h.1 in
    let new = not_refused (list_any (is_job tenant name) s.begun) (cond (has_room most tenant s.begun) (Ok (begins tenant name a.0 (put_aside s))) (Err (Limit Jobs))) (Duplicate tenant name) fed a.2 in
    let room = passed (has_room most tenant s.begun) (Ok (begins tenant name a.0 (put_aside s))) (Limit Jobs) fed new.1 in
    let fed0 : Fed = begins tenant name a.0 (put_aside s) in
    subst (Outside most (codes "j" ∷ name ∷ p ∷ d ∷ k ∷ q) rows s later) (ok_is fed0 fed room.1)
    (λ ahead. one-part most (First (record { name = name; priority = p; demand = d; slices = k; profile = q })) rows s fed0.left fed0.posts later (fed0.posts ++ later) (record { tenant = tenant; ask = a.0; owned = own; name = h.0; asks = (laws.ask p d k q a.0).1 a.1; admitted = room-admits most tenant name s new.0 room.0; left = refl; posted = refl }) (ahead calm) refl)

-- ---- the line that goes on with an open job

again-parsed : (most : Limits) (tenant name : List ℕ) (rows : List (List (List ℕ))) (s : Feeding) (later : List FeedPost) (fed : Fed) → s.tenant ≡ Some tenant → AreCalm (opened s) → goes_on tenant name (put_aside s) ≡ Ok fed → Outside most (codes "j" ∷ name ∷ []) rows s later fed
again-parsed most tenant name rows s later fed own calm e = by_found (slice_get (opened s) (position_or_len (is_open_job tenant name) (opened s))) refl e
  where
    by_found : (x : Option OpenJob) → slice_get (opened s) (position_or_len (is_open_job tenant name) (opened s)) ≡ x → taken_up (position_or_len (is_open_job tenant name) (opened s)) (put_aside s) x ≡ Ok fed → Outside most (codes "j" ∷ name ∷ []) rows s later fed
    by_found None q h = absurd (cc)
    by_found (Some o) q h =
        let f : FoundIn (is_open_job tenant name) (opened s) o = looked-up (is_open_job tenant name) (opened s) o q in
        let place : position_or_len (is_open_job tenant name) (opened s) ≡ length f.front = ap (position_or_len (is_open_job tenant name)) f.all ∙ found-at (is_open_job tenant name) f.front o f.rest f.own f.first in
        let left : remove (opened s) (position_or_len (is_open_job tenant name) (opened s)) ≡ f.front ++ f.rest = ap₂ (λ (xs : List OpenJob) (n : ℕ). remove xs n) f.all place ∙ remove-at f.front o f.rest in
        let is : quiet (record s { current = Some o; aside = f.front ++ f.rest }) ≡ fed = sym (ap (λ (xs : List OpenJob). quiet (record s { current = Some o; aside = xs })) left) ∙ ok_is (quiet (record s { current = Some o; aside = remove (opened s) (position_or_len (is_open_job tenant name) (opened s)) })) fed h in
        let parts = all-split is_calm f.front (o ∷ f.rest) (subst AreCalm f.all calm) in
        subst (Outside most (codes "j" ∷ name ∷ []) rows s later) is
        (λ ahead. one-part most (Again name) rows s (record s { current = Some o; aside = f.front ++ f.rest }) [] later later (record { tenant = tenant; front = f.front; job = o; rest = f.rest; owned = own; found = f.all; own = f.own; first = f.first; left = refl; posted = refl })
        (subst (λ (b : Option Block). InOpened most rows (record s { current = Some o; aside = f.front ++ f.rest }) o b later) parts.1.0 (ahead (all-append is_calm f.front f.rest parts.0 parts.1.1))) refl)

tenants-parsed : (laws : WordLaws) (most : Limits) (tenant : List ℕ) (others : List (List ℕ)) (rows : List (List (List ℕ))) (s : Feeding) (later : List FeedPost) (fed : Fed) → s.tenant ≡ Some tenant → AreCalm (opened s) → of_tenant most tenant others (put_aside s) ≡ Ok fed → Outside most (codes "j" ∷ others) rows s later fed
tenants-parsed laws most tenant [] rows s later fed own calm e = absurd (cc)
tenants-parsed laws most tenant (a ∷ []) rows s later fed own calm e = again-parsed most tenant a rows s later fed own calm e
tenants-parsed laws most tenant (a ∷ b ∷ []) rows s later fed own calm e = absurd (cc)
tenants-parsed laws most tenant (a ∷ b ∷ c ∷ []) rows s later fed own calm e = absurd (cc)
tenants-parsed laws most tenant (a ∷ b ∷ c ∷ d ∷ q) rows s later fed own calm e = first-parsed laws most tenant a b c d q rows s later fed own calm e

job-parsed : (laws : WordLaws) (most : Limits) (tenant : Option (List ℕ)) (others : List (List ℕ)) (rows : List (List (List ℕ))) (s : Feeding) (later : List FeedPost) (fed : Fed) → s.tenant ≡ tenant → AreCalm (opened s) → after_job most tenant others (put_aside s) ≡ Ok fed → Outside most (codes "j" ∷ others) rows s later fed
job-parsed laws most None others rows s later fed own calm e = absurd (cc)
job-parsed laws most (Some tenant) others rows s later fed own calm e = tenants-parsed laws most tenant others rows s later fed own calm e

-- ---- a line of no job

outside-parsed : (laws : WordLaws) (most : Limits) (first : List ℕ) (others : List (List ℕ)) (rows : List (List (List ℕ))) (s : Feeding) (later : List FeedPost) (fed : Fed) → AreCalm (opened s) → outside most first others (put_aside s) ≡ Ok fed → Outside most (first ∷ others) rows s later fed
outside-parsed laws most first others rows s later fed calm e = elim (chosen (bytes_eq first (codes "t")) (after_tenant most others (put_aside s)) (cond (bytes_eq first (codes "j")) (after_job most s.tenant others (put_aside s)) (Err BadLine)) (Ok fed) e) [
  | inl h ↦ subst (λ (x : List ℕ). Outside most (x ∷ others) rows s later fed) (sym (same_bytes first (codes "t") h.0)) (tenant-parsed most others rows s later fed calm h.1)
  | inr h ↦ let k = passed (bytes_eq first (codes "j")) (after_job most s.tenant others (put_aside s)) BadLine fed h.1 in
      subst (λ (x : List ℕ). Outside most (x ∷ others) rows s later fed) (sym (same_bytes first (codes "j") k.0)) (job-parsed laws most s.tenant others rows s later fed refl calm k.1)
]

-- where the lines are of no job, all that are open are aside
pub none-aside : (s : Feeding) → s.current ≡ None → put_aside s ≡ s
none-aside s none = ap₂ (λ (c : Option OpenJob) (jobs : List OpenJob). record s { current = c; aside = jobs }) (sym none) (ap (λ (c : Option OpenJob). s.aside ++ option_to_list c) none ∙ append-nil s.aside)

-- ---- a line of a job

-- a job that has one more step has got it, and one that has no more has got none
pub step-got : (o next : OpenJob) (step : Step) → next.job.steps ≡ o.job.steps ++ step ∷ [] → steps_got o next ≡ step ∷ []
step-got o next step more = ap (λ (xs : List Step). option_to_list (slice_get xs (length o.job.steps))) more ∙ ap option_to_list (last-got o.job.steps step [])

pub no-step : (o : OpenJob) (b : Block) → steps_got o (with_block o b) ≡ []
no-step o b = ap option_to_list (none-got o.job.steps)

header-parsed : (laws : WordLaws) (most : Limits) (others : List (List ℕ)) (rows : List (List (List ℕ))) (s : Feeding) (o : OpenJob) (later : List FeedPost) (fed : Fed) → s.current ≡ Some o → AreCalm s.aside → (after_header most (codes "p" ∷ others) o >>= λ after. Ok (going_on s o after)) ≡ Ok fed → Outside most (codes "p" ∷ others) rows s later fed
header-parsed laws most others rows s o later fed own calm e =
    let a = bind_ok (after_header most (codes "p" ∷ others) o) (λ after. Ok (going_on s o after)) fed e in
    let c = passed (nat_lt (length (revisions o.job)) most.revisions) (in_block (block.opened (codes "p" ∷ others)) >>= (λ b. Ok (with_block o b))) (Limit Revisions) a.0 a.1 in
    let d = bind_ok (in_block (block.opened (codes "p" ∷ others))) (λ b. Ok (with_block o b)) a.0 c.1 in
    let is : going_on s o (with_block o d.0) ≡ fed = ap (λ (x : OpenJob). going_on s o x) (ok_is (with_block o d.0) a.0 d.2) ∙ ok_is (going_on s o a.0) fed a.2 in
    let opens : block.opened (codes "p" ∷ others) ≡ Ok d.0 = in_block_ok (block.opened (codes "p" ∷ others)) d.0 d.1 in
    subst (Outside most (codes "p" ∷ others) rows s later) is (λ ahead. whole d.0 (ltb-true (length (revisions o.job)) most.revisions c.0) opens (ahead calm))
  where
    whole : (b : Block) → length (revisions o.job) < most.revisions → block.opened (codes "p" ∷ others) ≡ Ok b → InBlock most rows (record s { current = Some (with_block o b) }) (with_block o b) b later → Free most ((codes "p" ∷ others) ∷ rows) s (map (Takes (key_of o.job)) (steps_got o (with_block o b)) ++ later)
    whole b room opens left =
        let step : Step = Revise (record { variables = left.formula.variables; clauses = left.formula.clauses; assumptions = left.assumptions }) in
        let revises : with_revision o left.formula left.assumptions ≡ left.next = revised_is (with_block o b) left.formula left.assumptions left.next left.revised in
        let more : left.next.job.steps ≡ o.job.steps ++ step ∷ [] = sym (ap (λ (x : OpenJob). x.job.steps) revises) in
        let posted : map (Takes (key_of o.job)) (steps_got o (with_block o b)) ++ later ≡ Takes (key_of o.job) step ∷ left.later =
        ap (λ (xs : List Step). map (Takes (key_of o.job)) xs ++ later) (no-step o b) ∙ left.posted ∙ ap (λ (xs : List Step). map (Takes (key_of o.job)) xs ++ left.later) (step-got o left.next step more) in
        let spelled : (block.opened (codes "p" ∷ others) >>= λ b. after_rows left.body b >>= block.ended) ≡ Ok left.formula = ap (λ (x : Result Block BlockFault). x >>= λ b. after_rows left.body b >>= block.ended) opens ∙ left.spelled in
        subst (λ (x : List (List (List ℕ))). Free most x s (map (Takes (key_of o.job)) (steps_got o (with_block o b)) ++ later))
        (ap (λ (x : List (List (List ℕ))). (codes "p" ∷ others) ∷ x) (append_assoc left.body ((codes "a" ∷ left.words) ∷ []) left.rest ∙ sym left.lines))
        (one-part most (Within (Revision (record { header = others; body = left.body; assumed = left.words }))) left.rest s (record s { current = Some left.next }) (Takes (key_of o.job) step ∷ []) left.later _
        (record {
          job = o;
          next = left.next;
          step = step;
          current = own;
          stepped = record { formula = left.formula; assumptions = left.assumptions; room = room; inside = left.inside; spelled = spelled; assumed = read-assumes left.formula.variables left.words left.assumptions left.assumed; fits = ((laws.revision o left.formula left.assumptions left.next).1 left.revised).0; revised = sym revises };
          more = more;
          left = refl;
          posted = refl;
        })
        left.job posted)

weight-parsed : (laws : WordLaws) (most : Limits) (others : List (List ℕ)) (rows : List (List (List ℕ))) (s : Feeding) (o : OpenJob) (later : List FeedPost) (fed : Fed) → s.current ≡ Some o → AreCalm s.aside → (after_weight others o >>= λ after. Ok (going_on s o after)) ≡ Ok fed → Outside most (codes "q" ∷ others) rows s later fed
weight-parsed laws most [] rows s o later fed own calm e = absurd (cc)
weight-parsed laws most (p ∷ []) rows s o later fed own calm e = absurd (cc)
weight-parsed laws most (p ∷ d ∷ word ∷ words) rows s o later fed own calm e = absurd (cc)
weight-parsed laws most (p ∷ d ∷ []) rows s o later fed own calm e =
    let a = bind_ok (after_weight (p ∷ d ∷ []) o) (λ after. Ok (going_on s o after)) fed e in
    let c = bind_ok (weighed p d) (λ w. Ok (with_weight o w)) a.0 a.1 in
    let is : going_on s o (with_weight o c.0) ≡ fed = ap (λ (x : OpenJob). going_on s o x) (ok_is (with_weight o c.0) a.0 c.2) ∙ ok_is (going_on s o a.0) fed a.2 in
    let posted : map (Takes (key_of o.job)) (steps_got o (with_weight o c.0)) ++ later ≡ Takes (key_of o.job) (Reask c.0) ∷ later = ap (λ (xs : List Step). map (Takes (key_of o.job)) xs ++ later) (step-got o (with_weight o c.0) (Reask c.0) refl) in
    subst (Outside most (codes "q" ∷ p ∷ d ∷ []) rows s later) is
    (λ ahead. one-part most (Within (Weight p d)) rows s (record s { current = Some (with_weight o c.0) }) (Takes (key_of o.job) (Reask c.0) ∷ []) later _
    (record { job = o; next = with_weight o c.0; step = Reask c.0; current = own; stepped = record { weight = c.0; weighs = (laws.weight p d c.0).1 c.1; reasked = refl }; more = refl; left = refl; posted = refl })
    (ahead calm) posted)

ended-parsed : (most : Limits) (others : List (List ℕ)) (rows : List (List (List ℕ))) (s : Feeding) (o : OpenJob) (later : List FeedPost) (fed : Fed) → s.current ≡ Some o → AreCalm s.aside → (ended_job others o >>= λ j. Ok (ended s j)) ≡ Ok fed → Outside most (codes "e" ∷ others) rows s later fed
ended-parsed most (word ∷ words) rows s o later fed own calm e = absurd (cc)
ended-parsed most [] rows s o later fed own calm e =
    subst (Outside most (codes "e" ∷ []) rows s later) (ok_is (ended s o.job) fed e)
    (λ ahead. one-part most Last rows s (record s { current = None }) (Closes (key_of o.job) ∷ []) later _ (record { job = o; current = own; left = refl; posted = refl }) (ahead calm) refl)

-- a line of a job of which no block has begun
inside-parsed : (laws : WordLaws) (most : Limits) (first : List ℕ) (others : List (List ℕ)) (rows : List (List (List ℕ))) (s : Feeding) (o : OpenJob) (later : List FeedPost) (fed : Fed) → s.current ≡ Some o → is_calm o → AreCalm s.aside → inside_job most first others o s ≡ Ok fed → Outside most (first ∷ others) rows s later fed
inside-parsed laws most first others rows s o later fed own here calm e = by_p (bytes_eq first (codes "p")) refl e
  where
    all : AreCalm (opened s)
    all = subst (λ (c : Option OpenJob). AreCalm (s.aside ++ option_to_list c)) (sym own) (all-append is_calm s.aside (o ∷ []) calm (here, tt))

    by_e : (b : Bool) → bytes_eq first (codes "e") ≡ b → cond b (ended_job others o >>= λ j. Ok (ended s j)) (outside most first others (put_aside s)) ≡ Ok fed → Outside most (first ∷ others) rows s later fed
    by_e true q h = subst (λ (x : List ℕ). Outside most (x ∷ others) rows s later fed) (sym (same_bytes first (codes "e") q)) (ended-parsed most others rows s o later fed own calm h)
    by_e false q h = outside-parsed laws most first others rows s later fed all h

    by_q : (b : Bool) → bytes_eq first (codes "q") ≡ b → cond b (after_weight others o >>= λ after. Ok (going_on s o after)) (cond (bytes_eq first (codes "e")) (ended_job others o >>= λ j. Ok (ended s j)) (outside most first others (put_aside s))) ≡ Ok fed → Outside most (first ∷ others) rows s later fed
    by_q true q h = subst (λ (x : List ℕ). Outside most (x ∷ others) rows s later fed) (sym (same_bytes first (codes "q") q)) (weight-parsed laws most others rows s o later fed own calm h)
    by_q false q h = by_e (bytes_eq first (codes "e")) refl h

    by_p : (b : Bool) → bytes_eq first (codes "p") ≡ b → cond b (after_header most (first ∷ others) o >>= λ after. Ok (going_on s o after)) (cond (bytes_eq first (codes "q")) (after_weight others o >>= λ after. Ok (going_on s o after)) (cond (bytes_eq first (codes "e")) (ended_job others o >>= λ j. Ok (ended s j)) (outside most first others (put_aside s)))) ≡ Ok fed → Outside most (first ∷ others) rows s later fed
    by_p true q h =
        let same : first ≡ codes "p" = same_bytes first (codes "p") q in
        let k : (after_header most (codes "p" ∷ others) o >>= λ after. Ok (going_on s o after)) ≡ Ok fed = subst (λ (x : List ℕ). (after_header most (x ∷ others) o >>= λ after. Ok (going_on s o after)) ≡ Ok fed) same h in
        subst (λ (x : List ℕ). Outside most (x ∷ others) rows s later fed) (sym same) (header-parsed laws most others rows s o later fed own calm k)
    by_p false q h = by_q (bytes_eq first (codes "q")) refl h

-- ---- a line of a block

-- a line that was read begins with what is left of a block
abbrev pub AtBlock : Limits → List (List ℕ) → List (List (List ℕ)) → Feeding → OpenJob → Block → List FeedPost → Fed → Type 0
AtBlock most row rows s o b later fed = Ahead most rows later fed.left → InBlock most (row ∷ rows) s o b (fed.posts ++ later)

assumed-parsed : (most : Limits) (others : List (List ℕ)) (rows : List (List (List ℕ))) (s : Feeding) (o : OpenJob) (b : Block) (later : List FeedPost) (fed : Fed) → AreCalm s.aside → (after_assumptions others o b >>= λ after. Ok (going_on s o after)) ≡ Ok fed → AtBlock most (codes "a" ∷ others) rows s o b later fed
assumed-parsed most others rows s o b later fed calm e =
    let a = bind_ok (after_assumptions others o b) (λ after. Ok (going_on s o after)) fed e in
    let c = bind_ok (in_block (block.ended b)) (λ f. assumptions_in f.variables others >>= revised o f) a.0 a.1 in
    let d = bind_ok (assumptions_in c.0.variables others) (revised o c.0) a.0 c.2 in
    let next : with_revision o c.0 d.0 ≡ a.0 = revised_is o c.0 d.0 a.0 d.2 in
    let is : going_on s o (with_revision o c.0 d.0) ≡ fed = ap (λ (x : OpenJob). going_on s o x) next ∙ ok_is (going_on s o a.0) fed a.2 in
    subst (AtBlock most (codes "a" ∷ others) rows s o b later) is
    (λ ahead. record {
      body = [];
      words = others;
      rest = rows;
      formula = c.0;
      assumptions = d.0;
      next = with_revision o c.0 d.0;
      later = later;
      lines = refl;
      inside = refl;
      spelled = in_block_ok (block.ended b) c.0 c.1;
      assumed = d.1;
      revised = d.2 ∙ ap (λ (x : OpenJob). Ok x) (sym next);
      posted = refl;
      job = ahead calm;
    })

row-parsed : (most : Limits) (first : List ℕ) (others : List (List ℕ)) (rows : List (List (List ℕ))) (s : Feeding) (o : OpenJob) (b : Block) (later : List FeedPost) (fed : Fed) → is_passed (first ∷ others) ≡ false → bytes_eq first (codes "a") ≡ false → AreCalm s.aside
    → ((in_block (block.after_row (first ∷ others) b) >>= λ after. Ok (with_block o after)) >>= λ after. Ok (going_on s o after)) ≡ Ok fed → AtBlock most (first ∷ others) rows s o b later fed
row-parsed most first others rows s o b later fed counts other calm e =
    let a = bind_ok (in_block (block.after_row (first ∷ others) b) >>= λ after. Ok (with_block o after)) (λ after. Ok (going_on s o after)) fed e in
    let c = bind_ok (in_block (block.after_row (first ∷ others) b)) (λ after. Ok (with_block o after)) a.0 a.1 in
    let is : going_on s o (with_block o c.0) ≡ fed = ap (λ (x : OpenJob). going_on s o x) (ok_is (with_block o c.0) a.0 c.2) ∙ ok_is (going_on s o a.0) fed a.2 in
    subst (AtBlock most (first ∷ others) rows s o b later) is (λ ahead. whole c.0 (in_block_ok (block.after_row (first ∷ others) b) c.0 c.1) (ahead calm))
  where
    whole : (c : Block) → block.after_row (first ∷ others) b ≡ Ok c → InBlock most rows (record s { current = Some (with_block o c) }) (with_block o c) c later → InBlock most ((first ∷ others) ∷ rows) s o b (map (Takes (key_of o.job)) (steps_got o (with_block o c)) ++ later)
    whole c after left =
        let test : is_inside (first ∷ others) ≡ true = rw (counts, other) refl in
        record {
          body = (first ∷ others) ∷ left.body;
          words = left.words;
          rest = left.rest;
          formula = left.formula;
          assumptions = left.assumptions;
          next = left.next;
          later = left.later;
          lines = ap (λ (x : List (List (List ℕ))). (first ∷ others) ∷ x) left.lines;
          inside = and-both _ _ test left.inside;
          spelled = ap (λ (x : Result Block BlockFault). (x >>= after_rows left.body) >>= block.ended) after ∙ left.spelled;
          assumed = left.assumed;
          revised = left.revised;
          posted = ap (λ (xs : List Step). map (Takes (key_of o.job)) xs ++ later) (no-step o c) ∙ left.posted;
          job = left.job;
        }

block-parsed : (most : Limits) (first : List ℕ) (others : List (List ℕ)) (rows : List (List (List ℕ))) (s : Feeding) (o : OpenJob) (b : Block) (later : List FeedPost) (fed : Fed) → is_passed (first ∷ others) ≡ false → AreCalm s.aside
    → (inside_block first others o b >>= λ after. Ok (going_on s o after)) ≡ Ok fed → AtBlock most (first ∷ others) rows s o b later fed
block-parsed most first others rows s o b later fed counts calm e = by_test (bytes_eq first (codes "a")) refl e
  where
    by_test : (a : Bool) → bytes_eq first (codes "a") ≡ a → (cond a (after_assumptions others o b) (in_block (block.after_row (first ∷ others) b) >>= λ after. Ok (with_block o after)) >>= λ after. Ok (going_on s o after)) ≡ Ok fed → AtBlock most (first ∷ others) rows s o b later fed
    by_test true p h = subst (λ (x : List ℕ). AtBlock most (x ∷ others) rows s o b later fed) (sym (same_bytes first (codes "a") p)) (assumed-parsed most others rows s o b later fed calm h)
    by_test false p h = row-parsed most first others rows s o b later fed counts p calm h

-- ---- a line, and the lines

opened-parsed : (laws : WordLaws) (most : Limits) (first : List ℕ) (others : List (List ℕ)) (rows : List (List (List ℕ))) (s : Feeding) (o : OpenJob) (b : Option Block) (later : List FeedPost) (fed : Fed) → s.current ≡ Some o → o.block ≡ b → is_passed (first ∷ others) ≡ false → AreCalm s.aside
    → inside most first others o b s ≡ Ok fed → Ahead most rows later fed.left → InOpened most ((first ∷ others) ∷ rows) s o b (fed.posts ++ later)
opened-parsed laws most first others rows s o None later fed own here counts calm e ahead = inside-parsed laws most first others rows s o later fed own here calm e ahead
opened-parsed laws most first others rows s o (Some b) later fed own here counts calm e ahead = block-parsed most first others rows s o b later fed counts calm e ahead

line-parsed : (laws : WordLaws) (most : Limits) (first : List ℕ) (others : List (List ℕ)) (rows : List (List (List ℕ))) (s : Feeding) (current : Option OpenJob) (later : List FeedPost) (fed : Fed) → s.current ≡ current → is_passed (first ∷ others) ≡ false → AreCalm s.aside
    → after_counted most first others current s ≡ Ok fed → Ahead most rows later fed.left → Parsed most ((first ∷ others) ∷ rows) s current (fed.posts ++ later)
line-parsed laws most first others rows s None later fed own counts calm e ahead =
    let all : AreCalm (opened s) = subst (λ (c : Option OpenJob). AreCalm (s.aside ++ option_to_list c)) (sym own) (all-append is_calm s.aside [] calm tt) in
    outside-parsed laws most first others rows s later fed all (ap (outside most first others) (none-aside s own) ∙ e) ahead
line-parsed laws most first others rows s (Some o) later fed own counts calm e ahead = opened-parsed laws most first others rows s o o.block later fed own refl counts calm e ahead

-- each line counts
abbrev pub counted : List (List (List ℕ)) → Bool
counted rows = list_all (λ row. not (is_passed row)) rows

pub not_true : (b : Bool) → not b ≡ true → b ≡ false
not_true true e = absurd (cc)
not_true false e = refl

-- a line that counts is read as such
counted-row : (most : Limits) (first : List ℕ) (others : List (List ℕ)) (s : Feeding) → is_passed (first ∷ others) ≡ false → after_row most (first ∷ others) s ≡ after_counted most first others s.current s
counted-row most first others s e = ap (λ (b : Bool). cond b (Ok (quiet s)) (after_counted most first others s.current s)) e

pub parsed : (laws : WordLaws) (most : Limits) (rows : List (List (List ℕ))) (s : Feeding) (posts : List FeedPost) → AreCalm s.aside → counted rows ≡ true → run most rows s ≡ Ok posts → Parsed most rows s s.current posts
parsed laws most [] s posts calm counts e = end-parsed most s s.current posts e
parsed laws most ([] ∷ rows) s posts calm counts e = absurd (cc)
parsed laws most ((first ∷ others) ∷ rows) s posts calm counts e =
    let own : is_passed (first ∷ others) ≡ false = not_true (is_passed (first ∷ others)) (and-left _ _ counts) in
    let a = bind_ok (after_row most (first ∷ others) s) (λ fed. run most rows fed.left >>= λ later. Ok (fed.posts ++ later)) posts e in
    let b = bind_ok (run most rows a.0.left) (λ later. Ok (a.0.posts ++ later)) posts a.2 in
    subst (Parsed most ((first ∷ others) ∷ rows) s s.current) (ok_is (a.0.posts ++ b.0) posts b.2)
    (line-parsed laws most first others rows s s.current b.0 a.0 refl own calm (sym (counted-row most first others s own) ∙ a.1) (λ calm2. parsed laws most rows a.0.left b.0 calm2 (and-right (not (is_passed (first ∷ others))) _ counts) b.1))
