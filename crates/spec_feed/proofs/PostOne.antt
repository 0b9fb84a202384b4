-- Each line of a feed posts one thing or nothing.
use Rattle.std.proofs.Common.{ℕ, ◌≤◌, Bool, true, false, cond, List, [], ◌∷◌, length, map, nat_lt, codes, Option, Some, None, Result, Ok, Err, subst, arith, option_to_list}
use Rattle.std.specs.Str.{bytes_eq}
use Rattle.std.specs.List.{list_any, position_or_len, slice_get}
use Rattle.mal_base.specs.Asks.{Terms}
use Rattle.mal_base.specs.Names.{is_name}
use Rattle.mal_base.specs.declared.limit_kind.LimitKind.TheVariants.{Tenants, Jobs}
use Rattle.mal_base.specs.declared.limits.Limits.{Limits}
use Rattle.mal_base.specs.declared.line_fault.LineFault.{LineFault}
use Rattle.mal_base.specs.declared.line_fault.LineFault.TheVariants.{BadLine, Duplicate, Limit}
use Rattle.spec_text.specs.Inputs.{words_of}
use Rattle.spec_dimacs.specs.Rows.{is_passed}
use Rattle.spec_dimacs.specs.Reading.{Block, ◌>>=◌}
use Rattle.spec_script.specs.declared.step.Step.{Step}
use Rattle.spec_script.specs.Reading.{OpenJob, after_header, after_weight, asked, ended_job, has_room, inside_block, is_job}
use Rattle.spec_script.proofs.Inversions.{not_refused}
use Rattle.spec_feed.specs.declared.post.FeedPost.{FeedPost}
use Rattle.spec_feed.specs.declared.post.FeedPost.TheVariants.{Takes}
use Rattle.spec_feed.specs.declared.fault.FeedFault.TheVariants.{TooLong}
use Rattle.spec_feed.specs.Reading.{Fed, Feeding, admitted, after_counted, after_job, after_row, after_tenant, begins, ended, going_on, in_feed, inside, inside_job, is_open_job, key_of, longest_line, named, of_tenant, outside, put_aside, quiet, taken_up}
use Rattle.spec_feed.specs.Laws.{LinesPostOne}
use Rattle.spec_feed.proofs.Reading.{in_feed_ok}

-- what a line posts, if it is read, is one thing or nothing
abbrev IsOne : Result Fed LineFault → Type 0
IsOne (Ok fed) = length fed.posts ≤ 1
IsOne (Err fault) = Unit {0}

one-cond : (b : Bool) (x y : Result Fed LineFault) → IsOne x → IsOne y → IsOne (cond b x y)
one-cond true x y h k = h
one-cond false x y h k = k

one-bind : {A : Type 0} (r : Result A LineFault) (f : A → Result Fed LineFault) → ((x : A) → IsOne (f x)) → IsOne (r >>= f)
one-bind (Ok x) f h = h x
one-bind (Err d) f h = tt

-- ---- the lines of no job

one-named : (most : Limits) (name : List ℕ) (s : Feeding) → IsOne (named most name s)
one-named most name s = one-cond (list_any (bytes_eq name) s.tenants) _ _ (omega arith) (one-cond (nat_lt (length s.tenants) most.tenants) _ (Err (Limit Tenants)) (omega arith) tt)

one-tenant : (most : Limits) (others : List (List ℕ)) (s : Feeding) → IsOne (after_tenant most others s)
one-tenant most [] s = tt
one-tenant most (name ∷ word ∷ words) s = tt
one-tenant most (name ∷ []) s = one-cond (is_name name) (named most name s) (Err BadLine) (one-named most name s) tt

one-admitted : (most : Limits) (tenant name : List ℕ) (s : Feeding) (ask : Terms) → IsOne (admitted most tenant name s ask)
one-admitted most tenant name s ask = one-cond (list_any (is_job tenant name) s.begun) (Err (Duplicate tenant name)) _ tt (one-cond (has_room most tenant s.begun) (Ok (begins tenant name ask s)) (Err (Limit Jobs)) (omega arith) tt)

one-taken_up : (place : ℕ) (s : Feeding) (o : Option OpenJob) → IsOne (taken_up place s o)
one-taken_up place s None = tt
one-taken_up place s (Some o) = omega arith

one-of : (most : Limits) (tenant : List ℕ) (others : List (List ℕ)) (s : Feeding) → IsOne (of_tenant most tenant others s)
one-of most tenant [] s = tt
one-of most tenant (a ∷ []) s = one-taken_up (position_or_len (is_open_job tenant a) s.aside) s (slice_get s.aside (position_or_len (is_open_job tenant a) s.aside))
one-of most tenant (a ∷ b ∷ []) s = tt
one-of most tenant (a ∷ b ∷ c ∷ []) s = tt
one-of most tenant (a ∷ b ∷ c ∷ d ∷ q) s = one-cond (is_name a) (asked b c d q >>= admitted most tenant a s) (Err BadLine) (one-bind (asked b c d q) (admitted most tenant a s) (one-admitted most tenant a s)) tt

one-job : (most : Limits) (tenant : Option (List ℕ)) (others : List (List ℕ)) (s : Feeding) → IsOne (after_job most tenant others s)
one-job most None others s = tt
one-job most (Some tenant) others s = one-of most tenant others s

one-outside : (most : Limits) (first : List ℕ) (others : List (List ℕ)) (s : Feeding) → IsOne (outside most first others s)
one-outside most first others s =
    one-cond (bytes_eq first (codes "t")) (after_tenant most others s) _ (one-tenant most others s)
    (one-cond (bytes_eq first (codes "j")) (after_job most s.tenant others s) (Err BadLine) (one-job most s.tenant others s) tt)

-- ---- the lines of a job

one-got : (key : Step → FeedPost) (got : Option Step) → length (map key (option_to_list got)) ≤ 1
one-got key None = omega arith
one-got key (Some step) = omega arith

one-going_on : (s : Feeding) (o after : OpenJob) → length (going_on s o after).posts ≤ 1
one-going_on s o after = one-got (Takes (key_of o.job)) (slice_get after.job.steps (length o.job.steps))

one-inside_job : (most : Limits) (first : List ℕ) (others : List (List ℕ)) (o : OpenJob) (s : Feeding) → IsOne (inside_job most first others o s)
one-inside_job most first others o s =
    one-cond (bytes_eq first (codes "p")) (after_header most (first ∷ others) o >>= (λ after. Ok (going_on s o after))) _ (one-bind (after_header most (first ∷ others) o) (λ after. Ok (going_on s o after)) (one-going_on s o))
    (one-cond (bytes_eq first (codes "q")) (after_weight others o >>= (λ after. Ok (going_on s o after))) _ (one-bind (after_weight others o) (λ after. Ok (going_on s o after)) (one-going_on s o))
    (one-cond (bytes_eq first (codes "e")) (ended_job others o >>= (λ j. Ok (ended s j))) (outside most first others (put_aside s)) (one-bind (ended_job others o) (λ j. Ok (ended s j)) (λ j. omega arith))
    (one-outside most first others (put_aside s))))

one-inside : (most : Limits) (first : List ℕ) (others : List (List ℕ)) (o : OpenJob) (b : Option Block) (s : Feeding) → IsOne (inside most first others o b s)
one-inside most first others o None s = one-inside_job most first others o s
one-inside most first others o (Some b) s = one-bind (inside_block first others o b) (λ after. Ok (going_on s o after)) (one-going_on s o)

one-counted : (most : Limits) (first : List ℕ) (others : List (List ℕ)) (current : Option OpenJob) (s : Feeding) → IsOne (after_counted most first others current s)
one-counted most first others None s = one-outside most first others s
one-counted most first others (Some o) s = one-inside most first others o o.block s

one-row : (most : Limits) (row : List (List ℕ)) (s : Feeding) → IsOne (after_row most row s)
one-row most [] s = omega arith
one-row most (first ∷ others) s = one-cond (is_passed (first ∷ others)) (Ok (quiet s)) (after_counted most first others s.current s) (omega arith) (one-counted most first others s.current s)

pub lines_post_one : LinesPostOne
lines_post_one most line s fed e =
    let h = not_refused (nat_lt longest_line (length line)) (in_feed (after_row most (words_of line) s)) TooLong fed e in
    subst IsOne (in_feed_ok (after_row most (words_of line) s) fed h.1) (one-row most (words_of line) s)
