-- Reading a feed line by line: what each line posts, or the first fault with its line.
use Rattle.std.specs.Prelude.{ℕ, suc, max, Bool, List, [], ◌∷◌, ◌++◌, length, filter, map, codes, bytes_eq, nat_lt, if◌then◌else◌, Option, Some, None, Result, Ok, Err, slice_get, option_to_list}
use Rattle.std.specs.List.{list_any, position_or_len, remove}
use Rattle.mal_base.specs.Asks.{Terms}
use Rattle.mal_base.specs.Names.{is_name}
use Rattle.mal_base.specs.declared.key.Key.{Key}
use Rattle.mal_base.specs.declared.limit_kind.LimitKind.TheVariants.{Tenants, Jobs}
use Rattle.mal_base.specs.declared.limits.Limits.{Limits}
use Rattle.mal_base.specs.declared.line_fault.LineFault.{LineFault}
use Rattle.mal_base.specs.declared.line_fault.LineFault.TheVariants.{BadLine, Duplicate, Limit}
use Rattle.spec_text.specs.Inputs.{lines_of, words_of}
use Rattle.spec_dimacs.specs.Rows.{is_passed}
use Rattle.spec_dimacs.specs.Reading as block
use Rattle.spec_dimacs.specs.Reading.{Block, ◌>>=◌}
use Rattle.spec_script.specs.Script.{ScriptedJob}
use Rattle.spec_script.specs.Reading.{OpenJob, after_header, after_weight, asked, begun, ended_job, has_room, in_block, inside_block, is_job}
use Rattle.spec_script.specs.declared.step.Step.{Step}
use Rattle.spec_feed.specs.declared.post.FeedPost.{FeedPost}
use Rattle.spec_feed.specs.declared.post.FeedPost.TheVariants.{Opens, Takes, Closes}
use Rattle.spec_feed.specs.declared.fault.FeedFault.{FeedFault}
use Rattle.spec_feed.specs.declared.fault.FeedFault.TheVariants as feed

-- A feed of which some lines are read: the jobs that have begun, as they began; the job that the lines are of, and the
-- other jobs that have not ended; the tenants that were named, and the last of them.
pub record Feeding : Type 0 where
  pub begun : List ScriptedJob
  pub current : Option OpenJob
  pub aside : List OpenJob
  pub tenants : List (List ℕ)
  pub tenant : Option (List ℕ)

-- before the first line
abbrev pub unfed : Feeding
unfed = record { begun = []; current = None; aside = []; tenants = []; tenant = None }

-- what a line leaves, and what it posts
pub record Fed : Type 0 where
  pub left : Feeding
  pub posts : List FeedPost

-- a line that posts nothing
abbrev pub quiet : Feeding → Fed
quiet s = record { left = s; posts = [] }

-- the key of a job
abbrev pub key_of : ScriptedJob → Key
key_of j = record { tenant = j.tenant; job = j.name }

-- the lines that follow are of no job: the one that they were of stays open
abbrev pub put_aside : Feeding → Feeding
put_aside s = record s { current = None; aside = s.aside ++ option_to_list s.current }

-- after the name of a tenant, which is one of those named before or one more
abbrev pub named : Limits → List ℕ → Feeding → Result Fed LineFault
named most name s =
    if list_any (bytes_eq name) s.tenants then Ok (quiet (record s { tenant = Some name })) else
    if nat_lt (length s.tenants) most.tenants then Ok (quiet (record s { tenants = s.tenants ++ name ∷ []; tenant = Some name })) else
    Err (Limit Tenants)

-- after the words after the `t` of a tenant's line
abbrev pub after_tenant : Limits → List (List ℕ) → Feeding → Result Fed LineFault
after_tenant most (name ∷ []) s = if is_name name then named most name s else Err BadLine
after_tenant most others s = Err BadLine

-- after a job of this tenant has begun
abbrev pub begins : List ℕ → List ℕ → Terms → Feeding → Fed
begins tenant name ask s =
    let o = begun tenant name ask in record {
      left = record s { begun = s.begun ++ o.job ∷ []; current = Some o };
      posts = Opens (key_of o.job) ask ∷ [];
    }

-- the same, where the tenant may have one more under this name
abbrev pub admitted : Limits → List ℕ → List ℕ → Feeding → Terms → Result Fed LineFault
admitted most tenant name s ask =
    if list_any (is_job tenant name) s.begun then Err (Duplicate tenant name) else
    if has_room most tenant s.begun then Ok (begins tenant name ask s) else
    Err (Limit Jobs)

-- an open job is that of this tenant under this name
abbrev pub is_open_job : List ℕ → List ℕ → OpenJob → Bool
is_open_job tenant name o = is_job tenant name o.job

-- the lines that follow are of the open job that stands at this place beside the others
abbrev pub taken_up : ℕ → Feeding → Option OpenJob → Result Fed LineFault
taken_up place s None = Err BadLine
taken_up place s (Some o) = Ok (quiet (record s { current = Some o; aside = remove s.aside place }))

-- the lines that follow are of this tenant's open job of this name
abbrev pub goes_on : List ℕ → List ℕ → Feeding → Result Fed LineFault
goes_on tenant name s =
    let place = position_or_len (is_open_job tenant name) s.aside in taken_up place s (slice_get s.aside place)

-- after the words after the `j` of a job's line, of this tenant: those of a job that begins, or the name of an open one
abbrev pub of_tenant : Limits → List ℕ → List (List ℕ) → Feeding → Result Fed LineFault
of_tenant most tenant (name ∷ []) s = goes_on tenant name s
of_tenant most tenant (name ∷ p ∷ d ∷ k ∷ words) s = if is_name name then asked p d k words >>= admitted most tenant name s else Err BadLine
of_tenant most tenant others s = Err BadLine

-- the same, of the tenant that was named last
abbrev pub after_job : Limits → Option (List ℕ) → List (List ℕ) → Feeding → Result Fed LineFault
after_job most None words s = Err BadLine
after_job most (Some tenant) words s = of_tenant most tenant words s

-- after a line that counts and is of no job
abbrev pub outside : Limits → List ℕ → List (List ℕ) → Feeding → Result Fed LineFault
outside most first others s =
    if bytes_eq first (codes "t") then after_tenant most others s else
    if bytes_eq first (codes "j") then after_job most s.tenant others s else
    Err BadLine

-- the steps that a job has got by a line
abbrev pub steps_got : OpenJob → OpenJob → List Step
steps_got before after = option_to_list (slice_get after.job.steps (length before.job.steps))

-- the job goes on as this after a line of it: what it has got is posted
abbrev pub going_on : Feeding → OpenJob → OpenJob → Fed
going_on s before after = record {
  left = record s { current = Some after };
  posts = map (Takes (key_of before.job)) (steps_got before after);
}

-- after the line that ends a job, which is then closed
abbrev pub ended : Feeding → ScriptedJob → Fed
ended s j = record { left = record s { current = None }; posts = Closes (key_of j) ∷ [] }

-- after a line that counts and stands in no block, where the lines are of a job
abbrev pub inside_job : Limits → List ℕ → List (List ℕ) → OpenJob → Feeding → Result Fed LineFault
inside_job most first others o s =
    if bytes_eq first (codes "p") then after_header most (first ∷ others) o >>= (λ after. Ok (going_on s o after)) else
    if bytes_eq first (codes "q") then after_weight others o >>= (λ after. Ok (going_on s o after)) else
    if bytes_eq first (codes "e") then ended_job others o >>= (λ j. Ok (ended s j)) else
    outside most first others (put_aside s)

-- after a line that counts, where the lines are of a job, of which a block may have begun
abbrev pub inside : Limits → List ℕ → List (List ℕ) → OpenJob → Option Block → Feeding → Result Fed LineFault
inside most first others o None s = inside_job most first others o s
inside most first others o (Some b) s = inside_block first others o b >>= λ after. Ok (going_on s o after)

-- after a line that counts
abbrev pub after_counted : Limits → List ℕ → List (List ℕ) → Option OpenJob → Feeding → Result Fed LineFault
after_counted most first others None s = outside most first others s
after_counted most first others (Some o) s = inside most first others o o.block s

-- after a line, given by its words
abbrev pub after_row : Limits → List (List ℕ) → Feeding → Result Fed LineFault
after_row most [] s = Ok (quiet s)
after_row most (first ∷ others) s = if is_passed (first ∷ others) then Ok (quiet s) else after_counted most first others s.current s

-- the most bytes of a line
abbrev pub longest_line : ℕ
longest_line = 67108864

-- what words give, their fault as one of a feed
abbrev pub in_feed : {A : Type 0} → Result A LineFault → Result A FeedFault
in_feed (Ok x) = Ok x
in_feed (Err fault) = Err (feed.Line fault)

-- after a line
abbrev pub after_line : Limits → List ℕ → Feeding → Result Fed FeedFault
after_line most line s = if nat_lt longest_line (length line) then Err feed.TooLong else in_feed (after_row most (words_of line) s)

-- the jobs that have not ended
abbrev pub opened : Feeding → List OpenJob
opened s = s.aside ++ option_to_list s.current

-- a job that has begun has not ended
abbrev pub is_opened : Feeding → ScriptedJob → Bool
is_opened s j = list_any (is_open_job j.tenant j.name) (opened s)

-- the jobs that have not ended are closed, in the order in which they began
abbrev pub closings : Feeding → List FeedPost
closings s = map (λ j. Closes (key_of j)) (filter (is_opened s) s.begun)

-- the end of the text in this block: a fault of the block comes first
abbrev pub in_open_block : Option Block → Feeding → Result (List FeedPost) LineFault
in_open_block None s = Ok (closings s)
in_open_block (Some b) s = in_block (block.ended b) >>= λ f. Err BadLine

-- the end of the text: no block has begun and not ended
abbrev pub at_end : Option OpenJob → Feeding → Result (List FeedPost) LineFault
at_end None s = Ok (closings s)
at_end (Some o) s = in_open_block o.block s

-- a fault with its line
abbrev pub on_feed_line : {A : Type 0} → ℕ → Result A FeedFault → Result A (ℕ × FeedFault)
on_feed_line n (Ok x) = Ok x
on_feed_line n (Err fault) = Err (n, fault)

-- the lines that are left, after so many lines; a fault at the end is named with the last line, 1 where there is none
abbrev pub read_lines : Limits → List (List ℕ) → ℕ → Feeding → Result (List FeedPost) (ℕ × FeedFault)
read_lines most [] n s = on_feed_line (max 1 n) (in_feed (at_end s.current s))
read_lines most (line ∷ lines) n s = on_feed_line (suc n) (after_line most line s) >>= λ fed. read_lines most lines (suc n) fed.left >>= λ posts. Ok (fed.posts ++ posts)

-- what a text posts, or its first fault with its line
unfoldable pub read_feed : Limits → List ℕ → Result (List FeedPost) (ℕ × FeedFault)
read_feed most text = read_lines most (lines_of text) 0 unfed
