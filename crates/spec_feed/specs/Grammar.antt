-- The grammar of feeds: what a text spells.
use Rattle.std.specs.Prelude.{◌≡◌, ℕ, ◌<◌, Bool, true, false, ◌⊎◌, List, [], ◌∷◌, ◌++◌, length, flat_map, codes, bytes_eq, nat_le, Some, None}
use Rattle.std.specs.List.{list_all, list_any}
use Rattle.mal_base.specs.Asks.{Terms}
use Rattle.mal_base.specs.Names.{is_name}
use Rattle.mal_base.specs.declared.limits.Limits.{Limits}
use Rattle.spec_text.specs.Inputs.{lines_of}
use Rattle.spec_dimacs.specs.Rows.{counted_rows}
use Rattle.spec_script.specs.Formed.{with_name}
use Rattle.spec_script.specs.Grammar.{Admits, Asks, StepLines, Steps, step_lines}
use Rattle.spec_script.specs.Reading.{OpenJob, begun}
use Rattle.spec_script.specs.declared.step.Step.{Step}
use Rattle.spec_feed.specs.declared.post.FeedPost.{FeedPost}
use Rattle.spec_feed.specs.declared.post.FeedPost.TheVariants.{Opens, Takes, Closes}
use Rattle.spec_feed.specs.Reading.{Feeding, closings, is_open_job, key_of, longest_line, opened, unfed}

-- the words of the first line of a job, of which that of the profile may be left out
pub record JobWords : Type 0 where
  pub name : List ℕ
  pub priority : List ℕ
  pub demand : List ℕ
  pub slices : List ℕ
  pub profile : List (List ℕ)

-- a part of a feed: the line of a tenant's name, the first line of a job, the line that goes on with an open job, the
-- lines of a step of the job that the lines are of, or the line that ends this job
pub data Part : Type 0 where
  Tenant : List ℕ → Part
  First : JobWords → Part
  Again : List ℕ → Part
  Within : StepLines → Part
  Last : Part

-- the words of the lines of a part
abbrev pub part_lines : Part → List (List (List ℕ))
part_lines (Tenant name) = (codes "t" ∷ name ∷ []) ∷ []
part_lines (First j) = (codes "j" ∷ j.name ∷ j.priority ∷ j.demand ∷ j.slices ∷ j.profile) ∷ []
part_lines (Again name) = (codes "j" ∷ name ∷ []) ∷ []
part_lines (Within step) = step_lines step
part_lines Last = (codes "e" ∷ []) ∷ []

-- a tenant is named: its word is a name, which was named before or is one more than may have been named. The lines that
-- follow are of no job, and no job has ended
pub record Names (most : Limits) (s : Feeding) (name : List ℕ) (after : Feeding) (posts : List FeedPost) : Type 0 where
  pub formed : is_name name ≡ true
  pub room : (list_any (bytes_eq name) s.tenants ≡ true) ⊎ (length s.tenants < most.tenants)
  pub left : after ≡ record s { current = None; aside = opened s; tenants = with_name s.tenants name; tenant = Some name }
  pub posted : posts ≡ []

-- a job of the tenant that was named last begins, and the lines that follow are of it: the opening is posted
pub record Begins (most : Limits) (s : Feeding) (j : JobWords) (after : Feeding) (posts : List FeedPost) : Type 0 where
  pub tenant : List ℕ
  pub ask : Terms
  pub owned : s.tenant ≡ Some tenant
  pub name : is_name j.name ≡ true
  pub asks : Asks j.priority j.demand j.slices j.profile ask
  pub admitted : Admits most tenant j.name s.begun
  pub left : after ≡ record s { begun = s.begun ++ (begun tenant j.name ask).job ∷ []; current = Some (begun tenant j.name ask); aside = opened s }
  pub posted : posts ≡ Opens (record { tenant = tenant; job = j.name }) ask ∷ []

-- the lines that follow are of a job that has not ended, of the tenant that was named last and of this name
pub record GoesOn (s : Feeding) (name : List ℕ) (after : Feeding) (posts : List FeedPost) : Type 0 where
  pub tenant : List ℕ
  pub front : List OpenJob
  pub job : OpenJob
  pub rest : List OpenJob
  pub owned : s.tenant ≡ Some tenant
  pub found : opened s ≡ front ++ job ∷ rest
  pub own : is_open_job tenant name job ≡ true
  pub first : list_any (is_open_job tenant name) front ≡ false
  pub left : after ≡ record s { current = Some job; aside = front ++ rest }
  pub posted : posts ≡ []

-- the lines of a step make one more step of the job that the lines are of: the step is posted
pub record StepsOn (most : Limits) (s : Feeding) (lines : StepLines) (after : Feeding) (posts : List FeedPost) : Type 0 where
  pub job : OpenJob
  pub next : OpenJob
  pub step : Step
  pub current : s.current ≡ Some job
  pub stepped : Steps most job lines next
  pub more : next.job.steps ≡ job.job.steps ++ step ∷ []
  pub left : after ≡ record s { current = Some next }
  pub posted : posts ≡ Takes (key_of job.job) step ∷ []

-- the job that the lines are of has ended, and the lines that follow are of no job: the closing is posted
pub record Ends (s : Feeding) (after : Feeding) (posts : List FeedPost) : Type 0 where
  pub job : OpenJob
  pub current : s.current ≡ Some job
  pub left : after ≡ record s { current = None }
  pub posted : posts ≡ Closes (key_of job.job) ∷ []

-- what the lines of a part make of a feed, and what they post
abbrev pub Makes : Limits → Feeding → Part → Feeding → List FeedPost → Type 0
Makes most s (Tenant name) after posts = Names most s name after posts
Makes most s (First j) after posts = Begins most s j after posts
Makes most s (Again name) after posts = GoesOn s name after posts
Makes most s (Within lines) after posts = StepsOn most s lines after posts
Makes most s Last after posts = Ends s after posts

-- what the lines of several parts make of a feed and post, one after another
abbrev pub MakeAll : Limits → Feeding → List Part → Feeding → List FeedPost → Type 0
MakeAll most s [] after posts = (s ≡ after) × (posts ≡ [])
MakeAll most s (part ∷ parts) after posts =
    (next : Feeding) × (first : List FeedPost) × (others : List FeedPost)
    × Makes most s part next first × MakeAll most next parts after others × (posts ≡ first ++ others)

-- a line has no more bytes than a line may have
abbrev pub is_short : List ℕ → Bool
is_short line = nat_le (length line) longest_line

-- a text spells posts within limits: each of its lines is short, those that count are the lines of parts, and the posts
-- are those of the parts, and then the closings of the jobs that have not ended
pub record Spells (most : Limits) (text : List ℕ) (posts : List FeedPost) : Type 0 where
  pub parts : List Part
  pub after : Feeding
  pub made_posts : List FeedPost
  pub short : list_all is_short (lines_of text) ≡ true
  pub lines : counted_rows text ≡ flat_map part_lines parts
  pub made : MakeAll most unfed parts after made_posts
  pub posted : posts ≡ made_posts ++ closings after
