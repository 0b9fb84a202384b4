-- What the answers of the readers of a feed's lines say.
use Rattle.std.specs.Prelude.{◌≡◌, ℕ, Bool, true, not, ◌&&◌, List, [], ◌∷◌, length, filter, drop, if◌then◌else◌, Option, Some, None, Result, Ok, Err, option_to_list, slice_get, ◌<◌}
use Rattle.std.specs.List.{list_any}
use Rattle.mal_base.specs.declared.key.Key.{Key}
use Rattle.mal_base.specs.declared.limits.Limits.{Limits}
use Rattle.mal_base.specs.declared.line_fault.LineFault.{LineFault}
use Rattle.spec_text.specs.Inputs.{words_of}
use Rattle.spec_dimacs.specs.Reading.{◌>>=◌}
use Rattle.spec_script.specs.Script.{ScriptedJob}
use Rattle.spec_script.specs.Reading.{OpenJob, ended_job, is_job}
use Rattle.mal_script.specs.InPlace.{in_block_of}
use Rattle.mal_script.specs.ReadResult.{Fails, Leaves}
use Rattle.mal_script.specs.declared.fault.LineRefusal.{LineRefusal}
use Rattle.spec_feed.specs.Reading.{Fed, Feeding, after_row, at_end, closings, ended, going_on, is_open_job, is_opened, key_of, quiet}
use Rattle.spec_feed.specs.declared.post.FeedPost.{FeedPost}

-- a line posts what was answered and leaves this, unless memory ran out
abbrev pub Posts : Result (Option FeedPost) LineRefusal → Feeding → Result Fed LineFault → Type 0
Posts (Ok post) left read = read ≡ Ok (record { left = left; posts = option_to_list post })
Posts (Err e) left read = Fails e read

-- the lines are of this job
abbrev pub with_current : Feeding → OpenJob → Feeding
with_current s o = record s { current = Some o }

-- what a line posts that makes this of a job
abbrev pub posting : Feeding → OpenJob → Result OpenJob LineFault → Result Fed LineFault
posting s before made = made >>= λ after. Ok (going_on s before after)

-- a job that was known by this key and had so many steps goes on as what was read of a line says
abbrev pub JobGoesOn : {U : Type 0} → Key → ℕ → Result U LineRefusal → OpenJob → Result (Option FeedPost) LineRefusal → Feeding → Feeding → Type 0
JobGoesOn key steps read o result old new =
    (before : OpenJob) (made : Result OpenJob LineFault) → key ≡ key_of before.job → steps ≡ length before.job.steps → Leaves read o made → Posts result new (posting old before made)

-- after the words after the `e` of the line that ends this job
abbrev pub after_end : List (List ℕ) → OpenJob → Feeding → Result Fed LineFault
after_end words o s = ended_job words o >>= λ j. Ok (ended s j)

-- after these words in the block of the job that the lines are of, if there is one: they post nothing
abbrev pub in_job_of : List (List ℕ) → Feeding → Option OpenJob → Result Fed LineFault
in_job_of words s None = Ok (quiet s)
in_job_of words s (Some o) = in_block_of words o o.block >>= λ after. Ok (quiet (with_current s after))

-- after this line is what the block makes of it, and nothing else
abbrev pub StaysInBlock : List ℕ → Feeding → Type 0
StaysInBlock line s = (limits : Limits) → after_row limits (words_of line) s ≡ in_job_of (words_of line) s s.current

-- no two jobs have the same names
abbrev pub are_apart : List ScriptedJob → Bool
are_apart [] = true
are_apart (j ∷ jobs) = not (list_any (is_job j.tenant j.name) jobs) && are_apart jobs

-- the open job that the lines are of, unless it is the one of this key
abbrev pub unless_of : Key → Option OpenJob → Option OpenJob
unless_of k None = None
unless_of k (Some o) = if is_open_job k.tenant k.job o then None else Some o

-- without the open job of this key
abbrev pub without : Key → Feeding → Feeding
without k s = record s { current = unless_of k s.current; aside = filter (λ o. not (is_open_job k.tenant k.job o)) s.aside }

-- of the jobs that have not ended none is one of so many that began first
abbrev pub HavePassed : ℕ → Feeding → Type 0
HavePassed n s = filter (is_opened s) s.begun ≡ filter (is_opened s) (drop n s.begun)

-- the job at this place is the first from a place on that has not ended
pub record IsFirstOpen (from at : ℕ) (s : Feeding) : Type 0 where
  pub below : at < length s.begun
  pub rest : filter (is_opened s) (drop from s.begun) ≡ filter (is_opened s) (drop at s.begun)
  pub open_there : (j : ScriptedJob) → slice_get s.begun at ≡ Some j → is_opened s j ≡ true

-- the text may end here, or is refused; nothing is changed where it may
abbrev pub Ends : {U : Type 0} → Result U LineRefusal → Feeding → Feeding → Type 0
Ends (Ok u) before after = (after ≡ before) × (at_end before.current before ≡ Ok (closings before))
Ends (Err e) before after = Fails e (at_end before.current before)
