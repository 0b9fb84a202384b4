-- How a live service ended: what was read of a source, and what was served of it.
use Rattle.std.specs.Prelude.{ℕ, Bool, true, false, List, Option}
use Rattle.std.specs.Io.KnownBytes.{Appends, Consumes}
use Rattle.mal_parts.specs.Reading.{EndsSo}
use Rattle.mal_parts.specs.declared.reading.ReadEnd.{ReadEnd}
use Rattle.mal_parts.specs.declared.reading.ReadEnd.TheVariants as reading
use Rattle.mal_serve.specs.declared.finishing.Finished.{Finished}
use Rattle.mal_serve.specs.declared.finishing.Finished.TheVariants as finished
use Rattle.mal_serve.specs.declared.serving.ServeEnd.{ServeEnd}
use Rattle.mal_serve.specs.declared.serving.ServeEnd.TheVariants as serving
use Rattle.spec_feed.specs.declared.post.FeedPost.{FeedPost}
use Rattle.spec_live.specs.Live.{IsServing, IsServingInPart}

-- bytes were taken from a source, reading ended so, and this was posted
pub record WasRead (left left_now : Option (List ℕ)) (end : ReadEnd) (posts : List FeedPost) : Type 0 where
  pub taken : List ℕ
  pub consumed : Consumes left left_now taken
  pub ends : EndsSo taken left_now posts end

-- what was posted until reading ended so was served: the log gained the history's text, and the output the replies
pub record IsServed (workers : ℕ) (left left_now : Option (List ℕ)) (end : ReadEnd) (log log_now out out_now : Option (List ℕ)) : Type 0 where
  pub posts : List FeedPost
  pub read : WasRead left left_now end posts
  pub log_text : List ℕ
  pub out_text : List ℕ
  pub serving : IsServing workers posts log_text out_text
  pub log_gained : Appends log log_now log_text
  pub out_gained : Appends out out_now out_text

-- it was served in part, however reading ended
pub record IsServedInPart (workers : ℕ) (left left_now log log_now out out_now : Option (List ℕ)) : Type 0 where
  pub end : ReadEnd
  pub posts : List FeedPost
  pub read : WasRead left left_now end posts
  pub log_text : List ℕ
  pub out_text : List ℕ
  pub serving : IsServingInPart workers posts log_text out_text
  pub log_gained : Appends log log_now log_text
  pub out_gained : Appends out out_now out_text

-- a live service of so many workers ended so, and this came of its source, its log and its output
abbrev pub HasServed : ℕ → Option (List ℕ) → Option (List ℕ) → Option (List ℕ) → Option (List ℕ) → Option (List ℕ) → Option (List ℕ) → ServeEnd → Type 0
HasServed workers left left_now log log_now out out_now serving.AtEnd = IsServed workers left left_now reading.AtEnd log log_now out out_now
HasServed workers left left_now log log_now out out_now (serving.Fault line fault) = IsServed workers left left_now (reading.Fault line fault) log log_now out out_now
HasServed workers left left_now log log_now out out_now serving.Failed = IsServed workers left left_now reading.Failed log log_now out out_now
HasServed workers left left_now log log_now out out_now serving.Broken = IsServedInPart workers left left_now log log_now out out_now
HasServed workers left left_now log log_now out out_now serving.OutOfMemory = IsServedInPart workers left left_now log log_now out out_now

-- whether all that was posted was served
abbrev pub is_served : ServeEnd → Bool
is_served serving.AtEnd = true
is_served (serving.Fault line fault) = true
is_served serving.Failed = true
is_served serving.Broken = false
is_served serving.OutOfMemory = false

-- whether it was, and the source did not fail
abbrev pub is_read : ServeEnd → Bool
is_read serving.AtEnd = true
is_read (serving.Fault line fault) = true
is_read serving.Failed = false
is_read serving.Broken = false
is_read serving.OutOfMemory = false

-- how a service ends where all was served that was read until reading ended so
abbrev pub ends_by : ReadEnd → ServeEnd
ends_by reading.AtEnd = serving.AtEnd
ends_by (reading.Fault line fault) = serving.Fault line fault
ends_by reading.Failed = serving.Failed
ends_by reading.Broken = serving.OutOfMemory
ends_by reading.OutOfMemory = serving.OutOfMemory

-- how it ends where the hall was brought to its end so
abbrev pub ends_so : ReadEnd → Finished → ServeEnd
ends_so end finished.Whole = ends_by end
ends_so end finished.Broken = serving.Broken
ends_so end finished.OutOfMemory = serving.OutOfMemory
