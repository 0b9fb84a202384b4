-- Reading a feed as it comes: what is posted, and how reading ends.
use Rattle.std.specs.Prelude.{◌≡◌, ◌⊎◌, ◌+◌, ◌≤◌, ℕ, true, not, List, [], ◌∷◌, ◌++◌, filter, fold, map, Option, Ok, Err}
use Rattle.std.specs.List.{list_all}
use Rattle.std.specs.Io.KnownBytes.{Consumes, IsAtEnd}
use Rattle.mal_base.specs.Limits.{limits}
use Rattle.mal_base.specs.declared.key.Key.{Key}
use Rattle.mal_feed.specs.Coming.{Coming, FailsOn, GoesOn, IsBy, is_inside, nothing_came}
use Rattle.mal_feed.specs.declared.fault.FeedError.{FeedError}
use Rattle.mal_feed.specs.declared.fault.FeedError.TheVariants as error
use Rattle.mal_parts.specs.declared.reading.ReadEnd.{ReadEnd}
use Rattle.mal_parts.specs.declared.reading.ReadEnd.TheVariants as stop
use Rattle.spec_feed.specs.Reading.{read_feed}
use Rattle.spec_feed.specs.declared.fault.FeedFault.{FeedFault}
use Rattle.spec_feed.specs.declared.post.FeedPost.{FeedPost}
use Rattle.spec_feed.specs.declared.post.FeedPost.TheVariants.{Opens, Takes, Closes}
use Rattle.spec_hall.specs.Own.{is_key}
use Rattle.spec_live.specs.Live.{IsFront}

-- the keys of the jobs that are open after a post
abbrev pub open_after : List Key → FeedPost → List Key
open_after keys (Opens k ask) = keys ++ k ∷ []
open_after keys (Takes k step) = keys
open_after keys (Closes k) = filter (λ o. not (is_key k o)) keys

-- the keys of the jobs that posts leave open, in the order of their opening
abbrev pub left_open : List FeedPost → List Key
left_open posts = fold open_after [] posts

-- posts, and then the closings of the jobs that they leave open
abbrev pub closed : List FeedPost → List FeedPost
closed posts = posts ++ map Closes (left_open posts)

-- a text that goes on has posted this, whatever follows, and all of it but the front of a line was read
pub record HasPosted (text : List ℕ) (posts : List FeedPost) (after : Coming) : Type 0 where
  pub goes : GoesOn nothing_came text posts after []
  pub inside : list_all is_inside after.tail ≡ true

-- of the bytes that were taken these were read, and had posted this
pub record WasPosted (taken : List ℕ) (posts : List FeedPost) : Type 0 where
  pub read : List ℕ
  pub rest : List ℕ
  pub taken_is : taken ≡ read ++ rest
  pub after : Coming
  pub posted : HasPosted read posts after

-- the first fault of the bytes that were taken, whatever follows, or of all that came where the source is at its end
abbrev pub IsFirstFault : List ℕ → Option (List ℕ) → ℕ → FeedFault → Type 0
IsFirstFault taken left line fault =
    ((more : List ℕ) → read_feed limits (taken ++ more) ≡ Err (line, fault)) ⊎ (IsAtEnd left × (read_feed limits taken ≡ Err (line, fault)))

-- the bytes that were taken have this first fault; what all lines before it posted was posted, and the open jobs closed
pub record FaultsAt (taken : List ℕ) (left : Option (List ℕ)) (posts : List FeedPost) (line : ℕ) (fault : FeedFault) : Type 0 where
  pub read : List ℕ
  pub rest : List ℕ
  pub after : Coming
  pub before : List FeedPost
  pub taken_is : taken ≡ read ++ rest
  pub posted : HasPosted read before after
  pub all : line ≤ after.lines + 1
  pub closed : posts ≡ closed before
  pub first : IsFirstFault taken left line fault

-- posting ended early: what was posted is a front of what was read and of the closings
abbrev pub EndsEarly : List ℕ → Option (List ℕ) → List FeedPost → Type 0
EndsEarly taken left posts =
    ((before : List FeedPost) × WasPosted taken before × IsFront posts (closed before))
    ⊎ (IsAtEnd left × ((all : List FeedPost) × (read_feed limits taken ≡ Ok all) × IsFront posts all))

-- reading ended so
abbrev pub EndsSo : List ℕ → Option (List ℕ) → List FeedPost → ReadEnd → Type 0
EndsSo taken left posts stop.AtEnd = IsAtEnd left × (read_feed limits taken ≡ Ok posts)
EndsSo taken left posts (stop.Fault line fault) = FaultsAt taken left posts line fault
EndsSo taken left posts stop.Failed = (before : List FeedPost) × (after : Coming) × HasPosted taken before after × (posts ≡ closed before)
EndsSo taken left posts stop.Broken = EndsEarly taken left posts
EndsSo taken left posts stop.OutOfMemory = EndsEarly taken left posts

-- bytes were taken from a source, reading ended so, and this was posted
pub record HasRead (said said_now : List FeedPost) (left left_now : Option (List ℕ)) (end : ReadEnd) : Type 0 where
  pub taken : List ℕ
  pub posts : List FeedPost
  pub consumed : Consumes left left_now taken
  pub posted : said_now ≡ said ++ posts
  pub ends : EndsSo taken left_now posts end

-- bytes that came after others were read and posted this, and these jobs are open then
pub record WentOn (before : Coming) (keys : List Key) (bytes : List ℕ) (posts : List FeedPost) (after : Coming) (keys_now : List Key) : Type 0 where
  pub goes : GoesOn before bytes posts after []
  pub inside : list_all is_inside after.tail ≡ true
  pub noted : keys_now ≡ fold open_after keys posts

-- the same up to the line of a fault, or as far as memory allowed
pub record StopsIn (before : Coming) (keys : List Key) (bytes : List ℕ) (fault : FeedError) (posts : List FeedPost) (keys_now : List Key) : Type 0 where
  pub read : List ℕ
  pub rest : List ℕ
  pub after : Coming
  pub bytes_are : bytes ≡ read ++ rest
  pub went : WentOn before keys read posts after keys_now
  pub next : IsBy (after.lines + 1) fault
  pub fails : FailsOn after rest fault

-- all bytes that were taken so far were read, what they posted was posted, and these jobs are open then
pub record HasCome (said said_now : List FeedPost) (left left_now : Option (List ℕ)) (now : Coming) (keys : List Key) : Type 0 where
  pub taken : List ℕ
  pub posts : List FeedPost
  pub consumed : Consumes left left_now taken
  pub posted : said_now ≡ said ++ posts
  pub came : HasPosted taken posts now
  pub noted : keys ≡ left_open posts

-- how reading ends by a fault of a line, or as memory ran out
abbrev pub end_by : FeedError → ReadEnd
end_by (error.Line line fault) = stop.Fault line fault
end_by error.OutOfMemory = stop.OutOfMemory

-- all of this was posted at last and reading ends as it should, or a front of it, as memory ran out
abbrev pub EndsBy : ReadEnd → ReadEnd → List FeedPost → List FeedPost → List FeedPost → Type 0
EndsBy end now said said_now posts =
    ((now ≡ end) × (said_now ≡ said ++ posts))
    ⊎ ((now ≡ stop.OutOfMemory) × ((front : List FeedPost) × IsFront front posts × (said_now ≡ said ++ front)))
