-- What a call of the live service has done, by the status that it answers.
use Rattle.std.specs.Prelude.{◌≡◌, ◌⊎◌, ℕ, List, [], Option, Some, None, Ok}
use Rattle.std.specs.Io.KnownBytes.{Appends}
use Rattle.mal_answer.specs.Command.{Command}
use Rattle.mal_answer.specs.Commands.{Stops, command_of}
use Rattle.mal_answer.specs.Devices.{Device, Failed, Gained}
use Rattle.mal_answer.specs.Served.{HasDone}
use Rattle.mal_answer.specs.declared.words.request.Request.{Request}
use Rattle.mal_answer.specs.declared.words.request.Request.TheVariants as request
use Rattle.mal_base.specs.Limits.{limits}
use Rattle.mal_io.specs.Moves.{GotPrefix}
use Rattle.mal_parts.specs.declared.reading.ReadEnd.{ReadEnd}
use Rattle.mal_parts.specs.declared.reading.ReadEnd.TheVariants as ends
use Rattle.mal_serve.specs.Serving as serving
use Rattle.spec_feed.specs.FaultLines.{fault_line}
use Rattle.spec_feed.specs.Reading.{read_feed}
use Rattle.spec_feed.specs.declared.fault.FeedFault.{FeedFault}
use Rattle.spec_feed.specs.declared.post.FeedPost.{FeedPost}

-- the log's bytes are these once what was posted until reading ended so was served, to its end
abbrev pub IsServed : ℕ → ReadEnd → Device → Device → Device → Option (List ℕ) → Type 0
IsServed workers end source log out logged = serving.IsServed workers source.bytes source.bytes_now end log.bytes logged out.bytes out.bytes_now

-- status 0: the input was read to its end, and is a feed; its posts were served, and all was written
abbrev pub IsServedWhole : ℕ → Device → Device → Device → Type 0
IsServedWhole workers source log out = IsServed workers ends.AtEnd source log out log.bytes_now

-- the line that tells a fault of a feed was written after these bytes of the log, as far as the log took it
pub record IsTold (line : ℕ) (fault : FeedFault) (log : Device) (logged : Option (List ℕ)) : Type 0 where
  pub prefix : (told : List ℕ) × GotPrefix logged log.bytes_now (fault_line line fault) told
  pub whole : (Failed log → ⊥) → Appends logged log.bytes_now (fault_line line fault)

-- it was written, or nothing was, since memory ran out
abbrev pub HasTold : ℕ → FeedFault → Device → ℕ → Type 0
HasTold line fault log status = ((status ≡ 3) × IsTold line fault log log.bytes) ⊎ ((status ≡ 6) × Gained log [])

-- status 3: the first fault of what was read; what was posted before it was closed and served, and the line that tells the
-- fault stands after the history
pub record IsServedToFault (workers : ℕ) (source log out : Device) : Type 0 where
  pub line : ℕ
  pub fault : FeedFault
  pub logged : Option (List ℕ)
  pub served : IsServed workers (ends.Fault line fault) source log out logged
  pub told : IsTold line fault log logged

-- status 4: the source failed; what was posted before was closed and served, and all was written
abbrev pub IsServedToFailure : ℕ → Device → Device → Device → Type 0
IsServedToFailure workers source log out = Failed source × IsServed workers ends.Failed source log out log.bytes_now

-- status 5 and 6: what was posted was served in part, and fronts of the texts were written
abbrev pub IsServedInPart : ℕ → Device → Device → Device → Type 0
IsServedInPart workers source log out = serving.IsServedInPart workers source.bytes source.bytes_now log.bytes log.bytes_now out.bytes out.bytes_now

-- the status says what was done
abbrev pub HasServedLive : ℕ → Device → Device → Device → ℕ → Type 0
HasServedLive workers source log out status =
    ((status ≡ 0) × IsServedWhole workers source log out)
    ⊎ ((status ≡ 3) × IsServedToFault workers source log out)
    ⊎ ((status ≡ 4) × IsServedToFailure workers source log out)
    ⊎ ((status ≡ 5) × (Failed log ⊎ Failed out) × IsServedInPart workers source log out)
    ⊎ ((status ≡ 6) × IsServedInPart workers source log out)

-- an input is known, and is a feed
abbrev pub IsFeed : Option (List ℕ) → Type 0
IsFeed None = ⊥
IsFeed (Some input) = (posts : List FeedPost) × (read_feed limits input ≡ Ok posts)

-- a feed is served whole where no device fails, or memory runs out
abbrev pub FeedsAreServed : Type 0
FeedsAreServed =
    (workers : ℕ) (source log out : Device) (status : ℕ)
    → HasServedLive workers source log out status → IsFeed source.bytes → (Failed source → ⊥) → (Failed log → ⊥) → (Failed out → ⊥)
    → (status ≡ 0) ⊎ (status ≡ 6)

-- the workers of a live service, where a request asks for one
abbrev pub live_workers : Request → Option ℕ
live_workers (request.Serve workers) = Some workers
live_workers other = None

-- what was done for a command, by whether it is a live service of so many workers
abbrev pub done_as : Option ℕ → Command → Device → Device → Device → ℕ → Type 0
done_as None c source log out status = HasDone c source log out status
done_as (Some workers) c source log out status = HasServedLive workers source log out status

-- what was done for a request
abbrev pub IsDoneBy : Stops → Request → Device → Device → Device → ℕ → Type 0
IsDoneBy stops r source log out status = done_as (live_workers r) (command_of stops r) source log out status
