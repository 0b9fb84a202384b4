use Rattle.std.specs.Prelude.{◌≡◌, ℕ, Option, Some, None, MatchOption, Vec}
use Rattle.std.specs.Option.{option_map}
use Rattle.std.specs.declared.alloc.Global.{Global}
use Rattle.mal_report.specs.declared.told.Told.{Told}
use Rattle.mal_report.specs.Told.{body_of}
use Rattle.spec_job.specs.KeyedJob.{Key}
use Rattle.spec_job.specs.Replies.{reply}
use Rattle.spec_job.specs.Replies as replies
use Rattle.spec_job.specs.SoloMachine.{SoloMachine}

-- what is told of a revision is what a machine's reply to it tells, and nothing exactly where there is none
abbrev pub Tells : ℕ → Option Told → SoloMachine → Type 0
Tells r told s = option_map body_of told ≡ replies.body_of r s

-- what is told of a revision is a machine's reply to it: its text, and nothing exactly where there is none
abbrev pub TellsReply : Key → ℕ → Option (Vec ℕ Global) → SoloMachine → Type 0
TellsReply k r text s = MatchOption text (reply k r s ≡ None) (λ t. reply k r s ≡ Some t.items)
