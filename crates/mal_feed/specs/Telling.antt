-- The lines that tell why a text is no feed.
use Rattle.std.specs.Prelude.{◌≡◌, ℕ, List}
use Rattle.spec_feed.specs.FaultLines.{fault_line}
use Rattle.mal_feed.specs.declared.fault.FeedError.{FeedError}
use Rattle.mal_feed.specs.declared.fault.FeedError.TheVariants as error

-- the text is the line that tells the fault
abbrev pub Tells : FeedError → List ℕ → Type 0
Tells (error.Line n fault) text = text ≡ fault_line n fault
Tells error.OutOfMemory text = ⊥
