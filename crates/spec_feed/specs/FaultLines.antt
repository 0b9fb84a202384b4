-- The lines that tell a fault of a feed.
use Rattle.std.specs.Prelude.{ℕ, List, [], ◌∷◌, codes}
use Rattle.spec_script.specs.FaultLines.{fault_words, part_line}
use Rattle.spec_feed.specs.declared.fault.FeedFault.{FeedFault}
use Rattle.spec_feed.specs.declared.fault.FeedFault.TheVariants as feed

-- the words of a fault
abbrev pub feed_words : FeedFault → List (List ℕ)
feed_words (feed.Line fault) = fault_words fault
feed_words feed.TooLong = codes "TooLong" ∷ []

-- the line that tells a fault of this line of a feed
abbrev pub fault_line : ℕ → FeedFault → List ℕ
fault_line n fault = part_line (codes "feed") n (feed_words fault)
