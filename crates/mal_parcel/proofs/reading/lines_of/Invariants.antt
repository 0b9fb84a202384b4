use Rattle.std.proofs.Common.{◌≡◌, length}
use Rattle.mal_parcel.specs.Told.{lines_in}
use Rattle.mal_parcel.proofs.ReadLemmas.{and_said}
use Rattle.mal_parcel.proofs.reading.lines_of.Given as goal

abbrev pub invariant-loop-line : goal.invariant-loop-line
invariant-loop-line l = and_said l.lines.lines l.rest ≡ lines_in l.text

abbrev pub decreases-loop-line : goal.decreases-loop-line
decreases-loop-line l = length l.rest
