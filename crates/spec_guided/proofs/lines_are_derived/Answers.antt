use Rattle.spec_guided.proofs.LineLemmas.{line-derived}
use Rattle.spec_guided.proofs.SlicedLemmas.{lines-derived, held-of_lines, lines-stay_within}
use Rattle.spec_guided.proofs.lines_are_derived.Goals as goal

pub returns : goal.returns
returns c = record { line = line-derived; lines = lines-derived; held = held-of_lines; within = lines-stay_within }
