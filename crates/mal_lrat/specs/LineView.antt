-- A line without where it lies in memory.
use Rattle.mal_lrat.specs.declared.line.Line.{Line}
use Rattle.mal_lrat.specs.declared.line.Line.TheVariants as line
use Rattle.spec_logic.specs.Refutation.{ProofLine}
use Rattle.spec_logic.specs.Refutation.ProofLine.{Add, Delete}

abbrev pub seen : Line → ProofLine
seen (line.Add id clause hints) = Add id clause hints.items
seen (line.Delete ids) = Delete ids.items
