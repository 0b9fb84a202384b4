-- What a line is derived from.
use Rattle.std.specs.Prelude.{◌≡◌, Some}
use Rattle.mal_base.specs.NumberedClause.{Line}
use Rattle.spec_node.specs.State.{Node}
use Rattle.spec_learn.specs.Analysis.{Analysed}
use Rattle.spec_learn.specs.Learning.{analysis, derived_id}
use Rattle.spec_learn.specs.Refuting.{core_analysis}
use Rattle.spec_search.specs.Step.{case_of}
use Rattle.spec_search.specs.Step.Case.{Contradicts}
use Rattle.mal_cdcl.specs.declared.source.Source.{Source}
use Rattle.mal_cdcl.specs.declared.source.Source.TheVariants.{Conflict, Failed}

-- a conflict waits, or the next step finds that an assumption is contradicted
abbrev pub IsSource : Source → Node → Type 0
IsSource (Conflict id) n = n.conflict ≡ Some id
IsSource (Failed a) n = case_of n ≡ Contradicts a

abbrev pub analysis_from : Source → Node → Analysed
analysis_from (Conflict id) n = analysis id n
analysis_from (Failed a) n = core_analysis a n

abbrev pub line_from : Source → Node → Line
line_from s n = let a = analysis_from s n in record { id = derived_id n; lits = a.lits; hints = a.hints }
