-- What a node derives at the end of its search: the empty clause, and the core clause of a false assumption.
use Rattle.std.specs.Prelude.{ℕ, ◌+◌, List, reverse, Some}
use Rattle.mal_base.specs.NumberedClause.{Line}
use Rattle.mal_base.specs.declared.verdict.Verdict.TheVariants.{Unsatisfiable}
use Rattle.spec_node.specs.State.{Node}
use Rattle.spec_node.specs.Adding.{with_clause}
use Rattle.spec_learn.specs.Analysis.{Analysed, core}
use Rattle.spec_learn.specs.Learning.{derived_id, analysis}

-- a node that holds a derived clause, which is the goal of its verdict
abbrev pub refuted : List ℕ → Node → Node
refuted lits n = record n { clauses = with_clause (record { id = derived_id n; lits = lits }) n.clauses; serial = n.serial + 1; verdict = Some (Unsatisfiable (derived_id n)) }

-- a node after deriving the empty clause from a conflict at level 0; the conflict stays
abbrev pub emptied : ℕ → Node → Node
emptied id n = refuted (analysis id n).lits n

-- the analysis of a false assumption of a node
abbrev pub core_analysis : ℕ → Node → Analysed
core_analysis a n = core n.clauses (reverse n.trail) a

-- the line that a node derives from a false assumption
abbrev pub core_line : ℕ → Node → Line
core_line a n = let k = core_analysis a n in record { id = derived_id n; lits = k.lits; hints = k.hints }

-- a node after deriving the core clause of a false assumption
abbrev pub cored : ℕ → Node → Node
cored a n = refuted (core_analysis a n).lits n
