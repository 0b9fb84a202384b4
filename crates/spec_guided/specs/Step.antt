use Rattle.std.specs.Prelude.{ℕ, ◌-◌, Bool, true, false, ◌==◌, nat_le, length, get_or, Option, Some, None, if◌then◌else◌}
use Rattle.mal_base.specs.Literals.{literal}
use Rattle.mal_base.specs.NumberedClause.{Line}
use Rattle.mal_base.specs.declared.trail_entry.TrailEntry.{TrailEntry}
use Rattle.mal_base.specs.declared.verdict.Verdict.TheVariants.{Satisfiable}
use Rattle.spec_node.specs.State.{Node}
use Rattle.spec_node.specs.Value.{level_of, next_assumption}
use Rattle.spec_node.specs.Batch.{propagated}
use Rattle.spec_learn.specs.Learning.{line_of}
use Rattle.spec_learn.specs.Refuting.{emptied, core_line, cored}
use Rattle.spec_search.specs.Step.{decided, is_false_some}
use Rattle.spec_activity.specs.Pace.{is_restart_due}
use Rattle.spec_guided.specs.State.{Guided}
use Rattle.spec_guided.specs.Learning.{learned_guided, keeping_next}
use Rattle.spec_guided.specs.Unit.{next_unit, unit_line, united}
use Rattle.spec_guided.specs.Reducing.{is_reduction_due, reduced}
use Rattle.spec_guided.specs.Deciding.{first_free, restarted}

-- what the next step does
pub data Case : Type 0 where
  Learns : ℕ → Case
  Refutes : ℕ → Case
  Propagates : Case
  Unites : TrailEntry → Case
  Reduces : Case
  Restarts : ℕ → Case
  Contradicts : ℕ → Case
  Assumes : ℕ → Case
  Decides : ℕ → Case
  Ends : Case

-- a conflict is learned from above level 0; at level 0 it refutes the clauses
abbrev pub conflicting : Node → ℕ → Case
conflicting n id = if level_of n.trail == 0 then Refutes id else Learns id

-- where the assumptions are true, a free variable is decided, or the search ends
abbrev pub deciding : Option ℕ → Case
deciding None = Ends
deciding (Some v) = Decides v

-- an assumption that is false is contradicted, else it is assumed
abbrev pub assuming : Option ℕ → Bool → Case → Case
assuming None contradicted others = others
assuming (Some a) true others = Contradicts a
assuming (Some a) false others = Assumes a

-- the case where neither a reduction nor a restart is due
abbrev pub branching : Guided → Case
branching s = let a = next_assumption s.node.trail s.node.assumptions in assuming a (is_false_some s.node.trail a) (deciding (first_free s))

-- a restart comes where it is due and a variable is free
abbrev pub restarting : Bool → Option ℕ → Case → Case
restarting true (Some v) others = Restarts v
restarting due next others = others

-- the case where each literal of level 0 has a unit clause
abbrev pub maintaining : Guided → Case
maintaining s = if is_reduction_due s then Reduces else restarting (is_restart_due s.guide.pace) (first_free s) (branching s)

-- a literal of level 0 is derived as a unit clause where one is left
abbrev pub uniting : Option TrailEntry → Case → Case
uniting None others = others
uniting (Some e) others = Unites e

-- the first case that applies: a conflict waits, a batch is left, a unit clause is left, a reduction is due, a restart is
-- due, an assumption is not true, a variable is free, or the search ends
abbrev pub case_by : Option ℕ → Guided → Case
case_by (Some id) s = conflicting s.node id
case_by None s = if nat_le s.node.processed (length s.node.trail) then Propagates else uniting (next_unit s.node) (maintaining s)

abbrev pub case_of : Guided → Case
case_of s = case_by s.node.conflict s

-- the phase of a variable
abbrev pub phase_of : Node → ℕ → Bool
phase_of n v = get_or n.phases (v - 1) false

-- a guided node with another node
abbrev pub with_node : Node → Guided → Guided
with_node n s = record { node = n; guide = s.guide }

-- a guided node with a node that holds the goal of its verdict
abbrev pub concluded : Node → Guided → Guided
concluded n s = record { node = n; guide = keeping_next s.node s.guide }

-- a guided node after each case
abbrev pub after_case : Case → Guided → Guided
after_case (Learns id) s = learned_guided id s
after_case (Refutes id) s = concluded (emptied id s.node) s
after_case Propagates s = with_node (propagated s.node) s
after_case (Unites e) s = united e s
after_case Reduces s = reduced s
after_case (Restarts v) s = restarted v s
after_case (Contradicts a) s = concluded (cored a s.node) s
after_case (Assumes a) s = with_node (decided s.node a) s
after_case (Decides v) s = with_node (decided s.node (literal v (phase_of s.node v))) s
after_case Ends s = with_node (record s.node { verdict = Some Satisfiable }) s

-- a solver step
abbrev pub step : Guided → Guided
step s = after_case (case_of s) s

-- the line that a case derives
abbrev pub line_by : Case → Guided → Option Line
line_by (Learns id) s = Some (line_of id s.node)
line_by (Refutes id) s = Some (line_of id s.node)
line_by Propagates s = None
line_by (Unites e) s = Some (unit_line s.node e)
line_by Reduces s = None
line_by (Restarts v) s = None
line_by (Contradicts a) s = Some (core_line a s.node)
line_by (Assumes a) s = None
line_by (Decides v) s = None
line_by Ends s = None

-- the line that the next step derives, if it derives one
abbrev pub next_line : Guided → Option Line
next_line s = line_by (case_of s) s
