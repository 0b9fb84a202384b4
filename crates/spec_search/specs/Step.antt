use Rattle.std.specs.Prelude.{ℕ, ◌+◌, ◌-◌, ◌*◌, Bool, true, false, ◌==◌, nat_le, List, [], ◌∷◌, ◌++◌, length, get_or, Option, Some, None, if◌then◌else◌}
use Rattle.mal_base.specs.Literals.{literal}
use Rattle.mal_base.specs.NumberedClause.{Line}
use Rattle.mal_base.specs.declared.trail_entry.TrailEntry.{TrailEntry}
use Rattle.mal_base.specs.declared.verdict.Verdict.TheVariants.{Satisfiable}
use Rattle.spec_seq.specs.Luby.{luby}
use Rattle.spec_node.specs.State.{Node}
use Rattle.spec_node.specs.Value.{is_false, level_of, next_assumption, first_free}
use Rattle.spec_node.specs.Batch.{propagated}
use Rattle.spec_node.specs.Cut.{cut}
use Rattle.spec_learn.specs.Learning.{line_of, learned}
use Rattle.spec_learn.specs.Refuting.{emptied, core_line, cored}
use Rattle.spec_search.specs.Dropping.{is_dropping_due, dropped}

-- what the next step does
pub data Case : Type 0 where
  Learns : ℕ → Case
  Refutes : ℕ → Case
  Propagates : Case
  Drops : Case
  Restarts : Case
  Contradicts : ℕ → Case
  Assumes : ℕ → Case
  Decides : ℕ → Case
  Ends : Case

-- a conflict is learned from above level 0; at level 0 it refutes the clauses
abbrev pub conflicting : Node → ℕ → Case
conflicting n id = if level_of n.trail == 0 then Refutes id else Learns id

-- where the assumptions are true, a free variable is decided, or the search ends
abbrev pub deciding : Option ℕ → Case
deciding None = Ends
deciding (Some v) = Decides v

-- an assumption that is false is contradicted, else it is assumed
abbrev pub assuming : Option ℕ → Bool → Case → Case
assuming None contradicted others = others
assuming (Some a) true others = Contradicts a
assuming (Some a) false others = Assumes a

-- whether there is a literal and it is false
abbrev pub is_false_some : List TrailEntry → Option ℕ → Bool
is_false_some trail None = false
is_false_some trail (Some a) = is_false trail a

-- the case where no batch is left and neither a dropping nor a restart is due
abbrev pub branching : Node → Case
branching n = let a = next_assumption n.trail n.assumptions in assuming a (is_false_some n.trail a) (deciding (first_free n.trail n.order))

-- the case where no batch is left and no dropping is due
abbrev pub restarting : Node → Case
restarting n = if nat_le (64 * luby n.restart_number) n.conflicts_since_restart then Restarts else branching n

-- the first case that applies: a conflict waits, a batch is left, a dropping is due, a restart is due, an assumption is
-- not true, a variable is free, or the search ends
abbrev pub case_by : Option ℕ → Node → Case
case_by (Some id) n = conflicting n id
case_by None n = if nat_le n.processed (length n.trail) then Propagates else (if is_dropping_due n then Drops else restarting n)

abbrev pub case_of : Node → Case
case_of n = case_by n.conflict n

-- a literal decided at a new level
abbrev pub decided : Node → ℕ → Node
decided n l = record n { trail = n.trail ++ record { lit = l; reason = None; level = level_of n.trail + 1 } ∷ [] }

-- a node after each case
abbrev pub after_case : Case → Node → Node
after_case (Learns id) n = learned id n
after_case (Refutes id) n = emptied id n
after_case Propagates n = propagated n
after_case Drops n = dropped n
after_case Restarts n = record (cut 0 n) { conflicts_since_restart = 0; restart_number = n.restart_number + 1 }
after_case (Contradicts a) n = cored a n
after_case (Assumes a) n = decided n a
after_case (Decides v) n = decided n (literal v (get_or n.phases (v - 1) false))
after_case Ends n = record n { verdict = Some Satisfiable }

-- a solver step
abbrev pub step : Node → Node
step n = after_case (case_of n) n

-- the line that a case derives
abbrev pub line_by : Case → Node → Option Line
line_by (Learns id) n = Some (line_of id n)
line_by (Refutes id) n = Some (line_of id n)
line_by Propagates n = None
line_by Drops n = None
line_by Restarts n = None
line_by (Contradicts a) n = Some (core_line a n)
line_by (Assumes a) n = None
line_by (Decides v) n = None
line_by Ends n = None

-- the line that the next step derives, if it derives one
abbrev pub next_line : Node → Option Line
next_line n = line_by (case_of n) n
