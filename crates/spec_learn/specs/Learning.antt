use Rattle.std.specs.Prelude.{ℕ, ◌+◌, ◌*◌, ◌^◌, if◌then◌else◌, List, [], ◌∷◌, ◌++◌, length, reverse, Option, Some, None, option_map}
use Rattle.mal_base.specs.declared.profile.Profile.{Profile}
use Rattle.mal_base.specs.Profiles.{policy, counted}
use Rattle.mal_base.specs.NumberedClause.{NumberedClause, Line, lits_under}
use Rattle.mal_base.specs.declared.trail_entry.TrailEntry.{TrailEntry}
use Rattle.spec_logic.specs.Derivation.{Holding}
use Rattle.spec_node.specs.State.{Node}
use Rattle.spec_node.specs.Value.{left_literal, level_of}
use Rattle.spec_node.specs.Cut.{cut}
use Rattle.spec_node.specs.Adding.{with_clause}
use Rattle.spec_learn.specs.Analysis.{Analysed, analysed, vars_in}
use Rattle.spec_learn.specs.Shorter.{shortened}
use Rattle.spec_learn.specs.Order.{moved_all}

-- the clauses held, as derived lines are checked against them; none of them is a tautology
abbrev pub holding : List NumberedClause → Holding
holding clauses id = option_map (λ (lits : List ℕ). Some lits) (lits_under id clauses)

-- the number of the next clause that a node derives
abbrev pub derived_id : Node → ℕ
derived_id n = 2 ^ 32 + n.serial * 64 + n.index

-- the clause that a profile learns from a conflict: that of the first implication point, in its shorter form where it
-- minimizes
unfoldable pub analysed_in : Profile → List NumberedClause → List TrailEntry → ℕ → Analysed
analysed_in profile clauses past id = if (policy profile).minimizes then shortened clauses past id else analysed clauses past id

-- the analysis of a conflict of a node
abbrev pub analysis : ℕ → Node → Analysed
analysis id n = analysed_in n.profile n.clauses (reverse n.trail) id

-- the conflicts learned since the last dropping, after one more: a profile that reduces nothing counts none
abbrev pub counted_in : Profile → ℕ → ℕ
counted_in profile count = counted (policy profile).reduction count

-- the line that a node derives from a conflict
abbrev pub line_of : ℕ → Node → Line
line_of id n = let a = analysis id n in record { id = derived_id n; lits = a.lits; hints = a.hints }

-- the literal that is left of a clause is pushed with the clause as its reason
abbrev pub forced_by : ℕ → List TrailEntry → Option ℕ → List TrailEntry
forced_by id trail None = trail
forced_by id trail (Some l) = trail ++ record { lit = l; reason = Some id; level = level_of trail } ∷ []

-- a node after learning a clause: it goes back to the greatest level of the clause's other literals, holds the clause
-- and pushes its remaining literal, and moves the clause's variables to the front by rising variable
abbrev pub taught : Analysed → Node → Node
taught a n =
    let c = cut a.level n in
    record c {
      clauses = with_clause (record { id = derived_id n; lits = a.lits }) n.clauses;
      trail = forced_by (derived_id n) c.trail (left_literal c.trail a.lits);
      processed = length c.trail + 1;
      order = moved_all (vars_in a.lits) n.order;
      serial = n.serial + 1;
      conflicts_since_restart = n.conflicts_since_restart + 1;
      conflicts_since_dropping = counted_in n.profile n.conflicts_since_dropping;
      conflict = None;
    }

-- a node after learning from a conflict above level 0: it is taught what the analysis gives
abbrev pub learned : ℕ → Node → Node
learned id n = taught (analysis id n) n
