-- What a conflict changes.
use Rattle.std.specs.Prelude.{ℕ, ◌-◌, Bool, true, ◌||◌, ◌&&◌, ◌==◌, nat_le, List, length, map, get_or, if◌then◌else◌}
use Rattle.std.specs.List.{list_any}
use Rattle.spec_node.specs.State.{Node}
use Rattle.spec_node.specs.Load.{counted}
use Rattle.spec_learn.specs.Analysis.{Analysed, has_var}
use Rattle.spec_learn.specs.Learning.{derived_id, analysis, learned}
use Rattle.spec_activity.specs.Activity.{plus, grown}
use Rattle.spec_activity.specs.Pace.{after_conflict}
use Rattle.spec_guided.specs.State.{Mark, Guide, Guided, unordered, with_mark}
use Rattle.spec_guided.specs.Glue.{glue, lits_of}
use Rattle.spec_guided.specs.Resolved.{resolved, met}

-- a clause of at most this glue is kept for good
abbrev pub low_glue : ℕ
low_glue = 2

-- clauses of fewer literals are not reduced
abbrev pub long_clause : ℕ
long_clause = 3

-- a clause is worth keeping where it has three literals or more, and a low glue
abbrev pub is_worth : Node → ℕ → Bool
is_worth n id = let lits = lits_of n.clauses id in nat_le long_clause (length lits) && nat_le (glue n.trail lits) low_glue

-- a mark after a conflict was resolved with its clause
abbrev pub after_use : Node → ℕ → Mark → Mark
after_use n gain m = record m { kept = m.kept || is_worth n m.id; activity = plus m.activity gain }

-- marks after a conflict
abbrev pub used : ℕ → Node → ℕ → List Mark → List Mark
used id n gain marks = map (λ m. if list_any (λ r. r == m.id) (resolved id n) then after_use n gain m else m) marks

-- scores after a conflict: each variable that is met gains
abbrev pub scored : ℕ → Node → ℕ → List ℕ → List ℕ
scored id n gain scores = map (λ v. let s = get_or scores (v - 1) 0 in if has_var (met id n) v then plus s gain else s) (counted 1 n.variables)

-- what a variable gains grows by a 19th with each conflict, and what a clause gains by a 999th
abbrev pub grown_gain : ℕ → ℕ
grown_gain gain = grown gain 19

abbrev pub grown_clause_gain : ℕ → ℕ
grown_clause_gain gain = grown gain 999

-- the mark of a clause that is learned with this glue
abbrev pub learned_mark : ℕ → ℕ → ℕ → Mark
learned_mark id g gain = record { id = id; kept = nat_le g low_glue; activity = gain }

-- a guide after a conflict of which this clause is learned
abbrev pub guide_after : ℕ → Analysed → Node → Guide → Guide
guide_after id a n s =
    let g = glue n.trail a.lits in
    record {
      scores = scored id n s.gain s.scores;
      gain = grown_gain s.gain;
      marks = with_mark (learned_mark (derived_id n) g s.clause_gain) (used id n s.clause_gain s.marks);
      clause_gain = grown_clause_gain s.clause_gain;
      pace = after_conflict g s.pace;
    }

-- a guided node after learning from a conflict above level 0
abbrev pub learned_guided : ℕ → Guided → Guided
learned_guided id s = record { node = unordered (learned id s.node); guide = guide_after id (analysis id s.node) s.node s.guide }

-- the mark of a clause that is kept for good from the first
abbrev pub kept_mark : ℕ → Mark
kept_mark id = record { id = id; kept = true; activity = 0 }

-- a guide with the mark of the next clause of a node, which is kept for good
abbrev pub keeping_next : Node → Guide → Guide
keeping_next n g = record g { marks = with_mark (kept_mark (derived_id n)) g.marks }
