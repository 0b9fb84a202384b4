use Rattle.std.specs.Prelude.{ℕ, List, ◌++◌, length, fold, replicate, false}
use Rattle.mal_revision.specs.Posted.{Posted}
use Rattle.mal_base.specs.NumberedClause.{NumberedClause}
use Rattle.spec_node.specs.Load.{loaded, added}
use Rattle.spec_node.specs.Import.{taken, imported}
use Rattle.spec_node.specs.Laws.{originals}
use Rattle.spec_activity.specs.Pace.{after_load}
use Rattle.spec_guided.specs.State.{Mark, Guide, Guided, unordered, with_mark}

-- a guide after a load that adds so many variables, after which so many original clauses are held
abbrev pub guide_loaded : ℕ → ℕ → Guide → Guide
guide_loaded more held s = record s { scores = s.scores ++ replicate more 0; pace = after_load held s.pace }

-- a guided node after loading a revision whose first clause has this number
abbrev pub loaded_guided : Posted → ℕ → Guided → Guided
loaded_guided r first s =
    let n = unordered (loaded r first s.node) in
    record { node = n; guide = guide_loaded (added r s.node) (length (originals n.clauses)) s.guide }

-- the mark of a clause that others derived
abbrev pub imported_mark : ℕ → NumberedClause → Mark
imported_mark gain c = record { id = c.id; kept = false; activity = gain }

-- a guide with the marks of clauses that are taken
abbrev pub guide_with : List NumberedClause → Guide → Guide
guide_with new s = record s { marks = fold (λ ms c. with_mark (imported_mark s.clause_gain c) ms) s.marks new }

-- a guided node after importing what others exported
abbrev pub imported_guided : List NumberedClause → Guided → Guided
imported_guided exported s = record { node = imported exported s.node; guide = guide_with (taken exported s.node.clauses) s.guide }
