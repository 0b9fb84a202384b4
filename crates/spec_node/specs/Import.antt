use Rattle.std.specs.Prelude.{ℕ, ◌+◌, max, Bool, not, ◌&&◌, ◌==◌, bytes_eq, List, length, filter, fold, None, if◌then◌else◌}
use Rattle.std.specs.List.{list_any}
use Rattle.mal_base.specs.declared.profile.Profile.{Profile}
use Rattle.mal_base.specs.Profiles.{policy}
use Rattle.mal_base.specs.NumberedClause.{NumberedClause}
use Rattle.spec_node.specs.State.{Node}
use Rattle.spec_node.specs.Cut.{cut}
use Rattle.spec_node.specs.Adding.{with_clause}
use Rattle.spec_node.specs.Sound.{serial_of}

-- whether a clause with these literals is held
abbrev pub has_lits : List ℕ → List NumberedClause → Bool
has_lits lits clauses = list_any (λ c. bytes_eq lits c.lits) clauses

-- of what others exported, the clauses whose literals no clause held has
abbrev pub taken : List NumberedClause → List NumberedClause → List NumberedClause
taken exported clauses = filter (λ c. not (has_lits c.lits clauses)) exported

-- clauses with these among them, each at its place
abbrev pub with_clauses : List NumberedClause → List NumberedClause → List NumberedClause
with_clauses new clauses = fold (λ cs c. with_clause c cs) clauses new

-- the least serial above these and that of each of the clauses
abbrev pub serial_above : ℕ → List NumberedClause → ℕ
serial_above serial new = fold (λ s c. max s (serial_of c + 1)) serial new

-- a node cut to level 0 that gets these clauses under their numbers, the serial above theirs, and nothing handled
abbrev pub with_new : List NumberedClause → Node → Node
with_new new n =
    let c = cut 0 n in
    record c {
      clauses = with_clauses new c.clauses;
      serial = serial_above c.serial new;
      processed = 0;
      conflict = None;
    }

-- whether a node leaves off an import that takes no clause: where its profile skips such imports it does, elsewhere it
-- is cut all the same
abbrev pub is_left_off : Profile → List NumberedClause → Bool
is_left_off profile new = (policy profile).skips_empty_imports && (length new == 0)

-- a node after importing what others exported: with the clauses that are taken
abbrev pub imported : List NumberedClause → Node → Node
imported exported n = let new = taken exported n.clauses in if is_left_off n.profile new then n else with_new new n
