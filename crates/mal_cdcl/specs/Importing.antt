use Rattle.std.specs.Prelude.{◌≡◌, ◌≢◌, ℕ, ◌≤◌, Bool, false, bytes_eq, All, List, [], ◌∷◌, map, Option, if◌then◌else◌}
use Rattle.std.specs.Borrow.{Bor}
use Rattle.std.specs.List.{list_any}
use Rattle.std.specs.Option.{option_map_or}
use Rattle.mal_base.specs.NumberedClause.{NumberedClause}
use Rattle.mal_revision.specs.Posted.{Posted}
use Rattle.mal_filter.specs.Noted.{is_noted}
use Rattle.spec_node.specs.State.{Node}
use Rattle.spec_node.specs.Import.{has_lits, taken, with_clauses, with_new, is_left_off, imported}
use Rattle.spec_node.specs.Sound.{AreLiteralsOf}
use Rattle.spec_node.specs.Laws.{HaveOwnNumbers, MayImport}

-- lists as they are lent
abbrev pub lent : List (Bor (List NumberedClause)) → List (List NumberedClause)
lent imports = map (λ b. b.now) imports

-- a node after importing these lists one after another
abbrev pub all_imported : List (List NumberedClause) → Node → Node
all_imported [] n = n
all_imported (exported ∷ more) n = all_imported more (imported exported n)

-- list by list the node may import them
abbrev pub MayImportAll : List (List NumberedClause) → Node → Type 0
MayImportAll [] n = Unit {0}
MayImportAll (exported ∷ more) n = MayImport exported n × MayImportAll more (imported exported n)

-- what a node that holds these clauses takes of each list
abbrev pub picked : List (List NumberedClause) → List NumberedClause → List (List NumberedClause)
picked [] clauses = []
picked (exported ∷ more) clauses = taken exported clauses ∷ picked more (with_clauses (taken exported clauses) clauses)

-- a filter has seen the clauses of these literals that are held
abbrev pub Sees : List (List ℕ) → List NumberedClause → Type 0
Sees seen clauses = (lits : List ℕ) → is_noted lits seen ≡ has_lits lits clauses

-- whether an entry of the lists has these literals
abbrev pub is_exported_in : List ℕ → List (List NumberedClause) → Bool
is_exported_in lits exports = list_any (has_lits lits) exports

-- whether a clause of a revision has these literals
abbrev pub is_posted_in : List ℕ → List (Option (List ℕ)) → Bool
is_posted_in lits clauses = list_any (λ c. option_map_or (bytes_eq lits) c false) clauses

-- whether a clause of the loads has them
abbrev pub is_loaded_in : List ℕ → List (Posted × ℕ) → Bool
is_loaded_in lits loads = list_any (λ l. is_posted_in lits l.0.clauses) loads

-- a node with the clauses that it takes of a list: where its profile skips empty imports, a list of none changes
-- nothing
abbrev pub with_pick : List NumberedClause → Node → Node
with_pick new n = if is_left_off n.profile new then n else with_new new n

-- a node with the clauses that it takes of lists one after another
abbrev pub with_picks : List (List NumberedClause) → Node → Node
with_picks [] n = n
with_picks (new ∷ more) n = with_picks more (with_pick new n)

-- clauses of some variables under numbers from 1 that differ and that others do not have
pub record AreNewTo (clauses : List NumberedClause) (variables : ℕ) (new : List NumberedClause) : Type 0 where
  pub some : All (λ c. 1 ≤ c.id) new
  pub within : All (λ c. AreLiteralsOf variables c.lits) new
  pub own : HaveOwnNumbers new
  pub apart : All (λ c. All (λ d. c.id ≢ d.id) clauses) new

-- list by list the clauses are new to the node
abbrev pub AreAllNew : List (List NumberedClause) → Node → Type 0
AreAllNew [] n = Unit {0}
AreAllNew (new ∷ more) n = AreNewTo n.clauses n.variables new × AreAllNew more (with_pick new n)
