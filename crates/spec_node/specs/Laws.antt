use Rattle.std.specs.Prelude.{◌≡◌, ◌≢◌, ℕ, ◌+◌, ◌≤◌, ◌<◌, ◌^◌, Bool, true, false, ◌&&◌, nat_le, nat_lt, All, Contains, List, [], ◌∷◌, ◌++◌, length, take, map, filter, Option, Some, None}
use Rattle.std.specs.List.{list_all, list_any}
use Rattle.std.specs.Option.{option_map_or}
use Rattle.mal_base.specs.Literals.{var_of}
use Rattle.mal_base.specs.declared.verdict.Verdict.TheVariants.{Satisfiable}
use Rattle.mal_base.specs.declared.profile.Profile.{Profile}
use Rattle.mal_base.specs.Profiles.{policy}
use Rattle.mal_revision.specs.Posted.{Posted, is_posted}
use Rattle.spec_logic.specs.Logic.{satisfies, is_true_in}
use Rattle.mal_base.specs.NumberedClause.{NumberedClause}
use Rattle.spec_node.specs.State.{Node, fresh_with}
use Rattle.spec_node.specs.Value.{is_true}
use Rattle.spec_node.specs.Batch.{batch}
use Rattle.spec_node.specs.Load.{loaded, numbered, is_derived}
use Rattle.spec_node.specs.Import.{taken, with_new, imported}
use Rattle.spec_node.specs.Model.{model_of}
use Rattle.spec_node.specs.Sound.{AreLiteralsOf, IsConsistent, IsSound}

-- the clauses that a node holds, as a formula
abbrev pub formula_of : List NumberedClause → List (Option (List ℕ))
formula_of clauses = map (λ c. Some c.lits) clauses

-- the original clauses among those held
abbrev pub originals : List NumberedClause → List NumberedClause
originals clauses = filter (λ c. nat_lt c.id (2 ^ 32)) clauses

-- an assignment satisfies the clauses and every assumption is true in it
pub record IsModel (assignment : List Bool) (clauses : List NumberedClause) (assumptions : List ℕ) : Type 0 where
  pub satisfied : satisfies assignment (formula_of clauses) ≡ true
  pub assumed : list_all (is_true_in assignment) assumptions ≡ true

-- a satisfiable node's trail is a model of its clauses and assumptions
abbrev pub HasModel : Node → Type 0
HasModel n = n.verdict ≡ Some Satisfiable → IsModel (model_of n) n.clauses n.assumptions

-- each literal has a variable from 1 on
abbrev pub has_variables : List ℕ → Bool
has_variables lits = list_all (λ l. nat_le 1 (var_of l)) lits

-- each literal of a revision has a variable from 1 on, as every literal of the code has
abbrev pub has_literals : Posted → Bool
has_literals r = list_all (λ c. option_map_or has_variables c true) r.clauses && has_variables r.assumptions

-- the numbers of a revision's clauses, from this one on, lie above those of the originals held and below 2^32
pub record AreNewNumbers (r : Posted) (first : ℕ) (n : Node) : Type 0 where
  pub some : 1 ≤ first
  pub above : All (λ c. c.id < 2 ^ 32 → c.id < first) n.clauses
  pub below : first + length r.clauses ≤ 2 ^ 32

-- a node is sound at its first start, under each profile
abbrev pub FreshIsSound : Type 0
FreshIsSound = (i : ℕ) (profile : Profile) → i ≤ 63 → IsSound (fresh_with i profile)

-- loading a posted revision under new numbers keeps a node sound
abbrev pub LoadKeepsSound : Type 0
LoadKeepsSound = (r : Posted) (first : ℕ) (n : Node) → is_posted r ≡ true → has_literals r ≡ true → AreNewNumbers r first n → IsSound n → IsSound (loaded r first n)

-- the search of a node is consistent from its first start on
abbrev pub FreshIsConsistent : Type 0
FreshIsConsistent = (i : ℕ) (profile : Profile) → IsConsistent (fresh_with i profile)

-- loading a posted revision keeps the search consistent
abbrev pub LoadKeepsConsistent : Type 0
LoadKeepsConsistent = (r : Posted) (first : ℕ) (n : Node) → is_posted r ≡ true → has_literals r ≡ true → IsConsistent n → IsConsistent (loaded r first n)

-- what loading a revision leaves in a node: its clauses after the originals held, and its assumptions, no verdict, the
-- index and the profile
pub record LoadHolds : Type 0 where
  pub originals : (r : Posted) (first : ℕ) (n : Node) → first + length r.clauses ≤ 2 ^ 32 → originals (loaded r first n).clauses ≡ originals n.clauses ++ numbered first r.clauses
  pub assumptions : (r : Posted) (first : ℕ) (n : Node) → (loaded r first n).assumptions ≡ r.assumptions
  pub verdict : (r : Posted) (first : ℕ) (n : Node) → (loaded r first n).verdict ≡ None
  pub index : (r : Posted) (first : ℕ) (n : Node) → (loaded r first n).index ≡ n.index
  pub profile : (r : Posted) (first : ℕ) (n : Node) → (loaded r first n).profile ≡ n.profile

-- numbered clauses mean what the clauses mean, and clauses after others mean both
pub record NumbersMeanSame : Type 0 where
  pub by_number : (a : List Bool) (first : ℕ) (cs : List (Option (List ℕ))) → satisfies a (formula_of (numbered first cs)) ≡ satisfies a cs
  pub joined : (a : List Bool) (xs ys : List NumberedClause) → satisfies a (formula_of (xs ++ ys)) ≡ (satisfies a (formula_of xs) && satisfies a (formula_of ys))

-- where the originals of a node are the clauses of the revisions so far, numbered from 1, the next revision's numbers
-- are new, and after its load the originals are the clauses of all
pub record HoldsAll (r : Posted) (clauses : List (Option (List ℕ))) (n : Node) : Type 0 where
  pub new : AreNewNumbers r (1 + length clauses) n
  pub held : originals (loaded r (1 + length clauses) n).clauses ≡ numbered 1 (clauses ++ r.clauses)

-- revisions loaded one after another are held as one list of numbered clauses, where the numbers suffice
abbrev pub LoadsHoldAll : Type 0
LoadsHoldAll = (r : Posted) (clauses : List (Option (List ℕ))) (n : Node) → originals n.clauses ≡ numbered 1 clauses → 1 + length (clauses ++ r.clauses) ≤ 2 ^ 32 → HoldsAll r clauses n

-- no two of the clauses have one number
abbrev pub HaveOwnNumbers : List NumberedClause → Type 0
HaveOwnNumbers [] = Unit {0}
HaveOwnNumbers (c ∷ cs) = All (λ d. c.id ≢ d.id) cs × HaveOwnNumbers cs

-- a node may import clauses: they are derived ones of its variables, no two have one number, and one whose number
-- is held has the literals that are held under it
pub record MayImport (exported : List NumberedClause) (n : Node) : Type 0 where
  pub derived : All (λ c. is_derived c ≡ true) exported
  pub within : All (λ c. AreLiteralsOf n.variables c.lits) exported
  pub apart : HaveOwnNumbers exported
  pub agree : (c d : NumberedClause) → Contains exported c → Contains n.clauses d → c.id ≡ d.id → c.lits ≡ d.lits

-- importing clauses that it may import keeps a node sound
abbrev pub ImportKeepsSound : Type 0
ImportKeepsSound = (exported : List NumberedClause) (n : Node) → MayImport exported n → IsSound n → IsSound (imported exported n)

-- what importing leaves in a node: its originals, its assumptions, its variables, its verdict, its index and its
-- profile; and what it holds, it held before or imported
pub record ImportHolds : Type 0 where
  pub originals : (exported : List NumberedClause) (n : Node) → All (λ c. is_derived c ≡ true) exported → originals (imported exported n).clauses ≡ originals n.clauses
  pub assumptions : (exported : List NumberedClause) (n : Node) → (imported exported n).assumptions ≡ n.assumptions
  pub variables : (exported : List NumberedClause) (n : Node) → (imported exported n).variables ≡ n.variables
  pub verdict : (exported : List NumberedClause) (n : Node) → (imported exported n).verdict ≡ n.verdict
  pub index : (exported : List NumberedClause) (n : Node) → (imported exported n).index ≡ n.index
  pub profile : (exported : List NumberedClause) (n : Node) → (imported exported n).profile ≡ n.profile
  pub held : (exported : List NumberedClause) (n : Node) (c : NumberedClause) → Contains (imported exported n).clauses c → Contains (n.clauses ++ exported) c
  pub kept : (exported : List NumberedClause) (n : Node) (c : NumberedClause) → Contains n.clauses c → Contains (imported exported n).clauses c

-- where the profile skips empty imports, an import that takes no clause leaves a node as it is; any other import cuts
-- it, and under the other profiles each import does, whether it takes clauses or not
pub record ImportMayLeave : Type 0 where
  pub left : (exported : List NumberedClause) (n : Node) → (policy n.profile).skips_empty_imports ≡ true → taken exported n.clauses ≡ [] → imported exported n ≡ n
  pub takes : (exported : List NumberedClause) (n : Node) → taken exported n.clauses ≢ [] → imported exported n ≡ with_new (taken exported n.clauses) n
  pub other : (exported : List NumberedClause) (n : Node) → (policy n.profile).skips_empty_imports ≡ false → imported exported n ≡ with_new (taken exported n.clauses) n

-- in a sound node without a waiting conflict each clause of a batch that was handled has a true literal
abbrev pub HandledAreTrue : Type 0
HandledAreTrue = (n : Node) → IsSound n → n.conflict ≡ None → (q : ℕ) → q < n.processed → list_all (λ c. list_any (is_true n.trail) c.lits) (batch (take q n.trail) n.clauses) ≡ true
