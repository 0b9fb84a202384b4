use Rattle.std.specs.Prelude.{◌≡◌, ℕ, ◌+◌, ◌*◌, ◌^◌, true, false, [], ◌∷◌, None}
use Rattle.mal_base.specs.declared.profile.Profile.{Profile}
use Rattle.mal_base.specs.declared.profile.Profile.TheVariants.{Plain, Lean}
use Rattle.mal_base.specs.NumberedClause.{NumberedClause}
use Rattle.spec_node.specs.State.{Node, fresh_with}
use Rattle.spec_node.specs.Import.{serial_above, imported}

-- the derived clause of this serial of the node of this index
abbrev derived : ℕ → ℕ → NumberedClause
derived serial index = record { id = 2 ^ 32 + 64 * serial + index; lits = [] }

-- the clause 1 2, and the same and 1 -2 as node 3 may tell them
abbrev pub held : NumberedClause
held = record { id = 1; lits = 2 ∷ 4 ∷ [] }

abbrev pub exported_again : NumberedClause
exported_again = record { id = 4294967299; lits = 2 ∷ 4 ∷ [] }

abbrev pub exported_new : NumberedClause
exported_new = record { id = 4294967363; lits = 2 ∷ 5 ∷ [] }

-- a node of this profile that holds 1 2 and has decided -1 for true phases
abbrev pub searching : Profile → Node
searching profile = record (fresh_with 0 profile) { variables = 2; processed = 1; order = 1 ∷ 2 ∷ []; phases = true ∷ true ∷ []; trail = record { lit = 3; reason = None; level = 1 } ∷ []; clauses = held ∷ [] }

-- worked examples of imports: node 0 that has derived nothing and imports the second clause of node 3 derives its own
-- clause of serial 2 next; where it imports only a held clause, a node of profile 1 goes back to level 0 with the phase
-- of what it had decided, and one of profile 2 stays as it is; what is new is taken under either
pub record HasExamples : Type 0 where
  pub exported : (derived 1 3).id ≡ 4294967363
  pub serial : serial_above 0 (derived 1 3 ∷ []) ≡ 2
  pub next : (derived 2 0).id ≡ 4294967424
  pub cut : imported (exported_again ∷ []) (searching Plain) ≡ record (searching Plain) { processed = 0; phases = false ∷ true ∷ []; trail = [] }
  pub left : imported (exported_again ∷ []) (searching Lean) ≡ searching Lean
  pub took : imported (exported_again ∷ exported_new ∷ []) (searching Lean) ≡ record (searching Lean) { serial = 2; processed = 0; phases = false ∷ true ∷ []; trail = []; clauses = held ∷ exported_new ∷ [] }
