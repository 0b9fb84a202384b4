use Rattle.std.specs.Prelude.{ℕ, Bool, if◌then◌else◌, List, Option, Some, None}

-- the clause of these literals, or a tautology
abbrev pub merged : Bool → List ℕ → Option (List ℕ)
merged is_clause lits = if is_clause then Some lits else None
