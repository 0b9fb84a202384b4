use Rattle.std.specs.Prelude.{ℕ, ◌≤◌, Bool, ◌==◌, List, map, All}

-- a flag is set where its stamp is the current one
abbrev pub flags_at : ℕ → List ℕ → List Bool
flags_at stamp stamps = map (λ s. s == stamp) stamps

-- the current stamp is not 0, and none is greater
pub record AreStamped (stamp : ℕ) (stamps : List ℕ) : Type 0 where
  pub some : 1 ≤ stamp
  pub below : All (λ s. s ≤ stamp) stamps
