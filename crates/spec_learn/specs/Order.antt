use Rattle.std.specs.Prelude.{ℕ, ◌==◌, List, [], ◌∷◌, if◌then◌else◌}

-- a list without the first place of a variable
abbrev pub without : ℕ → List ℕ → List ℕ
without v [] = []
without v (w ∷ ws) = if w == v then ws else w ∷ without v ws

-- a variable moved to the front
abbrev pub moved : ℕ → List ℕ → List ℕ
moved v ws = v ∷ without v ws

-- variables moved to the front one after another, so that the last ends first
abbrev pub moved_all : List ℕ → List ℕ → List ℕ
moved_all [] ws = ws
moved_all (v ∷ vs) ws = moved_all vs (moved v ws)
