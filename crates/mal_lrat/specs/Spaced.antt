use Rattle.std.specs.Prelude.{ℕ, List, ◌∷◌, flat_map}

-- words, each after a space
abbrev pub spaced : List (List ℕ) → List ℕ
spaced words = flat_map (λ word. 32 ∷ word) words
