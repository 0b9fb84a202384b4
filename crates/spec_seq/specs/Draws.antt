use Rattle.std.specs.Prelude.{ℕ, zero, suc, ◌+◌, ◌*◌, ◌/◌, ◌%◌, ◌^◌, List, [], ◌∷◌}

-- the next number of the generator, that of the example in the C standard
abbrev pub next : ℕ → ℕ
next x = (x * 1103515245 + 12345) % 2 ^ 31

-- what a draw gives of the generator's number: its upper bits
abbrev pub drawn : ℕ → ℕ
drawn x = x / 65536

-- the first draws from a seed, so many
abbrev pub draws : ℕ → ℕ → List ℕ
draws zero x = []
draws (suc k) x = drawn (next x) ∷ draws k (next x)
