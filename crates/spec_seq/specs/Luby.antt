use Rattle.std.specs.Prelude.{ℕ, zero, suc, ◌+◌, ◌-◌, ◌^◌, ◌==◌, nat_lt, if◌then◌else◌}

-- the sequence 1, 1, 2, 1, 1, 2, 4, .. of Luby, Sinclair and Zuckerman, for places below 2^k
abbrev pub luby_below : ℕ → ℕ → ℕ
luby_below zero i = 1
luby_below (suc k) i = if i + 1 == 2 ^ suc k then 2 ^ k else luby_below k (if nat_lt i (2 ^ k) then i else i + 1 - 2 ^ k)

-- Luby's number at a place from 1 on
unfoldable pub luby : ℕ → ℕ
luby i = luby_below 64 i
