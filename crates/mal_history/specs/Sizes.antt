-- How many workers a hall has, and how many nodes a tree.
use Rattle.std.specs.Prelude.{ℕ}

-- a hall has 1 to so many workers
abbrev pub most_workers : ℕ
most_workers = 64

-- the nodes of a tree are numbered from 0 to this one
abbrev pub last_node : ℕ
last_node = 63
