use Rattle.std.specs.Prelude.{ℕ, List, map, Option}
use Rattle.mal_watch.specs.declared.watch_lists.Watch.{Watch}

-- the links of watches, and their literals
abbrev pub links_of : List Watch → List (Option ℕ)
links_of watches = map (λ n. n.next) watches

abbrev pub keys_of : List Watch → List ℕ
keys_of watches = map (λ n. n.key) watches
