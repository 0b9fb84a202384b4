-- What stands at the front of bytes, and what is after it; none where it does not stand there.
use Rattle.std.specs.Prelude.{◌≡◌, ℕ, zero, suc, ◌==◌, Bool, List, [], ◌∷◌, take, drop, length, codes, bytes_eq, Option, Some, None, option_map, option_and_then, nat_lt, if◌then◌else◌}
use Rattle.std.specs.Int.{w64, from_be_bytes}

-- what was taken, in this view, is this
abbrev pub Takes : {X Y : Type 0} → (X → Y) → Option X → Option Y → Type 0
Takes view taken found = option_map view taken ≡ found

-- the number of 8 bytes
abbrev pub number_at : List ℕ → Option (ℕ × List ℕ)
number_at bytes = if nat_lt (length bytes) 8 then None else Some (from_be_bytes w64 (take 8 bytes), drop 8 bytes)

abbrev pub behind_number : List ℕ → Option (List ℕ)
behind_number bytes = option_map (λ n. n.1) (number_at bytes)

-- so many bytes
abbrev pub front_at : ℕ → List ℕ → Option (List ℕ × List ℕ)
front_at n bytes = if nat_lt (length bytes) n then None else Some (take n bytes, drop n bytes)

-- bytes after their length
abbrev pub sized_at : List ℕ → Option (List ℕ × List ℕ)
sized_at bytes = option_and_then (λ n. front_at n.0 n.1) (number_at bytes)

abbrev pub behind_sized : List ℕ → Option (List ℕ)
behind_sized bytes = option_map (λ t. t.1) (sized_at bytes)

-- whether a slice ends a revision, by its first byte
abbrev pub ends_at : List ℕ → Option (Bool × List ℕ)
ends_at [] = None
ends_at (byte ∷ bytes) = Some (byte == 1, bytes)

-- a slice: whether it ends a revision, and after the number of its lines their text
abbrev pub told_at : List ℕ → Option (Bool × (List ℕ × List ℕ))
told_at bytes = option_and_then (λ e. option_map (λ t. (e.0, t)) (option_and_then sized_at (behind_number e.1))) (ends_at bytes)

abbrev pub behind_slice : List ℕ → Option (List ℕ)
behind_slice bytes = option_map (λ t. t.1.1) (told_at bytes)

-- a node: its index and its image
abbrev pub placed_at : List ℕ → Option (ℕ × (List ℕ × List ℕ))
placed_at bytes = option_and_then (λ n. option_map (λ t. (n.0, t)) (sized_at n.1)) (number_at bytes)

abbrev pub behind_node : List ℕ → Option (List ℕ)
behind_node bytes = option_map (λ p. p.1.1) (placed_at bytes)

-- what is after so many, each of which is passed so
abbrev pub behind_each : (List ℕ → Option (List ℕ)) → ℕ → List ℕ → Option (List ℕ)
behind_each pass zero bytes = Some bytes
behind_each pass (suc n) bytes = option_and_then (behind_each pass n) (pass bytes)

-- what is after the magic word, and then after the script and the own events
abbrev pub behind_magic : List ℕ → Option (List ℕ)
behind_magic bytes = if bytes_eq (take 8 bytes) (codes "MALPACK1") then Some (drop 8 bytes) else None

abbrev pub behind_texts : List ℕ → Option (List ℕ)
behind_texts bytes = option_and_then behind_sized (option_and_then behind_sized (behind_magic bytes))

-- the bytes from the first slice on, and those from the first answer on
abbrev pub slices_at : List ℕ → Option (List ℕ × List ℕ)
slices_at bytes = option_and_then (λ n. option_map (λ answers. (n.1, answers)) (option_and_then behind_number (behind_each behind_slice n.0 n.1))) (number_at bytes)

-- how many nodes there are and the bytes from the first of them on, those from the first slice on, and those from the
-- first answer on
abbrev pub machine_at : List ℕ → Option (ℕ × (List ℕ × (List ℕ × List ℕ)))
machine_at bytes = option_and_then (λ n. option_map (λ s. (n.0, (n.1, s))) (option_and_then slices_at (behind_each behind_node n.0 n.1))) (number_at bytes)

-- the same of the bytes of a parcel
abbrev pub machine_in : List ℕ → Option (ℕ × (List ℕ × (List ℕ × List ℕ)))
machine_in bytes = option_and_then machine_at (behind_texts bytes)
