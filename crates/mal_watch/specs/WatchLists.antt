use Rattle.std.specs.Prelude.{◌≡◌, ◌≢◌, ℕ, zero, suc, ◌<◌, ◌≤◌, All, true, eqb, List, [], ◌∷◌, ◌++◌, length, slice_index, slice_index_or, Option, Some, None, option_to_list}
use Rattle.std.specs.List.{list_any}
use Rattle.mal_watch.specs.Links.{nowhere}

-- watches in lists: each watch's literal, the watches that are out of the lists, how many lists there are, and how many
-- watches more there is room for
pub record ListedWatches : Type 0 where
  pub keys : List ℕ
  pub out : List ℕ
  pub count : ℕ
  pub room : ℕ

-- a number stands in a list
abbrev pub Has : List ℕ → ℕ → Type 0
Has xs k = list_any (eqb k) xs ≡ true

-- no number stands twice
abbrev pub AreOnce : List ℕ → Type 0
AreOnce [] = Unit {0}
AreOnce (k ∷ ks) = (Has ks k → ⊥) × AreOnce ks

-- a watch of this literal
abbrev pub IsAt : List ℕ → ℕ → ℕ → Type 0
IsAt keys k key = (k < length keys) × (slice_index keys k ≡ key)

-- the watch at a place of a list of links, if there is one
abbrev pub link_at : List (Option ℕ) → ℕ → Option ℕ
link_at links k = slice_index_or links k None

-- the watches from one on along the links, so many at most
abbrev pub list_from : List (Option ℕ) → ℕ → Option ℕ → List ℕ
list_from links zero from = []
list_from links (suc n) None = []
list_from links (suc n) (Some k) = k ∷ list_from links n (link_at links k)

-- these are the watches from one on along the links
abbrev pub IsList : List (Option ℕ) → Option ℕ → List ℕ → Type 0
IsList links from [] = from ≡ None
IsList links from (k ∷ ks) = (from ≡ Some k) × (k < length links) × IsList links (link_at links k) ks

-- there are lists, linked from their heads on, of which each has watches of its literal alone, and each once; each
-- watch is in the list of its literal
pub record AreLinked (heads links : List (Option ℕ)) (keys : List ℕ) : Type 0 where
  pub lists : ℕ → List ℕ
  pub linked : (key : ℕ) → IsList links (link_at heads key) (lists key)
  pub home : (key k : ℕ) → Has (lists key) k → slice_index keys k ≡ key
  pub each : (k : ℕ) → k < length links → Has (lists (slice_index keys k)) k
  pub once : (key : ℕ) → AreOnce (lists key)
  pub long : length keys ≡ length links

-- the watches that are out, from one on along the links, are the rest of the list with this head, where there are any;
-- before them stand those that stayed, of which this one is the last, if there is one
pub record IsWalk (links : List (Option ℕ)) (head taken last : Option ℕ) : Type 0 where
  pub before : List ℕ
  pub out : IsList links taken (list_from links (length links) taken)
  pub rest : taken ≢ None → list_from links (length links) head ≡ (before ++ option_to_list last) ++ list_from links (length links) taken
  pub none : last ≡ None → before ≡ []

-- there are no more watches than numbers for them, and a list for the literal of each
pub record AreListed (lists : ℕ) (keys : List ℕ) : Type 0 where
  pub few : length keys ≤ nowhere
  pub below : All (λ key. key < lists) keys
