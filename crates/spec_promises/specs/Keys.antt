-- The keys of objects in JSON: what the tests of a description mean in words.
use Rattle.std.specs.Prelude.{◌≡◌, ◌↔◌, ℕ, ◌&&◌, true, List, [], ◌∷◌, ◌++◌, codes, bytes_eq, Some}
use Rattle.std.specs.List.{IsDistinct, list_any}
use Rattle.std.specs.Option.{option_map_or}
use Rattle.serde_json.specs.Data.{Data, null, boolean, number, string, array, object, Items, no_items, item, Members, no_members, member}
use Rattle.serde_json.specs.Find.{as_object}
use Rattle.spec_json.specs.Shape.{has, has_ask_shape, is_document_shape, is_job_shape, is_list, is_list_of, is_name_text, is_numbers, is_revision_shape, is_step_shape, is_weight_shape, is_whole, json_in}

-- the keys of an object, in their order; other values have none
abbrev pub keys_of : Members → List (List ℕ)
keys_of no_members = []
keys_of (member k d ms) = k ∷ keys_of ms

abbrev pub keys_in : Data → List (List ℕ)
keys_in d = option_map_or keys_of (as_object d) []

-- a key is among these
abbrev pub IsAmong : List ℕ → List (List ℕ) → Type 0
IsAmong key keys = list_any (bytes_eq key) keys ≡ true

-- each object in a value has each of its keys once
abbrev mutual
  pub IsKeyed : Data → Type 0
  IsKeyed null = Unit {0}
  IsKeyed (boolean b) = Unit {0}
  IsKeyed (number n) = Unit {0}
  IsKeyed (string s) = Unit {0}
  IsKeyed (array ds) = AreKeyed ds
  IsKeyed (object ms) = IsDistinct bytes_eq (keys_of ms) × HoldKeyed ms

  pub AreKeyed : Items → Type 0
  AreKeyed no_items = Unit {0}
  AreKeyed (item d ds) = IsKeyed d × AreKeyed ds

  pub HoldKeyed : Members → Type 0
  HoldKeyed no_members = Unit {0}
  HoldKeyed (member k d ms) = IsKeyed d × HoldKeyed ms

-- so it is in a value that a text is: of a repeated key the last value stands
abbrev pub ReadIsKeyed : Type 0
ReadIsKeyed = (text : List ℕ) (d : Data) → json_in text ≡ Some d → IsKeyed d

-- a value has each of the keys that it must have, and no others but these and those that it may have
pub record HasKeys (must may : List (List ℕ)) (d : Data) : Type 0 where
  pub each : (key : List ℕ) → IsAmong key must → IsAmong key (keys_in d)
  pub only : (key : List ℕ) → IsAmong key (keys_in d) → IsAmong key (must ++ may)

-- the keys of a job but its profile
abbrev pub job_keys : List (List ℕ)
job_keys = codes "tenant" ∷ codes "name" ∷ codes "priority" ∷ codes "demand" ∷ codes "slices" ∷ codes "steps" ∷ []

-- the shapes in words, of a value whose objects have each key once
pub record ShapesHaveKeys (d : Data) : Type 0 where
  pub document : (is_document_shape d ≡ true) ↔ (HasKeys (codes "jobs" ∷ []) [] d × (has is_list (codes "jobs") d ≡ true))
  pub job : (is_job_shape d ≡ true) ↔ (HasKeys job_keys (codes "profile" ∷ []) d × (((has_ask_shape d && has (is_list_of is_step_shape) (codes "steps") d) && (has is_name_text (codes "tenant") d && has is_name_text (codes "name") d)) ≡ true))
  pub weight : (is_weight_shape d ≡ true) ↔ (HasKeys (codes "priority" ∷ codes "demand" ∷ []) [] d × ((has is_whole (codes "priority") d && has is_whole (codes "demand") d) ≡ true))
  pub revision : (is_revision_shape d ≡ true) ↔ (HasKeys (codes "variables" ∷ codes "clauses" ∷ codes "assumptions" ∷ []) [] d × ((has is_whole (codes "variables") d && (has (is_list_of is_numbers) (codes "clauses") d && has is_numbers (codes "assumptions") d)) ≡ true))

abbrev pub KeysAreTested : Type 0
KeysAreTested = (d : Data) → IsKeyed d → ShapesHaveKeys d
