-- What the values of a description have to look like.
use Rattle.std.specs.Prelude.{ℕ, ◌==◌, ◌&&◌, ◌||◌, Bool, true, false, ℤ, pos, List, [], ◌∷◌, map, codes, if◌then◌else◌, Option, None, is_some, option_and_then, unwrap_or}
use Rattle.std.specs.List.{list_all}
use Rattle.std.specs.Option.{option_map_or}
use Rattle.std.specs.Str.{is_utf8}
use Rattle.mal_base.specs.Names.{is_name}
use Rattle.serde_json.specs.Data.{Data, null, Items, no_items, item}
use Rattle.serde_json.specs.Events.{members_len}
use Rattle.serde_json.specs.Find.{as_array, as_i64, as_number, as_object, as_str, get}
use Rattle.serde_json.specs.Read.{read}

-- the value that a text is: the text is UTF-8, and serde_json reads it
unfoldable pub json_in : List ℕ → Option Data
json_in text = if is_utf8 text then read text else None

-- ---- the parts of a value, whatever its shape

-- the value under a key, null where there is none
abbrev pub at : List ℕ → Data → Data
at key d = unwrap_or (get key d) null

-- the values of a list
abbrev pub list_of : Items → List Data
list_of no_items = []
list_of (item d ds) = d ∷ list_of ds

-- the same of a value that may be no list
abbrev pub items_in : Data → List Data
items_in d = option_map_or list_of (as_array d) []

-- how many keys an object has
abbrev pub key_count : Data → ℕ
key_count d = option_map_or members_len (as_object d) 0

-- the bytes of a text
abbrev pub text_in : Data → List ℕ
text_in d = unwrap_or (as_str d) []

-- a whole number within 64 signed bits
abbrev pub whole : Data → Option ℤ
whole d = option_and_then as_i64 (as_number d)

-- the same of a value that may be another, for which this stands
abbrev pub whole_or : ℤ → Data → ℤ
whole_or z d = unwrap_or (whole d) z

abbrev pub whole_in : Data → ℤ
whole_in d = whole_or (pos 0) d

-- the whole numbers of a list
abbrev pub numbers_in : Data → List ℤ
numbers_in d = map whole_in (items_in d)

-- ---- the shapes. A key stands once in a value that was read, and of a repeated key the last value, so a value has these
-- keys and no others where it has each of them and no more keys in number

abbrev pub is_whole : Data → Bool
is_whole d = is_some (whole d)

abbrev pub is_name_text : Data → Bool
is_name_text d = option_map_or is_name (as_str d) false

abbrev pub is_list : Data → Bool
is_list d = is_some (as_array d)

-- a list, each value of which passes a test
abbrev pub is_list_of : (Data → Bool) → Data → Bool
is_list_of test d = is_list d && list_all test (items_in d)

-- a list of whole numbers
abbrev pub is_numbers : Data → Bool
is_numbers d = is_list_of is_whole d

-- a value under this key passes a test
abbrev pub has : (Data → Bool) → List ℕ → Data → Bool
has test key d = option_map_or test (get key d) false

-- the same, or there is no such key
abbrev pub may_have : (Data → Bool) → List ℕ → Data → Bool
may_have test key d = option_map_or test (get key d) true

-- a step that has one of both shapes has that of a revision, which has three keys
abbrev pub is_revision : Data → Bool
is_revision d = key_count d == 3

-- exactly variables, clauses and assumptions
abbrev pub is_revision_shape : Data → Bool
is_revision_shape d = is_revision d && (has is_whole (codes "variables") d && (has (is_list_of is_numbers) (codes "clauses") d && has is_numbers (codes "assumptions") d))

-- exactly priority and demand
abbrev pub is_weight_shape : Data → Bool
is_weight_shape d = (key_count d == 2) && (has is_whole (codes "priority") d && has is_whole (codes "demand") d)

abbrev pub is_step_shape : Data → Bool
is_step_shape d = is_revision_shape d || is_weight_shape d

-- priority, demand and slices, and if wanted profile
abbrev pub has_ask_shape : Data → Bool
has_ask_shape d = (has is_whole (codes "priority") d && has is_whole (codes "demand") d) && (has is_whole (codes "slices") d && may_have is_whole (codes "profile") d)

-- as many keys as a job has, and those that are no names
abbrev pub has_job_frame : Data → Bool
has_job_frame d = (key_count d == (if is_some (get (codes "profile") d) then 7 else 6)) && (has_ask_shape d && has (is_list_of is_step_shape) (codes "steps") d)

-- exactly tenant, name, priority, demand, slices and steps, and if wanted profile
abbrev pub is_job_shape : Data → Bool
is_job_shape d = has_job_frame d && (has is_name_text (codes "tenant") d && has is_name_text (codes "name") d)

-- exactly jobs, a list
abbrev pub is_document_shape : Data → Bool
is_document_shape d = (key_count d == 1) && has is_list (codes "jobs") d

-- the jobs of a document
abbrev pub jobs_in : Data → List Data
jobs_in d = items_in (at (codes "jobs") d)

-- the steps of a job
abbrev pub steps_in : Data → List Data
steps_in d = items_in (at (codes "steps") d)
