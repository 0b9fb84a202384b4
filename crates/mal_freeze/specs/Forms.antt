-- The form of a profile's images.
use Rattle.std.specs.Prelude.{ℕ, true, false, ◌==◌, if◌then◌else◌, codes, Option, Some, None}
use Rattle.std.specs.Int.{w64, from_be_bytes}
use Rattle.mal_base.specs.declared.profile.Profile.{Profile}
use Rattle.mal_base.specs.declared.profile.Profile.TheVariants.{Plain, Lean}
use Rattle.mal_freeze.specs.declared.form.Form.{Form}

-- the first 8 bytes, as one number, and whether the conflicts since the last dropping stand in the image
abbrev pub form_of : Profile → Form
form_of Plain = record { magic = from_be_bytes w64 (codes "MALNODE1"); counts = false }
form_of Lean = record { magic = from_be_bytes w64 (codes "MALNODE2"); counts = true }

-- the profile whose images begin with this number
abbrev pub profile_named : ℕ → Option Profile
profile_named n = if n == (form_of Plain).magic then Some Plain else if n == (form_of Lean).magic then Some Lean else None
