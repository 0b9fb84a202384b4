use Rattle.std.specs.Prelude.{ℕ, eqb, if◌then◌else◌, Option, Some, None}

-- a number that no watch has
abbrev pub nowhere : ℕ
nowhere = 4294967295

-- the watch of a link's code, if there is one
abbrev pub watch_of : ℕ → Option ℕ
watch_of code = if eqb code nowhere then None else Some code

-- the code of a link to a watch, if there is one
abbrev pub code_of : Option ℕ → ℕ
code_of None = nowhere
code_of (Some watch) = watch
