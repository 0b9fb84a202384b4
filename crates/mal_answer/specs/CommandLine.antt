-- The program's command line, as clap takes it: a subcommand a command, its options, and nothing else.
use Rattle.std.specs.Prelude.{Bool, true, List, [], ◌∷◌, codes, Option, Some}
use Rattle.clap.specs.Faults.{fault_of}
use Rattle.clap.specs.Kinds.{Kinds}
use Rattle.clap.specs.Simple.{App, new_app, new_rule, on_top, with_rule, with_subcommand, subcommand_of}
use Rattle.clap.specs.Walk.{Row, Rule, Text}
use Rattle.mal_answer.specs.Forms.{Form, Opt, cluster_form, forms, gen_form}

-- an option `--name` that takes one value, at most once
abbrev pub option_rule : Text → Bool → Rule
option_rule name required = record (new_rule name) { long = Some name; required = required }

-- a command without arguments, and without a help flag
abbrev pub bare_app : Text → App
bare_app name = on_top (λ s. record s { disable_help_flag = true }) (new_app name)

-- a command with options
abbrev pub with_options : App → List Opt → App
with_options app [] = app
with_options app (o ∷ os) = with_options (with_rule app (option_rule o.name o.required)) os

abbrev pub app_of_form : Form → App
app_of_form f = with_options (bare_app f.name) f.options

-- a command with one option, which has to be given
abbrev pub app_with : Text → Text → App
app_with name option = with_rule (bare_app name) (option_rule option true)

abbrev pub gen_app : App
gen_app = app_of_form gen_form

abbrev pub cluster_app : App
cluster_app = app_of_form cluster_form

-- the program itself: one of its subcommands has to follow, and `help` is none
abbrev pub bare_mal : App
bare_mal = on_top (λ s. record s { disable_help_subcommand = true; subcommand_required = true }) (bare_app (codes "mal"))

-- a program with commands
abbrev pub with_forms : App → List Form → App
with_forms app [] = app
with_forms app (f ∷ fs) = with_forms (with_subcommand app (app_of_form f).top) fs

abbrev pub mal_app : App
mal_app = with_forms bare_mal forms

-- why clap refuses the words: nothing where it takes them
unfoldable pub refusals : List Text → Kinds
refusals words = fault_of mal_app words

-- the subcommand that the words name, with what was given for its options
unfoldable pub subcommand : List Text → Option (Text × List Row)
subcommand words = subcommand_of mal_app words
