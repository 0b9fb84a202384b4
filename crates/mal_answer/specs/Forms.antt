-- The commands of the program, as they stand on its command line: one table, of which the command line that clap takes,
-- the line of usage and what words ask for are made.
use Rattle.std.specs.Prelude.{ℕ, Bool, true, false, ◌&&◌, nat_le, List, [], ◌∷◌, codes, decimal, bytes_eq, if◌then◌else◌, Option, Some, None, option_map, option_and_then}
use Rattle.std.specs.Str.Parse.{digits_value}
use Rattle.mal_base.specs.Limits.{limits}
use Rattle.clap.specs.Walk.{Row, Text, first_of}
use Rattle.mal_answer.specs.declared.words.request.Request.{Request}
use Rattle.mal_answer.specs.declared.words.request.Request.TheVariants.{Run, Check, Replay, Generate, RunGenerated, Json, Cluster, Max, Core, Serve}

-- an option `--name VALUE`: the letter that stands for its value, and whether it has to be given
pub record Opt : Type 0 where
  pub name : Text
  pub value : Text
  pub required : Bool

-- a command: its name, its options, and what it asks for with these given, if their numbers are in their ranges
pub record Form : Type 0 where
  pub name : Text
  pub options : List Opt
  pub asks : List Row → Option Request

-- the number from `least` to `most` that a word is in decimal digits, without a sign and without a leading zero
abbrev pub number_if : ℕ → ℕ → Text → ℕ → Option ℕ
number_if least most word n = if bytes_eq word (decimal n) && (nat_le least n && nat_le n most) then Some n else None

abbrev pub number_by : ℕ → ℕ → Text → Option ℕ
number_by least most word = number_if least most word (digits_value 10 word)

-- the number that the value of an option is
abbrev pub number_in : ℕ → ℕ → Option Text → Option ℕ
number_in least most word = option_and_then (number_by least most) word

abbrev pub run_form : Form
run_form = record {
  name = codes "run";
  options = record { name = codes "workers"; value = codes "N"; required = true } ∷ [];
  asks = λ rows. option_map (λ workers. Run workers) (number_in 1 64 (first_of (codes "workers") rows));
}

abbrev pub check_form : Form
check_form = record { name = codes "check"; options = []; asks = λ rows. Some Check }

abbrev pub replay_form : Form
replay_form = record { name = codes "replay"; options = []; asks = λ rows. Some Replay }

-- the script of a seed with so many jobs, to be written, or with workers to be run
abbrev pub generate_of : Option ℕ → Option ℕ → Option Text → Option Request
generate_of (Some seed) (Some jobs) None = Some (Generate seed jobs)
generate_of (Some seed) (Some jobs) (Some word) = option_map (λ workers. RunGenerated seed jobs workers) (number_by 1 64 word)
generate_of seed jobs workers = None

abbrev pub gen_form : Form
gen_form = record {
  name = codes "gen";
  options = record { name = codes "seed"; value = codes "S"; required = true }
      ∷ record { name = codes "jobs"; value = codes "N"; required = true }
      ∷ record { name = codes "workers"; value = codes "W"; required = false }
      ∷ [];
  asks = λ rows. generate_of
      (number_in 0 2147483647 (first_of (codes "seed") rows)) (number_in 1 256 (first_of (codes "jobs") rows)) (first_of (codes "workers") rows);
}

abbrev pub json_form : Form
json_form = record { name = codes "json"; options = []; asks = λ rows. Some Json }

-- so many halls of so many workers, in which jobs move after each so many slices, where all are given
abbrev pub cluster_of : Option ℕ → Option ℕ → Option ℕ → Option Request
cluster_of (Some halls) (Some workers) (Some every) = Some (Cluster halls workers every)
cluster_of halls workers every = None

abbrev pub cluster_form : Form
cluster_form = record {
  name = codes "cluster";
  options = record { name = codes "halls"; value = codes "H"; required = true }
      ∷ record { name = codes "workers"; value = codes "N"; required = true }
      ∷ record { name = codes "every"; value = codes "K"; required = true }
      ∷ [];
  asks = λ rows. cluster_of
      (number_in 2 8 (first_of (codes "halls") rows)) (number_in 1 64 (first_of (codes "workers") rows)) (number_in 1 1000 (first_of (codes "every") rows));
}

-- the value of the option `slices`
abbrev pub slices_in : List Row → Option ℕ
slices_in rows = number_in 1 limits.slices (first_of (codes "slices") rows)

abbrev pub max_form : Form
max_form = record {
  name = codes "max";
  options = record { name = codes "slices"; value = codes "N"; required = true } ∷ [];
  asks = λ rows. option_map (λ slices. Max slices) (slices_in rows);
}

abbrev pub core_form : Form
core_form = record {
  name = codes "core";
  options = record { name = codes "slices"; value = codes "N"; required = true } ∷ [];
  asks = λ rows. option_map (λ slices. Core slices) (slices_in rows);
}

abbrev pub serve_form : Form
serve_form = record {
  name = codes "serve";
  options = record { name = codes "workers"; value = codes "N"; required = true } ∷ [];
  asks = λ rows. option_map (λ workers. Serve workers) (number_in 1 64 (first_of (codes "workers") rows));
}

-- the commands, in the order in which the line of usage lists them
abbrev pub forms : List Form
forms = run_form ∷ check_form ∷ replay_form ∷ gen_form ∷ json_form ∷ cluster_form ∷ max_form ∷ core_form ∷ serve_form ∷ []
