use Rattle.std.proofs.Common.{◌≡◌, List, [], ◌∷◌, refl, arith, sym, ◌∙◌}
use Rattle.std.specs.Fmt.{digits}
use Rattle.std.specs.Prelude.{Option, Some, None}
use Rattle.clap.proofs.OnLiterals.{clap_on_literals}
use Rattle.clap.specs.Words.{Kinds, Row, Text}
use Rattle.clap.specs.declared.error.kind.ErrorKind.{ErrorKind}
use Rattle.mal_answer.specs.CommandLine.{refusals, subcommand}
use Rattle.mal_answer.specs.Requests.{Asks, Means, MeansNothing}
use Rattle.mal_answer.specs.declared.words.request.Request.{Request}
use Rattle.mal_answer.specs.declared.words.request.Request.TheVariants.{Run, Check, Replay, Generate, RunGenerated, Json, Cluster, Max, Core, Serve}
use Rattle.mal_answer.proofs.words.laws.word_examples.Goals as goal

abbrev the : Option (Text × List Row) → Text × List Row
the None = ([], [])
the (Some found) = found

by : (words : List Text) (r : Request) → refusals words ≡ [] → subcommand words ≡ Some (the (subcommand words)) → Asks (the (subcommand words)).0 (the (subcommand words)).1 r → Means words r
by words r taken named asks = record { name = (the (subcommand words)).0; rows = (the (subcommand words)).1; taken = taken; named = named; asks = asks }

differ : (k : ErrorKind) (ks : Kinds) → ◌≡◌ {A = Kinds} (k ∷ ks) [] → ⊥
differ k ks e = cc

refused : (words : List Text) (k : ErrorKind) (ks : Kinds) → refusals words ≡ k ∷ ks → MeansNothing words
refused words k ks e = λ r m. differ k ks (sym e ∙ m.taken)

pub returns : goal.returns
unfolding refusals subcommand clap_on_literals digits
returns c = record {
  run = by _ (Run 4) refl refl (refl, (omega arith, omega arith, refl));
  attached = by _ (Run 64) refl refl (refl, (omega arith, omega arith, refl));
  check = by _ Check refl refl refl;
  replay = by _ Replay refl refl refl;
  json = by _ Json refl refl refl;
  cluster = by _ (Cluster 2 1 1000) refl refl (refl, (omega arith, omega arith, refl), (omega arith, omega arith, refl), (omega arith, omega arith, refl));
  max = by _ (Max 4096) refl refl (refl, (omega arith, omega arith, refl));
  core = by _ (Core 1) refl refl (refl, (omega arith, omega arith, refl));
  serve = by _ (Serve 2) refl refl (refl, (omega arith, omega arith, refl));
  gen = by _ (Generate 0 4) refl refl (refl, refl, (omega arith, omega arith, refl), (omega arith, omega arith, refl));
  gen_run = by _ (RunGenerated 1 4 2) refl refl (refl, (omega arith, omega arith, refl), (omega arith, omega arith, refl), (omega arith, omega arith, refl));
  no_words = refused _ _ _ refl;
  nothing = refused _ _ _ refl;
  unknown = refused _ _ _ refl;
  no_slices = refused _ _ _ refl;
  other_option = refused _ _ _ refl;
  repeated = refused _ _ _ refl;
  abbreviated = refused _ _ _ refl;
  help = refused _ _ _ refl;
  help_flag = refused _ _ _ refl;
  short_help = refused _ _ _ refl;
  version = refused _ _ _ refl;
}
