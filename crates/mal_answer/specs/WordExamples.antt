-- What words ask for.
use Rattle.std.specs.Prelude.{[], ◌∷◌, codes}
use Rattle.mal_answer.specs.Requests.{Means, MeansNothing}
use Rattle.mal_answer.specs.declared.words.request.Request.TheVariants.{Run, Check, Replay, Generate, RunGenerated, Json, Cluster, Max, Core, Serve}

-- worked examples
pub record HasExamples : Type 0 where
  pub run : Means (codes "mal" ∷ codes "run" ∷ codes "--workers" ∷ codes "4" ∷ []) (Run 4)
  pub attached : Means (codes "mal" ∷ codes "run" ∷ codes "--workers=64" ∷ codes "--" ∷ []) (Run 64)
  pub check : Means (codes "mal" ∷ codes "check" ∷ []) Check
  pub replay : Means (codes "mal" ∷ codes "replay" ∷ []) Replay
  pub gen : Means (codes "mal" ∷ codes "gen" ∷ codes "--jobs" ∷ codes "4" ∷ codes "--seed" ∷ codes "0" ∷ []) (Generate 0 4)
  pub gen_run : Means (codes "mal" ∷ codes "gen" ∷ codes "--seed=1" ∷ codes "--workers" ∷ codes "2" ∷ codes "--jobs=4" ∷ []) (RunGenerated 1 4 2)
  pub json : Means (codes "mal" ∷ codes "json" ∷ []) Json
  pub cluster : Means (codes "mal" ∷ codes "cluster" ∷ codes "--every=1000" ∷ codes "--halls" ∷ codes "2" ∷ codes "--workers=1" ∷ []) (Cluster 2 1 1000)
  pub max : Means (codes "mal" ∷ codes "max" ∷ codes "--slices" ∷ codes "4096" ∷ []) (Max 4096)
  pub core : Means (codes "mal" ∷ codes "core" ∷ codes "--slices=1" ∷ []) (Core 1)
  pub serve : Means (codes "mal" ∷ codes "serve" ∷ codes "--workers" ∷ codes "2" ∷ []) (Serve 2)
  pub no_words : MeansNothing []
  pub nothing : MeansNothing (codes "mal" ∷ [])
  pub unknown : MeansNothing (codes "mal" ∷ codes "fly" ∷ [])
  pub no_slices : MeansNothing (codes "mal" ∷ codes "max" ∷ [])
  pub other_option : MeansNothing (codes "mal" ∷ codes "core" ∷ codes "--workers=1" ∷ [])
  pub repeated : MeansNothing (codes "mal" ∷ codes "run" ∷ codes "--workers=1" ∷ codes "--workers=1" ∷ [])
  pub abbreviated : MeansNothing (codes "mal" ∷ codes "run" ∷ codes "--work" ∷ codes "1" ∷ [])
  pub help : MeansNothing (codes "mal" ∷ codes "help" ∷ [])
  pub help_flag : MeansNothing (codes "mal" ∷ codes "check" ∷ codes "--help" ∷ [])
  pub short_help : MeansNothing (codes "mal" ∷ codes "-h" ∷ [])
  pub version : MeansNothing (codes "mal" ∷ codes "--version" ∷ [])
