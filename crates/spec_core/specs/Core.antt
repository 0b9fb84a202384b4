-- The search for a minimal core, question by question: without each of the failed assumptions in turn.
use Rattle.std.specs.Prelude.{ℕ, ◌==◌, Bool, List, [], ◌∷◌, ◌++◌, length, remove, Option, Some, None, if◌then◌else◌}
use Rattle.mal_base.specs.Formulas.{Formulated}
use Rattle.mal_base.specs.NumberedClause.{Line}
use Rattle.mal_revision.specs.Posted.{Posted}
use Rattle.spec_report.specs.Replies.{ReplyBody, Model, Proof, AllSpent, AllStarved}
use Rattle.spec_course.specs.Course.{Next, Cause, Spent, Starved}
use Rattle.spec_course.specs.Course.Next.{Asks, Ends}

-- a formula and assumptions, by rising variable
pub record Instance : Type 0 where
  pub formula : Formulated
  pub assumptions : List ℕ

-- a core so far: failed assumptions, the lines that refute the formula under them, and for each of the first of them a
-- model without it
pub record Narrowed : Type 0 where
  pub core : List ℕ
  pub lines : List Line
  pub models : List (List Bool)

-- a search ends with a core of which each literal has its model, with a model of formula and assumptions, or unknown
pub data Minimal : Type 0 where
  Core : Narrowed → Minimal
  Satisfiable : List Bool → Minimal
  Unknown : Cause → Minimal

-- the first question: the formula under all assumptions
abbrev pub opening : Instance → Posted
opening w = record { variables = w.formula.variables; clauses = w.formula.clauses; assumptions = w.assumptions }

-- the question without the first literal that has no model
abbrev pub without_next : Instance → Narrowed → Posted
without_next w c = record { variables = w.formula.variables; clauses = []; assumptions = remove c.core (length c.models) }

-- on to the first literal without a model, where there is one
abbrev pub going : Instance → Narrowed → Next (Option Narrowed) Minimal
going w c = if length c.models == length c.core then Ends (Core c) else Asks (Some c) (without_next w c)

-- after a model: the first time it satisfies all assumptions, and then the next literal stays
abbrev pub satisfied : Instance → Option Narrowed → List Bool → Next (Option Narrowed) Minimal
satisfied w None model = Ends (Satisfiable model)
satisfied w (Some c) model = going w (record { core = c.core; lines = c.lines; models = c.models ++ model ∷ [] })

-- the models so far
abbrev pub models_of : Option Narrowed → List (List Bool)
models_of None = []
models_of (Some c) = c.models

-- what follows what is told, with the core so far: failed assumptions are the core
abbrev pub step : Instance → Option Narrowed → ReplyBody → Next (Option Narrowed) Minimal
step w c (Model model) = satisfied w c model
step w c (Proof failed lines) = going w (record { core = failed; lines = lines; models = models_of c })
step w c (AllSpent n) = Ends (Unknown (Spent n))
step w c AllStarved = Ends (Unknown Starved)

-- what comes first
abbrev pub first : Instance → Next (Option Narrowed) Minimal
first w = Asks None (opening w)
