-- Worked examples.
use Rattle.std.specs.Prelude.{◌≡◌, List, [], ◌∷◌, codes, option_map, Ok, Some}
use Rattle.mal_base.specs.Formulas.{Formulated}
use Rattle.mal_base.specs.NumberedClause.{Line}
use Rattle.mal_base.specs.declared.verdict.Outcome.TheVariants.{Ran, Starved}
use Rattle.mal_base.specs.declared.profile.Profile.TheVariants.{Plain}
use Rattle.spec_hall.specs.Dressed.{keyed}
use Rattle.spec_hall.specs.Events.{Event, Start, Finish}
use Rattle.spec_json.specs.Shape.{json_in}
use Rattle.spec_logic.specs.Refutation.Refusal.{HintNotUnit}
use Rattle.spec_report.specs.Examples.{two_lines}
use Rattle.mal_claim.specs.Claims.{said}
use Rattle.mal_claim.specs.Proofs.Verdict.{NoGoal, Refused}
use Rattle.spec_run.specs.ReplayExamples.{free, one_job}
use Rattle.spec_script.specs.Script.{ScriptedJob}
use Rattle.spec_script.specs.declared.step.Step.TheVariants as steps
use Rattle.spec_promises.specs.Bounded.{most_starts, starts_in, starts_of}
use Rattle.spec_promises.specs.Keys.{keys_in}
use Rattle.spec_promises.specs.Replied.{headings}
use Rattle.spec_promises.specs.Taken.{IsTaken, claim_text}

-- the job q of that tenant, which has a revision before and after it asks anew
abbrev pub two_times : ScriptedJob
two_times = record { tenant = codes "a"; name = codes "q"; ask = record { priority = 1; demand = 1; slices = 4; profile = Plain }; steps = steps.Revise free ∷ steps.Reask (record { priority = 2; demand = 1 }) ∷ steps.Revise free ∷ [] }

-- a script without jobs wants no reply, that of one job with a revision one, and the other job two
pub record HasHeadings : Type 0 where
  pub none : headings (record { jobs = [] }) ≡ []
  pub one : headings one_job ≡ record { tenant = codes "a"; job = codes "p"; number = 1; profile = Plain } ∷ []
  pub two : headings (record { jobs = two_times ∷ [] }) ≡ record { tenant = codes "a"; job = codes "q"; number = 1; profile = Plain } ∷ record { tenant = codes "a"; job = codes "q"; number = 2; profile = Plain } ∷ []

-- two starts of that job, of which one ran out of memory, and one of the first job
abbrev pub three_starts : List Event
three_starts =
    Start (keyed (codes "a") (codes "q")) 0 1 ∷ Start (keyed (codes "a") (codes "p")) 0 2 ∷ Finish (keyed (codes "a") (codes "q")) 0 1 Starved
    ∷ Start (keyed (codes "a") (codes "q")) 0 1 ∷ Finish (keyed (codes "a") (codes "p")) 0 2 Ran ∷ []

-- starts are counted by their jobs, and a job of two revisions with 4 slices each has at most 12
pub record HasCounts : Type 0 where
  pub all : starts_in three_starts ≡ 3
  pub one : starts_of (keyed (codes "a") (codes "q")) three_starts ≡ 2
  pub other : starts_of (keyed (codes "a") (codes "p")) three_starts ≡ 1
  pub none : starts_of (keyed (codes "b") (codes "p")) three_starts ≡ 0
  pub most : most_starts two_times ≡ 12

-- the keys of objects in JSON, in their order: a key that is repeated stands once, and a list has none
pub record HasKeysInJson : Type 0 where
  pub two : option_map keys_in (json_in (codes "{\"priority\":5,\"demand\":2}")) ≡ Some (codes "demand" ∷ codes "priority" ∷ [])
  pub repeated : option_map keys_in (json_in (codes "{\"a\":1,\"b\":2,\"a\":3}")) ≡ Some (codes "a" ∷ codes "b" ∷ [])
  pub no_object : option_map keys_in (json_in (codes "[1]")) ≡ Some []

-- the clauses 1 2, 1 -2, -1 2 and -1 -2; and -1 -2 alone, with the line that its assumptions 1 and 2 fail by
abbrev pub four_clauses : Formulated
four_clauses = record { variables = 2; clauses = Some (2 ∷ 4 ∷ []) ∷ Some (2 ∷ 5 ∷ []) ∷ Some (3 ∷ 4 ∷ []) ∷ Some (3 ∷ 5 ∷ []) ∷ [] }

abbrev pub one_clause : Formulated
one_clause = record { variables = 2; clauses = Some (3 ∷ 5 ∷ []) ∷ [] }

abbrev pub one_line : List Line
one_line = record { id = 2; lits = 3 ∷ 5 ∷ []; hints = 1 ∷ [] } ∷ []

-- claims that are taken, and two that are not: one without an assumption, and one whose line has fewer hints
pub record HasTaken : Type 0 where
  pub claim : claim_text four_clauses [] two_lines ≡ codes "p cnf 2 4\n1 2 0\n1 -2 0\n-1 2 0\n-1 -2 0\na 0\nproof\nl 5 1 0 1 2 0\nl 6 0 5 3 4 0\n"
  pub lines : IsTaken four_clauses [] two_lines
  pub under : IsTaken one_clause (2 ∷ 4 ∷ []) one_line
  pub failing : said (claim_text one_clause (2 ∷ []) one_line) ≡ Ok NoGoal
  pub other_hints : said (claim_text four_clauses [] (record { id = 5; lits = []; hints = 1 ∷ [] } ∷ [])) ≡ Ok (Refused 1 (HintNotUnit 1))
