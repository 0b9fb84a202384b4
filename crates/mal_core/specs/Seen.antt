-- What the types of this crate stand for.
use Rattle.std.specs.Prelude.{ℕ, List, [], length, remove, Option}
use Rattle.std.specs.Option.{option_map}
use Rattle.mal_base.specs.Formulas.{Formulated}
use Rattle.mal_base.specs.NumberedClause.{Line}
use Rattle.mal_inquiry.specs.Causes.{cause_of}
use Rattle.mal_inquiry.specs.Searching.{next_by}
use Rattle.mal_inquiry.specs.declared.search.Next.{Next}
use Rattle.mal_revision.specs.Posted.{Posted}
use Rattle.spec_course.specs.Course as course
use Rattle.spec_course.specs.Course.{Asked, Leads}
use Rattle.spec_course.specs.Supported.{AreSupported}
use Rattle.spec_inquiry.specs.Searches.{Proofs}
use Rattle.spec_core.specs.Core as core
use Rattle.mal_core.specs.declared.outcome.Minimal.{Minimal}
use Rattle.mal_core.specs.declared.outcome.Minimal.TheVariants as minimal
use Rattle.mal_core.specs.declared.outcome.Narrowing.{Narrowing}

-- the instance of a formula and assumptions
abbrev pub instance : Formulated → List ℕ → core.Instance
instance formula assumptions = record { formula = formula; assumptions = assumptions }

-- what a search comes to
abbrev pub seen : Minimal → core.Minimal
seen (minimal.Core c) = core.Core c
seen (minimal.Satisfiable model) = core.Satisfiable model
seen (minimal.Unknown why) = core.Unknown (cause_of why)

-- a core so far, with the lines of its proof
abbrev pub core_with : Narrowing → List Line → core.Narrowed
core_with c lines = record { core = c.core.items; lines = lines; models = c.models.items }

-- where the proofs are these
abbrev pub core_by : Proofs → Narrowing → core.Narrowed
core_by proofs c = core_with c (proofs c.proof)

abbrev pub narrowed_by : Proofs → Option Narrowing → Option core.Narrowed
narrowed_by proofs c = option_map (core_by proofs) c

abbrev pub proved_by : Narrowing → List Line → core.Minimal
proved_by c lines = core.Core (core_with c lines)

-- what follows a reply
abbrev pub next_of : Proofs → Next (Option Narrowing) Narrowing Minimal → course.Next (Option core.Narrowed) core.Minimal
next_of proofs next = next_by narrowed_by proved_by seen proofs next

-- the question of so many variables without the first literal that has no model
abbrev pub without : ℕ → Narrowing → Posted
without variables c = record { variables = variables; clauses = []; assumptions = remove c.core.items (length c.models.items) }

-- the questions of a search lead to this, and what was told has its evidence
pub record LeadsTo (w : core.Instance) (next : Proofs → course.Next (Option core.Narrowed) core.Minimal) : Type 0 where
  pub proofs : Proofs
  pub asked : List Asked
  pub supported : AreSupported w.formula.variables w.formula.clauses asked
  pub leads : Leads (core.step w) (core.first w) asked (next proofs)
