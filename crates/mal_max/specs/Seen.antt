-- Instances, solutions, optima and what follows a reply, as contracts see them.
use Rattle.std.specs.Prelude.{ℕ, List, Option}
use Rattle.std.specs.Option.{option_map}
use Rattle.mal_base.specs.Formulas.{Formulated}
use Rattle.mal_inquiry.specs.Causes.{cause_of}
use Rattle.mal_inquiry.specs.Searching.{next_by}
use Rattle.mal_inquiry.specs.declared.search.Next.{Next}
use Rattle.mal_max.specs.declared.optimum.Optimum.{Optimum}
use Rattle.mal_max.specs.declared.optimum.Optimum.TheVariants as optimum
use Rattle.mal_max.specs.declared.optimum.Solution.{Solution}
use Rattle.spec_course.specs.Course as course
use Rattle.spec_inquiry.specs.Searches.{Proofs}
use Rattle.spec_max.specs.Optimum as max

-- the instance of a formula and soft literals
abbrev pub instance : Formulated → List ℕ → max.Instance
instance formula softs = record { formula = formula; softs = softs }

abbrev pub solution_of : Solution → max.Solution
solution_of found = record { model = found.model; cost = found.cost }

abbrev pub seen : Optimum → max.Optimum
seen (optimum.Best found lines) = max.Best (solution_of found) lines.lines
seen (optimum.NoModel lines) = max.NoModel lines.lines
seen (optimum.Unknown best why) = max.Unknown (option_map solution_of best) (cause_of why)

abbrev pub next_of : Proofs → Next (Option Solution) (Option Solution) Optimum → course.Next (Option max.Solution) max.Optimum
next_of proofs next = next_by (λ told best. option_map solution_of best) (λ best lines. max.concluded (option_map solution_of best) lines) seen proofs next
