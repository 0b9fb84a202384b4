-- A line, whatever it is derived from.
use Rattle.std.proofs.Common.{◌≡◌, ℕ, ◌+◌, ◌-◌, ◌<◌, ◌≤◌, [], length, Some, arith}
use Rattle.std.proofs.lemmas.List.Elements.{All-weaker}
use Rattle.mal_base.specs.Literals.{var_of}
use Rattle.spec_node.specs.State.{Node}
use Rattle.spec_node.specs.Sound.{IsLiteralOf, AreLiteralsOf, IsSound}
use Rattle.spec_learn.proofs.ProfileLemmas.{sound-small}
use Rattle.spec_learn.proofs.CoreClauseLemmas.{core-small}
use Rattle.spec_search.specs.Step.{next_line}
use Rattle.mal_learn.specs.Shown.{HasRoom, AreWithin}
use Rattle.mal_cdcl.specs.declared.source.Source.{Source}
use Rattle.mal_cdcl.specs.declared.source.Source.TheVariants.{Conflict, Failed}
use Rattle.mal_cdcl.specs.Sourced.{IsSource, analysis_from, line_from}
use Rattle.mal_cdcl.proofs.DeriveLemmas.{placed-wider, IsFit, fit-line, fit-core}
use Rattle.mal_cdcl.proofs.LineLemmas.{failed-case, next-derives, next-core}

-- a scratch that is fitted to a sound node has room for an analysis
pub analysis-room : (least room : ℕ) (n : Node) → IsSound n → n.variables < room → least ≤ n.variables + 1 → HasRoom least room n.trail n.clauses
analysis-room least room n h fitted some = record {
  fitted = omega arith;
  placed = placed-wider n.variables (room - 1) n.trail [] (omega arith) h.consistent.placed;
  within = All-weaker (λ c. AreLiteralsOf n.variables c.lits) (λ c. AreWithin room c.lits) (λ c k. All-weaker (IsLiteralOf n.variables) (λ l. var_of l < room) (λ l b. omega (arith, b.high, fitted)) c.lits k.within) n.clauses h.consistent.clauses;
}

-- the line that the next step derives
pub next-from : (s : Source) (n : Node) → IsSource s n → next_line n ≡ Some (line_from s n)
next-from (Conflict id) n q = next-derives n id q
next-from (Failed a) n q = next-core n a q

pub fit-from : (s : Source) (n : Node) → IsSound n → IsSource s n → IsFit n.variables (analysis_from s n).lits
fit-from (Conflict id) n h q = fit-line n id h q
fit-from (Failed a) n h q = fit-core n a h (failed-case n a q)

pub small-from : (s : Source) (n : Node) → IsSound n → length (analysis_from s n).lits + length (analysis_from s n).hints ≤ n.variables + 1
small-from (Conflict id) n h = sound-small n id h
small-from (Failed a) n h = core-small n a h
