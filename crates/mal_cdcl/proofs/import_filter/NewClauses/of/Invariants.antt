use Rattle.std.proofs.Common.{◌≡◌, not, take, filter}
use Rattle.mal_filter.specs.Noted.{is_noted}
use Rattle.mal_cdcl.proofs.import_filter.NewClauses.of.Given as goal

abbrev pub invariant-loop-entry : goal.invariant-loop-entry
invariant-loop-entry l = l.taken.items ≡ filter (λ c. not (is_noted c.lits l.seen)) (take l.entry-index l.entries)
