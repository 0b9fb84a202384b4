use Rattle.std.proofs.Common.{◌≡◌, ◌+◌, ◌++◌, drop}
use Rattle.spec_max.specs.Counter.{counter, rows}
use Rattle.mal_max.proofs.counter.push_counter.Given as goal

abbrev pub invariant-loop-lit : goal.invariant-loop-lit
invariant-loop-lit l =
    (l.row ≡ l.lit-index + 1)
    × (l.clauses ++ rows l.counter.variables l.counter.count l.row (drop l.lit-index l.rest) ≡ l.fn.clauses ++ counter l.variables l.softs)
