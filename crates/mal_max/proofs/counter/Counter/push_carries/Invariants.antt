use Rattle.std.proofs.Common.{◌≡◌, ◌+◌, ◌-◌, ◌≤◌, ◌++◌}
use Rattle.spec_max.specs.Counter.{carries}
use Rattle.mal_max.proofs.counter.Counter.push_carries.Given as goal

abbrev pub invariant-loop-j : goal.invariant-loop-j
invariant-loop-j l =
    (1 ≤ l.j)
    × (l.clauses ++ carries l.self.variables l.self.count l.i l.j (l.self.count + 1 - l.j) ≡ l.fn.clauses ++ carries l.self.variables l.self.count l.i 1 l.self.count)
