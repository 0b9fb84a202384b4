use Rattle.std.proofs.Common.{◌≡◌, ◌-◌, ◌≤◌, ◌++◌}
use Rattle.spec_max.specs.Counter.{adds}
use Rattle.mal_max.proofs.counter.Counter.push_adds.Given as goal

abbrev pub invariant-loop-j : goal.invariant-loop-j
invariant-loop-j l =
    (1 ≤ l.j)
    × (l.clauses ++ adds l.self.variables l.self.count l.i l.lit l.j (l.self.count - l.j) ≡ l.fn.clauses ++ adds l.self.variables l.self.count l.i l.lit 1 (l.self.count - 1))
