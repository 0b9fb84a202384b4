use Rattle.std.proofs.Common.{◌≡◌, ◌+◌, ◌-◌, ◌≤◌, take, reverse, length}
use Rattle.mal_learn.specs.Tracing.{traced_all}
use Rattle.mal_learn.proofs.work.Work.trace_all.Given as goal

abbrev pub invariant-loop-made : goal.invariant-loop-made
invariant-loop-made g l = record {
  state : traced_all (g.C.ClauseView.clauses l.clauses) (reverse (take (l.count - l.made) (g.T.TrailView.entries l.trail))) l.self.state ≡ traced_all (g.C.ClauseView.clauses l.clauses) (reverse (take l.count (g.T.TrailView.entries l.trail))) l.fn.self.state;
  room : l.self.room ≡ l.fn.self.room;
  lits : length l.self.state.lits ≤ length l.fn.self.state.lits + l.made;
  hints : length l.self.state.hints ≤ length l.fn.self.state.hints + l.made;
}
