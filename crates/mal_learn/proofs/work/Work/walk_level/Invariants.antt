use Rattle.std.proofs.Common.{◌≡◌, ◌+◌, ◌-◌, ◌≤◌, take, reverse, length}
use Rattle.std.specs.Prelude.{◌==◌, take_while}
use Rattle.mal_learn.specs.Working.{visited_all}
use Rattle.mal_learn.proofs.work.Work.walk_level.Given as goal

abbrev pub invariant-loop-made : goal.invariant-loop-made
invariant-loop-made g l = record {
  state : visited_all (g.C.ClauseView.clauses l.clauses) l.level (take_while (λ e. e.level == l.level) (reverse (take (length (g.T.TrailView.entries l.trail) - l.made) (g.T.TrailView.entries l.trail)))) l.self.state ≡ visited_all (g.C.ClauseView.clauses l.clauses) l.level (take_while (λ e. e.level == l.level) (reverse (g.T.TrailView.entries l.trail))) l.fn.self.state;
  room : l.self.room ≡ l.fn.self.room;
  lits : length l.self.state.lits ≤ length l.fn.self.state.lits + l.made;
  hints : length l.self.state.hints ≤ length l.fn.self.state.hints + l.made;
}
