use Rattle.std.proofs.Common.{◌≡◌, ◌+◌, ◌-◌, ◌≤◌, take, reverse, length}
use Rattle.mal_learn.specs.Shortening.{shorter_visited_all}
use Rattle.mal_learn.proofs.work.Work.walk_shorter.Given as goal

abbrev pub invariant-loop-made : goal.invariant-loop-made
invariant-loop-made g l = record {
  walk : shorter_visited_all (g.C.ClauseView.clauses l.clauses) l.level (reverse (take (length (g.T.TrailView.entries l.trail) - l.made) (g.T.TrailView.entries l.trail))) (record { state = l.self.state; base = l.base }) ≡ shorter_visited_all (g.C.ClauseView.clauses l.clauses) l.level (reverse (g.T.TrailView.entries l.trail)) (record { state = l.fn.self.state; base = l.fn.base });
  len : length l.base ≡ length l.fn.base;
  room : l.self.room ≡ l.fn.self.room;
  lits : length l.self.state.lits ≤ length l.fn.self.state.lits + l.made;
  hints : length l.self.state.hints ≤ length l.fn.self.state.hints + l.made;
}
