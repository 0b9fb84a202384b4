use Rattle.std.proofs.Common.{◌≡◌, drop}
use Rattle.mal_learn.specs.Working.{see_all}
use Rattle.mal_learn.proofs.work.Work.see_all.Given as goal

abbrev pub invariant-loop-lit : goal.invariant-loop-lit
invariant-loop-lit l = record {
  state : see_all (drop l.lit-index l.lits) l.self.state ≡ see_all l.lits l.fn.self.state;
  room : l.self.room ≡ l.fn.self.room;
}
