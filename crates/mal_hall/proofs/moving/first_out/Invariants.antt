use Rattle.std.proofs.Common.{◌≡◌}
use Rattle.spec_hall.specs.Calls.{first_out}
use Rattle.mal_hall.proofs.MovingLemmas.{out_from}
use Rattle.mal_hall.proofs.moving.first_out.Given as goal

abbrev pub invariant-loop-index : goal.invariant-loop-index
invariant-loop-index l = out_from l.job.titled.state l.index ≡ first_out l.job.titled.state
