use Rattle.std.proofs.Common.{◌≡◌, false, take}
use Rattle.spec_learn.specs.Dropping.{is_reason}
use Rattle.mal_learn.proofs.dropping.is_reason.Given as goal

abbrev pub invariant-loop-place : goal.invariant-loop-place
invariant-loop-place g l = is_reason (take l.place (g.T.TrailView.entries l.trail)) (record { id = l.id; lits = l.lits }) ≡ false
