use Rattle.std.proofs.Common.{◌-◌, ◌*◌}
use Rattle.mal_hall_tests.proofs.tests.turn.+add_all+fn-add_all-join+arg2+fn-add_all-join+arg3.Given as goal

abbrev pub decreases-add_all : goal.decreases-add_all
decreases-add_all g l = l.doublings * 2

abbrev pub decreases-join+arg2 : goal.decreases-join+arg2
decreases-join+arg2 g l = l.doublings * 2 - 1

abbrev pub decreases-join+arg3 : goal.decreases-join+arg3
decreases-join+arg3 g l = l.doublings * 2 - 1
