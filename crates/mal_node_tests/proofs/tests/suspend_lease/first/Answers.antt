use Rattle.mal_node_tests.proofs.tests.suspend_lease.first.Goals as goal

pub new-requires-2 : goal.new-requires-2
new-requires-2 c = rw (c.requires.journal, c.new.ensures.items) c.requires.loads
