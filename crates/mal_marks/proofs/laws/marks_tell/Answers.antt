use Rattle.mal_marks.proofs.FollowLemmas.{free-unmarked, counts-clauses, chooses-reduced}
use Rattle.mal_marks.proofs.laws.marks_tell.Goals as goal

pub returns-clause-free : goal.returns-clause-free
returns-clause-free c = free-unmarked

pub returns-clause-counted : goal.returns-clause-counted
returns-clause-counted c = counts-clauses

pub returns-clause-chosen : goal.returns-clause-chosen
returns-clause-chosen c = chooses-reduced
