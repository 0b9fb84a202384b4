use Rattle.mal_marks.proofs.FollowLemmas.{insert-clauses, insert-guide, forget-clauses, forget-guide, resolve-clauses, resolve-guide}
use Rattle.mal_marks.proofs.laws.marks_follow.Goals as goal

pub returns-clause-insert : goal.returns-clause-insert
returns-clause-insert c = record { clauses = insert-clauses; guide = insert-guide }

pub returns-clause-forget : goal.returns-clause-forget
returns-clause-forget c = record { clauses = forget-clauses; guide = forget-guide }

pub returns-clause-resolve : goal.returns-clause-resolve
returns-clause-resolve c = record { clauses = resolve-clauses; guide = resolve-guide }
