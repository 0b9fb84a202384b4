use Rattle.mal_pool.specs.Posts.{AreMade}
use Rattle.mal_pool.proofs.answering.make_next.Given as goal

abbrev pub invariant-loop : goal.invariant-loop
invariant-loop l = AreMade l.hall.events l.script.jobs l.made.items
