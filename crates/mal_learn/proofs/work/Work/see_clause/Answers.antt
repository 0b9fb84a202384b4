use Rattle.mal_learn.proofs.WalkLemmas.{lits-within}
use Rattle.mal_learn.proofs.work.Work.see_clause.Goals as goal

pub see_all-requires : goal.see_all-requires
see_all-requires g c = lits-within c.args.self.now.room c.args.id (g.C.ClauseView.clauses c.args.clauses.now) c.in-Some.lits.now c.requires c.in-Some.ensures
