use Rattle.mal_cdcl.proofs.ImageLemmas.{all_rise-clauses}
use Rattle.mal_cdcl.proofs.node.Node.image.Goals as goal

pub clauses_of-requires : goal.clauses_of-requires
clauses_of-requires g c =
    let n = c.self.inside in
    all_rise-clauses n.variables (g.E.ClauseView.clauses n.engine) (rw (← c.self.view_is) at c.requires.form.clauses)
