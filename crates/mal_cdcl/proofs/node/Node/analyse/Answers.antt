use Rattle.mal_cdcl.proofs.SourceLemmas.{small-from}
use Rattle.mal_cdcl.proofs.node.Node.analyse.Goals as goal

pub returns-clause-few : goal.returns-clause-few
returns-clause-few g c = rw (c.clause.ensures, c.hints.ensures, c.analyse_from.ensures.clause, c.analyse_from.ensures.hints) (small-from c.args.source.now c.args.self.now.state c.requires.sound)
