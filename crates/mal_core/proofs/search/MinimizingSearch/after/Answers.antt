use Rattle.std.proofs.Common.{sym}
use Rattle.mal_job.specs.declared.finding.Finding.TheVariants as found
use Rattle.mal_core.specs.Seen.{instance}
use Rattle.mal_core.proofs.SearchLemmas.{found-leads, going-models, leads-same}
use Rattle.mal_core.proofs.search.MinimizingSearch.after.Goals as goal

pub satisfied-requires-clause-asked : goal.satisfied-requires-clause-asked
satisfied-requires-clause-asked c = found-leads (instance c.args.self.now.formula.now c.args.self.now.assumptions.now) c.args.state c.args.number (found.Model c.in-Model.model) (rw c.in-Model.is at c.requires.found)

pub going-requires-clause-asked : goal.going-requires-clause-asked
going-requires-clause-asked c =
    let w = instance c.args.self.now.formula.now c.args.self.now.assumptions.now in
    leads-same w _ _ (λ proofs. going-models w c.in-Failed.core.items (proofs c.args.number) _ _ (sym (c.models_of.ensures proofs))) (found-leads w c.args.state c.args.number (found.Failed c.in-Failed.core) (rw c.in-Failed.is at c.requires.found))
