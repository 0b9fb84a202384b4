use Rattle.std.specs.Option.{option_map}
use Rattle.mal_max.specs.Seen.{instance, solution_of}
use Rattle.mal_max.proofs.SearchLemmas.{found-whole}
use Rattle.mal_max.proofs.search.OptimizingSearch.after.Goals as goal

pub solution_in-requires-clause-whole : goal.solution_in-requires-clause-whole
solution_in-requires-clause-whole c = found-whole (instance c.args.self.now.formula.now c.args.self.now.softs.now) (λ proofs. option_map solution_of c.args.state) c.args.number c.in-Model.model (rw c.in-Model.is at c.requires.found)
