use Rattle.std.proofs.Common.{List, ℕ, ap}
use Rattle.std.proofs.lemmas.Result.{IfOk-weaker}
use Rattle.spec_hall.specs.Dressed.{keyed}
use Rattle.mal_max.specs.Seen.{instance, seen}
use Rattle.mal_max.proofs.SearchLemmas.{named-found, search-room}
use Rattle.mal_max.proofs.search.solve.Goals as goal

pub run-requires-clause-room : goal.run-requires-clause-room
run-requires-clause-room c = search-room (instance c.args.formula.now c.args.softs.now) c.requires.served

pub returns : goal.returns
returns c = IfOk-weaker c.run.result _ _ (λ outcome searched. named-found c.args.slices (instance c.args.formula.now c.args.softs.now) (seen outcome) (keyed c.own_name.result c.own_name.result) (ap (λ (n : List ℕ). keyed n n) c.own_name.ensures) c.requires.served searched) c.run.ensures
