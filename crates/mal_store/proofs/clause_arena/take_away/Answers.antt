use Rattle.std.proofs.Common.{rules}
use Rattle.std.proofs.lemmas.Fn.{filter_same}
use Rattle.mal_store.specs.declared.clause_arena.Header.{Header}
use Rattle.mal_store.specs.Arena.{is_left}
use Rattle.mal_store.specs.Arena.{clause_in}
use Rattle.mal_store.proofs.clause_arena.take_away.Goals as goal

pub returns-clause-items : goal.returns-clause-items
returns-clause-items c = λ literals. filter_same _ (λ (r : Header). is_left c.args.ids.now (clause_in literals r)) _ (λ x b f t. search rules) c.args.headers.now.items c.retain.new.self.items c.retain.ensures.filtered
