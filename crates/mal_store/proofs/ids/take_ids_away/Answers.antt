use Rattle.std.proofs.Common.{rules}
use Rattle.std.proofs.lemmas.Fn.{filter_same}
use Rattle.mal_store.proofs.ShortLemmas.{is_other}
use Rattle.mal_store.proofs.ids.take_ids_away.Goals as goal

pub returns-clause-items : goal.returns-clause-items
returns-clause-items c = filter_same _ (is_other c.args.ids.now) _ (λ x b f t. search rules) c.args.list.now.items c.retain.new.self.items c.retain.ensures.filtered
