use Rattle.std.proofs.Common.{rules}
use Rattle.std.proofs.lemmas.Fn.{filter_same}
use Rattle.mal_store.specs.Indexed.{is_kept}
use Rattle.mal_store.proofs.index.take_away.Goals as goal

pub returns-clause-items : goal.returns-clause-items
returns-clause-items c = filter_same _ (is_kept c.args.ids.now) _ (λ x b f t. search rules) c.args.entries.now.items c.retain.new.self.items c.retain.ensures.filtered
