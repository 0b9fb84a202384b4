use Rattle.std.proofs.Common.{subst, List}
use Rattle.mal_base.specs.Asks.{Terms}
use Rattle.spec_balance.specs.Fair.{IsFair, asks_of}
use Rattle.spec_balance.proofs.Unique.{unique}
use Rattle.spec_balance.proofs.names_do_not_matter.Goals as goal

pub returns : goal.returns
returns c = λ workers jobs renamed us vs same f g. unique workers (asks_of renamed) us vs (subst (λ (asks : List Terms). IsFair workers asks us) same f) g
