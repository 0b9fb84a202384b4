use Rattle.std.proofs.Common.{rules, ◌≡◌, ◌∙◌, List, [], ◌∷◌, ap, sym, length, ◌≤◌}
use Rattle.mal_exchange.proofs.LastLemmas.{alone}
use Rattle.mal_base.specs.NumberedClause.{NumberedClause}
use Rattle.spec_exchange.specs.Exchange.{broadcast, entries_of}
use Rattle.spec_exchange.proofs.TreeLemmas.{top}
use Rattle.mal_exchange.proofs.climbing.up.Goals as goal

pub returns : goal.returns
returns c =
    let few : length c.loop-tops.tops.items ≤ 1 = search rules in
    let only : c.loop-tops.tops.items ≡ c.in-Some.top ∷ [] = alone c.loop-tops.tops.items c.pop.new.self.items c.in-Some.top c.in-Some.ensures.items few in
    c.cut.ensures.prefix ∙ (top c.in-Some.top c.cut.ensures.was_sorted ∙ (ap (λ (ts : List (List NumberedClause)). broadcast (entries_of ts)) (sym only) ∙ c.loop-tops.invariant.same))
