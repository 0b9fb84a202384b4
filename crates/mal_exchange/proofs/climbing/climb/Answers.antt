use Rattle.std.proofs.Common.{rules, ◌≡◌, ◌+◌, ◌-◌, ◌<◌, ◌++◌, length, take, get_or, arith}
use Rattle.spec_exchange.specs.Exchange.{union, prefix, most_literals}
use Rattle.spec_exchange.proofs.ClimbLemmas.{climb-last}
use Rattle.mal_exchange.proofs.climbing.climb.Goals as goal

pub returns-clause-same : goal.returns-clause-same
returns-clause-same c =
    let tops = c.args.tops.now.items in
    let place = c.number-place.result in
    let low : place + 1 < length tops = omega (arith, c.len-last.ensures, c.of.ensures, c.in-Some.ensures, c.number-place.ensures.value) in
    let last : c.index-2.result.now ≡ get_or tops (length tops - 1) c.index-2.result.now = search rules in
    let rest : c.pop.new.self.items ≡ take (length tops - 1) tops = search rules in
    let merged : c.cut.new.self ≡ prefix most_literals (union (c.index.result.now ++ c.index-2.result.now)) = search rules in
    rw (rest, merged) (climb-last tops place c.index.result.now c.index-2.result.now low c.index.ensures last)
