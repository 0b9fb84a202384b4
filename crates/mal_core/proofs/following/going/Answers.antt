use Rattle.std.proofs.Common.{arith}
use Rattle.mal_core.specs.Seen.{instance}
use Rattle.mal_core.proofs.SearchLemmas.{next-left, next-posted}
use Rattle.mal_core.proofs.following.going.Goals as goal

pub without_next-requires-clause-next : goal.without_next-requires-clause-next
without_next-requires-clause-next c = next-left (instance c.args.formula.now c.args.assumptions.now) c.args.narrowing c.requires.served (λ e. c.if-len.false (omega (arith, e, c.len.ensures, c.len-2.ensures))) c.requires.asked

pub without_next-requires-clause-posted : goal.without_next-requires-clause-posted
without_next-requires-clause-posted c = next-posted (instance c.args.formula.now c.args.assumptions.now) c.args.narrowing c.requires.served (λ e. c.if-len.false (omega (arith, e, c.len.ensures, c.len-2.ensures))) c.requires.asked
