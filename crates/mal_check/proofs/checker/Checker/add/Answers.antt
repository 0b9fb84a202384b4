use Rattle.mal_check.proofs.SoundLemmas.{derived-sound}
use Rattle.mal_check.proofs.checker.Checker.add.Goals as goal

pub invariant_of-self-2 : goal.invariant_of-self-2
invariant_of-self-2 c = (rw (c.in_ok-add.ensures.originals, c.in_ok-add.ensures.added) (derived-sound c.self.inside.clauses c.args.clause c.args.hints.now c.self.invariant.0 c.in_ok-derive.ensures.end), c.derive.ensures.trues, c.add.ensures.room)

pub returns-clause-entailed : goal.returns-clause-entailed
returns-clause-entailed c = rw (c.in_ok-add.ensures.originals, c.in_ok-add.ensures.added) (derived-sound c.self.inside.clauses c.args.clause c.args.hints.now c.self.invariant.0 c.in_ok-derive.ensures.end)
