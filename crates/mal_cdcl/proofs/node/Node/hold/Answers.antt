use Rattle.std.proofs.Common.{ap, arith}
use Rattle.mal_cdcl.specs.Within.{NodeWithRoom}
use Rattle.mal_cdcl.proofs.DeriveLemmas.{sound-empty_goal, sound-core_goal}
use Rattle.mal_cdcl.proofs.LineLemmas.{failed-case}
use Rattle.mal_cdcl.proofs.node.Node.hold.Goals as goal

pub refute-requires-clause-kept : goal.refute-requires-clause-kept
refute-requires-clause-kept g c =
    let n = c.args.self.now.state in
    let failed = failed-case n c.in-Failed.field-0 (rw c.in-Failed.is at c.requires.source) in
    sound-core_goal n _ c.in-Failed.field-0 c.args.scratch.now.clause (ap (λ (s : NodeWithRoom). s.state) c.self.view_is) (rw c.in-Failed.is at c.requires.shown.lits) c.requires.sound failed

pub refute-requires-then-level-eq0-clause-kept : goal.refute-requires-then-level-eq0-clause-kept
refute-requires-then-level-eq0-clause-kept g c = sound-empty_goal c.args.self.now.state _ c.in-Conflict.id c.args.scratch.now.clause (ap (λ (s : NodeWithRoom). s.state) c.self.view_is) (rw c.in-Conflict.is at c.requires.shown.lits) c.requires.sound (rw c.in-Conflict.is at c.requires.source) (omega (arith, c.level.ensures.value, c.if-level-eq0.true))
