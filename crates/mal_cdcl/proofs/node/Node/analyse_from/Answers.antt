use Rattle.std.proofs.Common.{arith}
use Rattle.mal_cdcl.proofs.DeriveLemmas.{failed-some}
use Rattle.mal_cdcl.proofs.LineLemmas.{failed-case}
use Rattle.mal_cdcl.proofs.SourceLemmas.{analysis-room}
use Rattle.mal_cdcl.proofs.node.Node.analyse_from.Goals as goal

pub analyse_in-requires : goal.analyse_in-requires
analyse_in-requires g c = rw (← c.self.view_is) at (analysis-room 1 c.args.scratch.now.room c.args.self.now.state c.requires.sound c.requires.fitted (omega arith))

pub final_core-requires : goal.final_core-requires
final_core-requires g c =
    let n = c.args.self.now.state in
    let failed = failed-case n c.in-Failed.literal (rw c.in-Failed.is at c.requires.source) in
    rw (← c.self.view_is) at (analysis-room 2 c.args.scratch.now.room n c.requires.sound c.requires.fitted (omega (arith, failed-some n c.in-Failed.literal c.requires.sound failed)))
