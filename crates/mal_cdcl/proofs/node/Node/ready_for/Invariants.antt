use Rattle.std.proofs.Common.{drop}
use Rattle.mal_cdcl.specs.Ready.{posted, readied}
use Rattle.mal_cdcl.specs.Importing.{lent, all_imported}
use Rattle.mal_cdcl.proofs.NeedLemmas.{IsReadying}
use Rattle.mal_cdcl.proofs.ImportingLemmas.{IsImporting}
use Rattle.mal_cdcl.proofs.node.Node.ready_for.Given as goal

abbrev pub invariant-loop-load : goal.invariant-loop-load
invariant-loop-load g l = IsReadying l.steps (posted (drop l.load-index l.loads)) (posted l.loads) l.picks.items l.fn.self.state l.scratch.room l.self

abbrev pub invariant-loop-pick : goal.invariant-loop-pick
invariant-loop-pick g l = IsImporting l.steps (drop l.pick-index l.pick-items) (all_imported (lent l.imports) (readied (posted l.loads) l.fn.self.state)) l.scratch.room l.self
