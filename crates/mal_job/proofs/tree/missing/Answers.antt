use Rattle.std.proofs.Common.{List, ◌≡◌, IfOk, subst}
use Rattle.mal_base.specs.NumberedClause.{NumberedClause}
use Rattle.mal_suspend.specs.Starting.{shared_imports}
use Rattle.mal_job.proofs.TreeLemmas.{shared-behind}
use Rattle.mal_job.proofs.tree.missing.Goals as goal

pub returns : goal.returns
returns c = subst (λ (es : List (List NumberedClause)). IfOk c.broadcasts_of.result (λ v. shared_imports v.items ≡ es)) (shared-behind c.args.imported c.args.broadcasts.now) c.broadcasts_of.ensures
