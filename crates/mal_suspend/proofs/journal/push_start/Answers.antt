use Rattle.std.proofs.Common.{refl}
use Rattle.std.proofs.lemmas.Result.{on_ok_weaker}
use Rattle.mal_suspend.specs.Starting.{shared_loads, shared_imports}
use Rattle.mal_suspend.proofs.EntryLemmas.{grown-entries}
use Rattle.mal_suspend.proofs.journal.push_start.Goals as goal

pub returns : goal.returns
returns c = on_ok_weaker c.push_slice.result (λ pushed. grown-entries (shared_loads c.args.loads.now) (shared_imports c.args.imports.now) c.args.entries.now c.args.entries.now c.push_loads.new.entries c.push_imports.new.entries c.push_slice.new.self refl c.in_ok-push_loads.ensures c.in_ok-push_imports.ensures pushed) c.push_slice.ensures
