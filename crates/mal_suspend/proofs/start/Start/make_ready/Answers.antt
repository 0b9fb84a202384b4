use Rattle.std.proofs.Common.{◌≡◌, ◌∙◌, ap}
use Rattle.mal_cdcl.specs.Ready.{posted}
use Rattle.mal_cdcl.specs.Importing.{lent}
use Rattle.mal_suspend.specs.Starting.{shared_loads, shared_imports}
use Rattle.mal_suspend.proofs.StartLemmas.{IsStartable, startable-lent, slice-lent}
use Rattle.mal_suspend.proofs.start.Start.make_ready.Goals as goal
use Rattle.mal_suspend.proofs.start.Start.make_ready.Goals.{After-as_slice-4}

-- what is lent is what is shared
loads : (c : After-as_slice-4) → posted c.as_slice-3.result.now ≡ shared_loads c.self.inside.loads.items
loads c = ap posted c.as_slice-3.ensures.value ∙ (c.in_ok-loads.ensures ∙ ap shared_loads c.as_slice.ensures.value)

tolds : (c : After-as_slice-4) → lent c.as_slice-4.result.now ≡ shared_imports c.self.inside.imports.items
tolds c = ap lent c.as_slice-4.ensures.value ∙ (c.in_ok-imports.ensures ∙ ap shared_imports c.as_slice-2.ensures.value)

fits : (c : After-as_slice-4) → IsStartable (posted c.as_slice-3.result.now) (lent c.as_slice-4.result.now) c.args.node.now.state
fits c = startable-lent (shared_loads c.self.inside.loads.items) _ (shared_imports c.self.inside.imports.items) _ c.args.node.now.state (loads c) (tolds c) (rw (← c.self.view_is) at c.requires)

pub ready-requires-clause-new : goal.ready-requires-clause-new
ready-requires-clause-new c = (fits c.before).new

pub ready-requires-clause-exported : goal.ready-requires-clause-exported
ready-requires-clause-exported c = (fits c.before).told

pub returns-clause-ready : goal.returns-clause-ready
returns-clause-ready c = rw (← c.self.view_is) (slice-lent (shared_loads c.self.inside.loads.items) _ (shared_imports c.self.inside.imports.items) _ c.args.node.now.state c.ready.new.self.state (loads c.before.before.before.before.before.before) (tolds c.before.before.before.before.before.before) c.in_ok-ready.ensures.loaded)

pub returns-clause-sound : goal.returns-clause-sound
returns-clause-sound c = rw c.in_ok-ready.ensures.loaded (fits c.before.before.before.before.before.before).runs.follows.0

pub returns-clause-counts : goal.returns-clause-counts
returns-clause-counts c = rw c.in_ok-ready.ensures.loaded (fits c.before.before.before.before.before.before).runs.low
