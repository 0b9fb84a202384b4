use Rattle.std.proofs.Common.{◌≡◌, ◌∙◌, ap}
use Rattle.spec_search.specs.Slice.{Sliced, slice}
use Rattle.spec_job.specs.Journaled.{replayed}
use Rattle.mal_suspend.specs.Starting.{shared_loads, shared_imports, start_entries}
use Rattle.mal_suspend.proofs.ReplayLemmas.{variables-replay}
use Rattle.mal_suspend.proofs.StartLemmas.{start-may, start-replays}
use Rattle.mal_suspend.proofs.start.Start.run.Goals as goal
use Rattle.mal_suspend.proofs.start.Start.run.Goals.{After-run}

pub make_ready-requires : goal.make_ready-requires
make_ready-requires c =
    let inside = c.self.inside in
    let grows = rw (← c.self.view_is) at c.requires in
    rw (← c.self.view_is) (start-may c.args.suspended inside.grown (start_entries (shared_loads inside.loads.items) (shared_imports inside.imports.items)) c.into_parts-node.result.0.state grows c.self.invariant.0 c.into_parts-node.ensures.node)

-- the slice ends as the grown journal does when it is replayed
ends : (c : After-run) → slice c.make_ready.new.node.state ≡ replayed c.self.inside.grown
ends c =
    let inside = c.self.inside in
    let grows = rw (← c.self.view_is) at c.requires in
    (rw (← c.self.view_is) at c.in-Ok.ensures.ready) ∙ start-replays c.args.suspended inside.grown (shared_loads inside.loads.items) (shared_imports inside.imports.items) c.into_parts-node.result.0.state grows c.into_parts-node.ensures.node

pub ran-requires-clause-node : goal.ran-requires-clause-node
ran-requires-clause-node c = c.run.ensures.node ∙ ap (λ (s : Sliced). s.node) (ends c)

pub ran-requires-clause-lines : goal.ran-requires-clause-lines
ran-requires-clause-lines c = c.run.ensures.lines ∙ ap (λ (s : Sliced). s.lines) (ends c)

pub ran-requires-clause-room : goal.ran-requires-clause-room
ran-requires-clause-room c = rw (variables-replay c.self.inside.grown.profile c.self.inside.grown.index c.self.inside.grown.entries) c.self.invariant.2
