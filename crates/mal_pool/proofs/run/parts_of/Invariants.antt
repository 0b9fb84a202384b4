use Rattle.std.proofs.Common.{◌≡◌, ◌≤◌, ◌++◌, List, map, min}
use Rattle.mal_pool.specs.Parts.{ArePosters, demand_of}
use Rattle.mal_pool.specs.declared.role.Part.{Part}
use Rattle.mal_pool.specs.declared.role.Part.TheVariants as parts
use Rattle.spec_node.specs.Load.{counted}
use Rattle.mal_pool.proofs.run.parts_of.Given as goal

abbrev pub invariant-loop-before : goal.invariant-loop-before
invariant-loop-before l =
    (posters : List Part) × ArePosters l.jobs posters × (l.parts.items ≡ posters ++ map parts.Worker (counted 1 l.before)) × (l.before ≤ min l.workers (demand_of l.jobs))
