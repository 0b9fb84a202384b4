use Rattle.std.proofs.Common.{rules, ◌≤◌, nat_le, length, None}
use Rattle.std.specs.List.Sorted.{IsPartitionedBy}
use Rattle.std.proofs.lemmas.List.Sorted.{IsPartitionPoint-from_clause}
use Rattle.mal_base.specs.declared.trail_entry.TrailEntry.{TrailEntry}
use Rattle.mal_trail.proofs.LevelLemmas.{levels-part}
use Rattle.mal_trail.proofs.CutLemmas.{kept_count}
use Rattle.mal_trail.proofs.trail.Trail.count_up_to.Goals as goal

pub returns-clause-count : goal.returns-clause-count
returns-clause-count c =
    let t = c.self.inside in
    let none : TrailEntry = record { lit = 2; reason = None; level = 0 } in
    let parted : IsPartitionedBy (λ (e : TrailEntry). nat_le e.level c.args.level) c.deref.result.now = rw c.deref.ensures.value (levels-part c.args.level t.entries.items c.self.invariant.fits.levels) in
    let point = IsPartitionPoint-from_clause (λ (e : TrailEntry). nat_le e.level c.args.level) _ _ c.partition_point.ensures.partitioned parted (λ a r q k. search rules) in
    let below : c.partition_point.result ≤ length t.entries.items = rw c.deref.ensures.value at c.partition_point.ensures.bound in
    rw (← c.self.view_is) (kept_count c.args.level t.entries.items c.partition_point.result none below (rw c.deref.ensures.value at point))
