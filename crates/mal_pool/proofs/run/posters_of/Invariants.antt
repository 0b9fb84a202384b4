use Rattle.std.proofs.Common.{◌≡◌, take}
use Rattle.spec_script.specs.Formed.{tenants_of}
use Rattle.mal_pool.proofs.Parting.{AreDrawn}
use Rattle.mal_pool.proofs.run.posters_of.Given as goal

abbrev pub invariant-loop-place : goal.invariant-loop-place
invariant-loop-place l = record {
  names : l.names.items ≡ tenants_of (take l.place l.jobs);
  drawn : AreDrawn l.jobs l.names.items l.posters.items;
}
