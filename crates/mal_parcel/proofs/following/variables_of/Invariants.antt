use Rattle.std.proofs.Common.{◌≡◌, ℕ, ◌≤◌, drop, fold, max}
use Rattle.mal_base.specs.Limits.{limits}
use Rattle.mal_revision.specs.Posted.{Posted}
use Rattle.spec_job.specs.Models.{variables_of}
use Rattle.mal_job.specs.Viewed.{shared}
use Rattle.mal_parcel.proofs.following.variables_of.Given as goal

abbrev pub invariant-loop-revision : goal.invariant-loop-revision
invariant-loop-revision l = record {
  value : fold (λ (v : ℕ) (p : Posted). max v p.variables) l.variables (shared (drop l.revision-index l.revisions)) ≡ variables_of (shared l.revisions);
  bound : l.variables ≤ limits.variables;
}
