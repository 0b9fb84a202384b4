use Rattle.std.proofs.Common.{◌≡◌, take}
use Rattle.spec_script.specs.Formed.{tenants_of}
use Rattle.mal_posts.proofs.posts.tenants_of.Given as goal

abbrev pub invariant-loop-job : goal.invariant-loop-job
invariant-loop-job l = l.tenants.items ≡ tenants_of (take l.job-index l.jobs)
