use Rattle.std.proofs.Common.{◌≡◌, drop}
use Rattle.mal_posts.specs.Dues.{of_tenant}
use Rattle.mal_posts.proofs.cursor.place_of.Given as goal

abbrev pub invariant-loop-place : goal.invariant-loop-place
invariant-loop-place l = of_tenant l.tenant (drop l.from l.jobs) ≡ of_tenant l.tenant (drop l.place l.jobs)
