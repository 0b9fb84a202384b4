use Rattle.std.proofs.Common.{take}
use Rattle.mal_posts.proofs.TenantLemmas.{HavePosted}
use Rattle.mal_posts.proofs.posts.have_posts.Given as goal

abbrev pub invariant-loop-tenant : goal.invariant-loop-tenant
invariant-loop-tenant l = HavePosted l.script l.events (take l.tenant-index l.tenant-items)
