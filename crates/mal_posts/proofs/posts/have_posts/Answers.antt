use Rattle.std.proofs.Common.{◌<◌, ◌≤◌, length, arith, sym, ◌∙◌}
use Rattle.mal_posts.proofs.TenantLemmas.{posted-all, posted-more, test-false, test-true, unknown-not}
use Rattle.mal_posts.proofs.posts.have_posts.Goals as goal

pub returns-then-not-are_known : goal.returns-then-not-are_known
returns-then-not-are_known c =
    let names = rw c.jobs.ensures.jobs at c.in_ok-tenants.ensures in
    test-false (unknown-not c.args.script.now c.deref.result.now c.args.events.now (c.deref.ensures.value ∙ names) (sym c.are_known.ensures ∙ c.if-not-are_known.true))

pub loop-tenant-preserved : goal.loop-tenant-preserved
loop-tenant-preserved c =
    let low : c.loop-tenant.tenant-index < length c.as_slice-tenant-items.result.now = omega arith in
    posted-more c.args.script.now c.args.events.now c.as_slice-tenant-items.result.now c.loop-tenant.tenant-index c.tenant-item.result c.loop-tenant.invariant low c.tenant-item.is (c.has_posts.ensures.0 c.if-not-has_posts.false)

pub returns : goal.returns
returns c =
    let names = rw c.jobs.ensures.jobs at c.in_ok-tenants.ensures in
    let known = rw c.deref.ensures.value at (sym c.are_known.ensures ∙ c.if-not-are_known.false) in
    let all : length c.as_slice-tenant-items.result.now ≤ c.loop-tenant.tenant-index = omega arith in
    test-true (posted-all c.args.script.now c.args.events.now c.in_ok-tenants.tenants.items c.loop-tenant.tenant-index names known (rw c.as_slice-tenant-items.ensures.value at c.loop-tenant.invariant) (rw c.as_slice-tenant-items.ensures.value at all))
