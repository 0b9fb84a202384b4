use Rattle.std.proofs.Common.{ℕ, List, [], ◌∷◌, Option, length, ap, subst, arith}
use Rattle.mal_base.specs.declared.profile.Profile.TheVariants.{Plain}
use Rattle.mal_revision.specs.Posted.{Posted}
use Rattle.spec_job.specs.Journal.{Load, Run, replay}
use Rattle.mal_suspend.specs.Replaying.{MayAllReplay}
use Rattle.mal_node_tests.proofs.FirstLemmas.{first-may}
use Rattle.mal_node_tests.proofs.tests.suspend_lease.loads_of.Goals as goal

pub returns : goal.returns
returns c =
    let same = ap (λ (xs : List (Option (List ℕ))). length xs) c.clauses.ensures.value in
    let may = first-may 0 c.deref.result.now (omega arith) c.clauses.ensures.form (omega (arith, same, c.len.ensures, c.if-len-gt1000.false)) in
    rw c.in_ok-loads.ensures.items (subst (λ (r : Posted). MayAllReplay (replay Plain 0 []) (Load r 1 ∷ Run ∷ [])) c.deref.ensures may)
