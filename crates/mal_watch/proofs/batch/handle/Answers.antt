use Rattle.std.proofs.Common.{◌+◌, drop, sym, ap, ◌∙◌}
use Rattle.spec_node.specs.Batch.{Progress}
use Rattle.mal_watch.specs.Finding.{after_found}
use Rattle.mal_watch.proofs.BatchLemmas.{after_found-next, after_found-ended}
use Rattle.mal_watch.proofs.batch.handle.Goals as goal

pub returns-in-Some-clause-progress : goal.returns-in-Some-clause-progress
returns-in-Some-clause-progress c =
    let inv = c.loop-next.invariant in
    let rest = drop (c.loop-next.next-index + 1) c.args.found.now in
    sym inv.progress ∙ (after_found-next c.loop-next.trail.entries c.args.found.now c.loop-next.next-index c.next-item.result c.loop-next-test.true c.next-item.is ∙ (ap (λ (p : Progress). after_found p rest) c.in-Some.ensures.progress ∙ after_found-ended c.handle_literal.new.trail.entries c.in-Some.id rest))
