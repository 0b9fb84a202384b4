use Rattle.std.proofs.Common.{List, sym, subst}
use Rattle.mal_suspend.specs.Counting.{AreCounts}
use Rattle.mal_suspend.specs.declared.entry.Counted.{Counted}
use Rattle.mal_suspend.proofs.EntryLemmas.{counts-with}
use Rattle.mal_suspend.proofs.listed.Listed.push.Goals as goal

pub invariant_of-self-2 : goal.invariant_of-self-2
invariant_of-self-2 c =
    let last : Counted = record { slices = c.args.slices; entry = c.args.entry } in
    subst (λ (cs : List Counted). AreCounts cs c.in_ok-loads.loads c.variables_with-variables.result) (sym c.in_ok-push.ensures.items) (counts-with c.self.inside.counted.items last c.self.inside.loads c.self.inside.variables c.in_ok-loads.loads c.variables_with-variables.result c.self.invariant c.in_ok-loads.ensures c.variables_with-variables.ensures)
