use Rattle.std.proofs.Common.{◌≡◌, Bool, true, false, List, [], Option, Some, None, refl, sym, subst, if◌then◌else◌}
use Rattle.std.specs.Prelude.{IfSome}
use Rattle.mal_base.specs.NumberedClause.{Line}
use Rattle.spec_node.specs.State.{Node}
use Rattle.spec_solving.specs.Holding.{Serves}
use Rattle.spec_solving.proofs.ServingLemmas.{fresh-serves}
use Rattle.mal_solving.proofs.kernel.Kernel.new.Goals as goal

pub invariant_of-result : goal.invariant_of-result
invariant_of-result c = record {
  log = [];
  serves = subst (λ (n : Node). Serves [] [] n) (sym c.fresh_with.ensures) (fresh-serves c.args.profile);
  counted = refl;
  same = subst (λ (kept : Option (List Line)). IfSome kept (λ (lines : List Line). lines ≡ [])) (sym c.empty_log.ensures) (by_word c.args.proving);
}
  where
    by_word : (b : Bool) → IfSome (if b then Some [] else None) (λ (lines : List Line). lines ≡ [])
    by_word true = refl
    by_word false = tt
