use Rattle.std.proofs.Common.{List, ℕ, subst}
use Rattle.std.proofs.lemmas.Result.{IfOk-weaker}
use Rattle.mal_base.specs.Clauses.{clash}
use Rattle.mal_base.proofs.Tautologies.{rises-from_sorted}
use Rattle.mal_revision.proofs.Refusals.{within-same}
use Rattle.spec_script.specs.Assumptions.{consistent}
use Rattle.spec_script.proofs.Sorted.{sorted-unique}
use Rattle.mal_script.specs.ReadResult.{GivesAssumed}
use Rattle.mal_script.proofs.assuming.assumptions_in.Goals as goal

pub returns-clause-value : goal.returns-clause-value
returns-clause-value c =
    let same = rw c.as_slice.ensures.value at c.in_ok-sorted.ensures.same in
    let lits = c.in_ok-lits.lits.items in
    let ordered = c.in_ok-sorted.sorted.items in
    rw (c.in_ok-lits.ensures.value) (subst (λ (ls : List ℕ). GivesAssumed (λ v. v.items) c.consistent.result (consistent ls (clash ls))) (sorted-unique lits ordered c.in_ok-sorted.ensures.rising same) c.consistent.ensures.value)

pub returns-clause-rising : goal.returns-clause-rising
returns-clause-rising c =
    IfOk-weaker c.consistent.result _ _ (λ v h. rw h.0 (rises-from_sorted c.in_ok-sorted.sorted.items c.in_ok-sorted.ensures.rising h.1)) c.consistent.ensures.same

pub returns-clause-within : goal.returns-clause-within
returns-clause-within c =
    let same = rw c.as_slice.ensures.value at c.in_ok-sorted.ensures.same in
    IfOk-weaker c.consistent.result _ _ (λ v h. rw h.0 (within-same c.args.variables c.in_ok-lits.lits.items c.in_ok-sorted.sorted.items same c.in_ok-lits.ensures.within)) c.consistent.ensures.same
