use Rattle.std.proofs.Common.{ap, length, List, Option, ℕ, arith}
use Rattle.mal_node_tests.proofs.GoingLemmas.{run-first}
use Rattle.mal_node_tests.proofs.tests.going.loaded.Goals as goal

pub returns : goal.returns
returns g c =
    let same = ap (λ (xs : List (Option (List ℕ))). length xs) c.clauses.ensures.value in
    rw (c.in_ok-ready.ensures.loaded, c.fresh-node.ensures) (run-first c.args.revision.now c.clauses.ensures.form (omega (arith, same, c.len.ensures, c.if-len-gt1000.false)))
