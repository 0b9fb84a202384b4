use Rattle.std.proofs.Common.{length, arith}
use Rattle.std.proofs.lemmas.List.{length-append}
use Rattle.std.specs.Prelude.{◌++◌}
use Rattle.mal_store.proofs.HeaderLemmas.{headers-more, headers-wider}
use Rattle.mal_store.proofs.clause_arena.body_of.Goals as goal

pub returns-in_default-clause-headers : goal.returns-in_default-clause-headers
returns-in_default-clause-headers c =
    let old = c.args.literals.now.items in
    let lits = c.args.lits.now in
    λ rs w. rw c.append_reserved.ensures.items (headers-wider (length old) (length (old ++ lits)) rs (omega (arith, length-append old lits)) w, headers-more old lits rs w)
