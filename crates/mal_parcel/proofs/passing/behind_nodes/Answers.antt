use Rattle.std.proofs.Common.{sym, ◌∙◌}
use Rattle.mal_parcel.specs.Taking.{behind_node}
use Rattle.mal_parcel.proofs.TakeLemmas.{each-none, each-next}
use Rattle.mal_parcel.proofs.passing.behind_nodes.Goals as goal

pub returns-in_err-rest : goal.returns-in_err-rest
returns-in_err-rest c = rw c.from_residual.ensures (sym (each-none behind_node c.args.count c.loop.counter c.loop.rest.now c.loop-test.true (sym c.in_err-rest.ensures)) ∙ c.loop.invariant)

pub loop-preserved : goal.loop-preserved
loop-preserved c = sym (each-next behind_node c.args.count c.loop.counter c.loop.rest.now c.in_ok-rest.rest.now c.loop-test.true (sym c.in_ok-rest.ensures)) ∙ c.loop.invariant
