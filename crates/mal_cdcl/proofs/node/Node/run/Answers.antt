use Rattle.std.proofs.Common.{◌≡◌, suc, ◌+◌, ◌-◌, ap, ◌∙◌, arith}
use Rattle.spec_search.specs.Slice.{slice}
use Rattle.mal_cdcl.specs.Within.{NodeWithRoom}
use Rattle.mal_cdcl.proofs.SliceLemmas.{IsSlicing, slicing-next, slicing-ids, slicing-over, slicing-done}
use Rattle.mal_cdcl.proofs.node.Node.run.Goals as goal

pub returns-in-None-clause-node : goal.returns-in-None-clause-node
unfolding slice
returns-in-None-clause-node g c =
    let ended = c.in-None.ensures.step in
    ap (λ (s : NodeWithRoom). s.state) ended.same ∙ (slicing-over (1000 - c.loop-made._made) c.loop-made.used c.args.self.now c.loop-made.self ended.over c.loop-made.invariant.slicing).node

pub returns-in-None-clause-lines : goal.returns-in-None-clause-lines
unfolding slice
returns-in-None-clause-lines g c =
    let ended = c.in-None.ensures.step in
    ap (λ (s : NodeWithRoom). s.lines) ended.same ∙ (slicing-over (1000 - c.loop-made._made) c.loop-made.used c.args.self.now c.loop-made.self ended.over c.loop-made.invariant.slicing).lines

pub step-requires-clause-ids : goal.step-requires-clause-ids
step-requires-clause-ids g c = slicing-ids (1000 - c.loop-made._made) c.loop-made.used c.args.self.now c.loop-made.self c.args.scratch.now c.loop-made.scratch c.loop-made.invariant.slicing c.loop-made.invariant.ids c.requires.ids

pub loop-made-preserved : goal.loop-made-preserved
loop-made-preserved g c =
    let left : 1000 - c.loop-made._made ≡ suc (1000 - (c.loop-made._made + 1)) = omega arith in
    let inv : IsSlicing (suc (1000 - (c.loop-made._made + 1))) c.loop-made.used c.args.self.now c.loop-made.self = rw left at c.loop-made.invariant.slicing in
    record {
      slicing = slicing-next (1000 - (c.loop-made._made + 1)) c.loop-made.used c.in-Some.now c.args.self.now c.loop-made.self c.step.new.self inv c.in-Some.ensures.step;
      bound = c.step.ensures.room ∙ c.loop-made.invariant.bound;
      ids = c.step.ensures.id_room ∙ c.loop-made.invariant.ids;
      made = omega arith;
    }

pub returns-clause-node : goal.returns-clause-node
unfolding slice
returns-clause-node g c = (slicing-done (1000 - c.loop-made._made) c.loop-made.used c.args.self.now c.loop-made.self (omega arith) c.loop-made.invariant.slicing).node

pub returns-clause-lines : goal.returns-clause-lines
unfolding slice
returns-clause-lines g c = (slicing-done (1000 - c.loop-made._made) c.loop-made.used c.args.self.now c.loop-made.self (omega arith) c.loop-made.invariant.slicing).lines
