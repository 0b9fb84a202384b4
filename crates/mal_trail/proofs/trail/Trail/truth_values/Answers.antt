use Rattle.std.proofs.Common.{ℕ, Bool, true, arith, ◌∙◌}
use Rattle.mal_base.specs.Literals.{literal}
use Rattle.spec_node.specs.Value.{is_true}
use Rattle.mal_trail.proofs.ValueLemmas.{values_next}
use Rattle.mal_trail.proofs.trail.Trail.truth_values.Goals as goal

pub loop-place-preserved : goal.loop-place-preserved
loop-place-preserved c =
    let f : ℕ → Bool = λ v. is_true c.args.self.now.entries (literal v true) in
    record {
      done = rw (c.push_reserved.ensures.items, c.is_true.ensures, c.literal.ensures, c.of.ensures) (values_next f c.loop-place.values.items c.args.variables c.loop-place.place (omega arith) ∙ c.loop-place.invariant.done);
      len = omega (arith, c.push_reserved.ensures.len, c.loop-place.invariant.len);
      room = omega (arith, c.push_reserved.ensures.capacity, c.loop-place.invariant.room);
    }
