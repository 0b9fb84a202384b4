use Rattle.std.proofs.Common.{◌≡◌, ℕ, ◌+◌, ◌∙◌, refl, ap, drop, arith}
use Rattle.mal_base.specs.Literals.{var_of}
use Rattle.spec_learn.specs.Analysis.{vars_in}
use Rattle.spec_learn.specs.Order.{moved}
use Rattle.mal_cdcl.proofs.BumpLemmas.{vars-drop, are_in-head, are_in-moved}
use Rattle.mal_cdcl.proofs.learning.bump_all.Goals as goal

pub bump-requires : goal.bump-requires
bump-requires c =
    let split = vars-drop c.args.lits.now c.loop-lit.lit-index c.lit-item.result c.lit-item.result (omega arith) c.lit-item.is in
    rw c.var.ensures.value (are_in-head (var_of c.lit-item.result) (vars_in (drop (c.loop-lit.lit-index + 1) c.args.lits.now)) c.loop-lit.order.list (rw split at c.loop-lit.invariant.has))

pub loop-lit-preserved : goal.loop-lit-preserved
loop-lit-preserved c =
    let inv = c.loop-lit.invariant in
    let split = vars-drop c.args.lits.now c.loop-lit.lit-index c.lit-item.result c.lit-item.result (omega arith) c.lit-item.is in
    let listed : c.bump.new.self.list ≡ moved (var_of c.lit-item.result) c.loop-lit.order.list = c.bump.ensures.list ∙ ap (λ (v : ℕ). moved v c.loop-lit.order.list) c.var.ensures.value in
    record {
      index_is = c.bump.ensures.index ∙ inv.index_is;
      room_is = c.bump.ensures.room ∙ inv.room_is;
      done = rw listed (rw split at inv.done);
      passed = λ p h. rw c.bump.ensures.passed refl;
      has = rw listed (are_in-moved (var_of c.lit-item.result) (vars_in (drop (c.loop-lit.lit-index + 1) c.args.lits.now)) c.loop-lit.order.list (rw split at inv.has));
    }
