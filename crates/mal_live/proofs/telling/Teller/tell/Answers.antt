use Rattle.std.proofs.Common.{◌≡◌, ◌+◌, ◌-◌, cond, Some, ap, ◌∙◌}
use Rattle.std.specs.BTreeMap as tree
use Rattle.mal_base.specs.declared.key.Key.{Key}
use Rattle.mal_live.specs.Telling.{key_cmp, told_at}
use Rattle.mal_live.proofs.Counting.{told-once}
use Rattle.mal_live.proofs.telling.Teller.tell.Goals as goal

pub returns-clause-counts : goal.returns-clause-counts
returns-clause-counts g c =
    let stood : (q : Key) → tree.get key_cmp c.insert.new.self q ≡ cond (tree.is_at (key_cmp c.again-2.result) q) (Some (c.in-Some.count - 1)) (tree.get key_cmp c.args.self.now.counts q) = c.in-Ok.ensures.updates.0 in
    let stands : (q : Key) → tree.get key_cmp c.insert.new.self q ≡ cond (tree.is_at (key_cmp c.args.key) q) (Some (c.in-Some.count - 1)) (tree.get key_cmp c.args.self.now.counts q) = rw c.again-2.ensures at stood in
    told-once c.args.self.now.counts c.insert.new.self c.insert-2.new.self c.args.key c.in-Some.count (c.in-Some.ensures ∙ ap (λ (k : Key). told_at c.args.self.now k + 1) c.again.ensures) stands c.in-Ok-insert.ensures.updates.0
