use Rattle.std.proofs.Common.{◌≡◌, ℕ, ◌+◌, ◌++◌, ◌∙◌, Bool, false, List, length, replicate, ap, append_assoc, length-append, arith}
use Rattle.std.proofs.lemmas.List.{length-replicate, replicate-append-replicate}
use Rattle.mal_heap.proofs.heap.Heap.grow_reserved.Goals as goal

pub push_reserved-requires-clause-few : goal.push_reserved-requires-clause-few
push_reserved-requires-clause-few c =
    let inv = c.loop-grown.invariant in
    let k = c.loop-grown._grown in
    let long : length c.loop-grown.self.activities ≡ length c.args.self.now.activities + k = ap length inv.activities ∙ (length-append c.args.self.now.activities (replicate k 0) ∙ ap (λ (n : ℕ). length c.args.self.now.activities + n) (length-replicate k 0)) in
    omega (arith, long, c.requires.few)

pub loop-grown-preserved : goal.loop-grown-preserved
loop-grown-preserved c =
    let inv = c.loop-grown.invariant in
    let k = c.loop-grown._grown in
    let s = c.push_reserved.ensures in
    record {
      index = s.index ∙ inv.index;
      activities = s.activities ∙ (ap (λ (xs : List ℕ). xs ++ replicate 1 0) inv.activities ∙ (append_assoc c.args.self.now.activities (replicate k 0) (replicate 1 0) ∙ ap (λ (xs : List ℕ). c.args.self.now.activities ++ xs) (replicate-append-replicate k 1 0)));
      inside = s.inside ∙ (ap (λ (xs : List Bool). xs ++ replicate 1 false) inv.inside ∙ (append_assoc c.args.self.now.inside (replicate k false) (replicate 1 false) ∙ ap (λ (xs : List Bool). c.args.self.now.inside ++ xs) (replicate-append-replicate k 1 false)));
      room = omega (arith, s.room, inv.room);
    }
