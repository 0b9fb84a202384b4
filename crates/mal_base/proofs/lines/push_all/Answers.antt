use Rattle.std.proofs.Common.{◌≡◌, ◌∙◌, ℕ, ◌+◌, ◌<◌, List, [], ◌∷◌, ◌++◌, length, take, get_or, append_assoc, arith}
use Rattle.std.proofs.lemmas.List.{take_more}
use Rattle.mal_base.proofs.lines.push_all.Goals as goal

-- one item more of those that are put after the others
one-more : {X : Type 0} (before all now more : List X) (x : X) (i : ℕ) → i < length more → x ≡ get_or more i x → all ≡ before ++ take i more → now ≡ all ++ x ∷ [] → now ≡ before ++ take (i + 1) more
one-more before all now more x i less is e f =
    let step : take (i + 1) more ≡ take i more ++ get_or more i x ∷ [] = take_more more i x less in
    let same : (before ++ take i more) ++ x ∷ [] ≡ before ++ (take i more ++ x ∷ []) = append_assoc before (take i more) (x ∷ []) in
    cc

pub loop-item-preserved : goal.loop-item-preserved
loop-item-preserved g c = record {
  items = one-more c.args.all.now.items c.loop-item.all.items c.push_reserved.new.self.items c.args.more.now c.item-item.result c.loop-item.item-index c.loop-item-test.true c.item-item.is c.loop-item.invariant.items c.push_reserved.ensures.items;
  len = let before = c.loop-item.invariant.len in let after = c.push_reserved.ensures.len in omega arith;
  capacity = c.push_reserved.ensures.capacity ∙ c.loop-item.invariant.capacity;
}
