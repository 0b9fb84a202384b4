use Rattle.std.proofs.Common.{◌≡◌, ◌+◌, List, [], ◌∷◌, ◌++◌, length, sym, ◌∙◌, ap, subst, arith, length-append}
use Rattle.mal_job.specs.Viewed.{PlaceView}
use Rattle.mal_job.specs.Placing.{fresh_place, IsGrown}
use Rattle.mal_job.proofs.PlaceLemmas.{grown-push}
use Rattle.mal_job.proofs.tree.grow.Goals as goal

pub loop-index-preserved : goal.loop-index-preserved
loop-index-preserved c =
    let items : c.push_reserved.new.self.items ≡ c.loop-index.places.items ++ fresh_place c.args.number c.args.profile c.loop-index.index ∷ [] = c.push_reserved.ensures.items ∙ ap (λ (p : PlaceView). c.loop-index.places.items ++ p ∷ []) c.fresh.ensures in
    let long : length c.push_reserved.new.self.items ≡ length c.loop-index.places.items + 1 = ap (λ (ps : List PlaceView). length ps) items ∙ length-append c.loop-index.places.items (fresh_place c.args.number c.args.profile c.loop-index.index ∷ []) in
    record {
      grown = subst (λ (ps : List PlaceView). IsGrown c.args.number c.args.profile c.args.places.now.items ps) (sym items) (grown-push c.args.number c.args.profile c.args.places.now.items c.loop-index.places.items c.loop-index.index c.loop-index.invariant.grown c.loop-index.invariant.len);
      len = omega (arith, long, c.loop-index.invariant.len);
      few = omega (arith, long, c.loop-index.invariant.len, c.loop-index-test.true, c.requires.count);
      room = omega (arith, c.push_reserved.ensures.capacity, c.loop-index.invariant.room);
    }
