use Rattle.std.proofs.Common.{ℕ, List, ◌++◌, take, ap, sym, ◌∙◌}
use Rattle.mal_io.proofs.Gains.{gains_more, prefix_grows}
use Rattle.mal_io.proofs.whole.write_all.Goals as goal

pub pieces-preserved : goal.pieces-preserved
pieces-preserved g c =
    let gained = c.pieces.invariant.gained in
    let piece = take c.in-Ok.count c.pieces.rest.now in
    record {
      gained = (
        gained.0 ++ piece,
        prefix_grows c.args.bytes.now gained.0 c.pieces.rest.now c.in-Ok.count gained.1 ∙ ap (λ (left : List ℕ). (gained.0 ++ piece) ++ left) (sym c.split_at.ensures.back),
        gains_more _ _ _ gained.0 piece gained.2 c.in-Ok.ensures.bytes,
      );
      counted = c.in-Ok.ensures.counted ∙ c.pieces.invariant.counted;
    }
