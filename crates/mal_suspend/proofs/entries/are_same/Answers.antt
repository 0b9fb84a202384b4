use Rattle.std.proofs.Common.{◌≡◌, length, sym, ◌∙◌, arith}
use Rattle.mal_suspend.proofs.EntryLemmas.{differ, same-at, same-long}
use Rattle.mal_suspend.proofs.entries.are_same.Goals as goal

pub returns-then-not-same : goal.returns-then-not-same
returns-then-not-same c = (
  λ h. differ h,
  λ same.
      let long : length c.args.counted.now ≡ length c.args.others.now = same-long c.args.counted.now c.args.others.now same in
      let at = same-at c.args.counted.now c.args.others.now c.loop-i.i c.index-counted-i.result c.index-others-i.result c.index-counted-i.result c.index-others-i.result (omega (arith, c.loop-i-test.true)) (omega (arith, long, c.loop-i-test.true)) c.index-counted-i.is c.index-others-i.is same in
      sym c.if-not-same.true ∙ c.same.ensures.1 at,
)
