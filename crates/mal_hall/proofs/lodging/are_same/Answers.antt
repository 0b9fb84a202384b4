use Rattle.std.proofs.Common.{◌≡◌, ℕ, zero, suc, ◌<◌, List, [], ◌∷◌, length, get_or, sym, ◌∙◌, ap, arith}
use Rattle.std.specs.Arc.{arc_value}
use Rattle.std.specs.declared.sync.Arc.{Arc}
use Rattle.mal_history.specs.declared.event.Share.{Share}
use Rattle.mal_history.specs.Shared.{shared}
use Rattle.mal_hall.proofs.lodging.are_same.Goals as goal

-- where what is shared is the same, it is the same at each place
same-at : {Z : Type 0} (xs ys : List (Arc Share Z)) (n : ℕ) (x y : Arc Share Z) → n < length xs → x ≡ get_or xs n x → y ≡ get_or ys n y → shared xs ≡ shared ys → arc_value x ≡ arc_value y
same-at {Z} [] ys n x y within p q e = absurd (omega (arith, within))
same-at {Z} (a ∷ xs) [] n x y within p q e = absurd (cc)
same-at {Z} (a ∷ xs) (b ∷ ys) zero x y within p q e =
    let head : arc_value a ≡ arc_value b = cc in
    ap (λ (z : Arc Share Z). arc_value z) p ∙ (head ∙ sym (ap (λ (z : Arc Share Z). arc_value z) q))
same-at {Z} (a ∷ xs) (b ∷ ys) (suc n) x y within p q e =
    let tail : shared xs ≡ shared ys = cc in
    same-at xs ys n x y (omega (arith, within)) p q tail

pub returns-then-not-is_same : goal.returns-then-not-is_same
returns-then-not-is_same c =
    let differ = c.is_same.ensures in (
      (λ t. absurd (cc)),
      λ e. rw c.if-not-is_same.true at (differ.1 (c.deref.ensures ∙ (same-at c.args.shares.now c.args.others.now c.loop-i.i c.index-shares-i.result c.index-others-i.result (omega arith) c.index-shares-i.is c.index-others-i.is e ∙ sym c.deref-in-loop-i.ensures))),
    )
