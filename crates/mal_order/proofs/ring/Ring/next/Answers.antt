use Rattle.std.proofs.Common.{◌≡◌, ◌<◌, ◌∷◌, length, get_or, ap, ◌∙◌}
use Rattle.mal_order.specs.Rings.{link, walk}
use Rattle.mal_order.proofs.RingLemmas.{next-leads, next-last}
use Rattle.mal_order.proofs.ring.Ring.next.Goals as goal

pub returns-clause-within : goal.returns-clause-within
returns-clause-within c p h l =
    let r = c.self.inside in
    let list = walk r.after.numbers 0 r.count in
    let number : c.args.number ≡ get_or (0 ∷ list) p 0 = rw (← c.self.view_is) at h in
    let low : p < length list = rw (← c.self.view_is) at l in
    let t = next-leads r.after.numbers r.before.numbers 0 0 (length r.after.numbers) list p c.self.invariant.leads c.self.invariant.placed low in
    let same : c.get.result ≡ get_or list p 0 = c.get.ensures ∙ (ap (λ k. link r.after.numbers k) number ∙ t.0) in
    rw (← c.self.view_is) (same, rw same t.1, rw same t.2)

pub returns-clause-last : goal.returns-clause-last
returns-clause-last c h =
    let r = c.self.inside in
    let list = walk r.after.numbers 0 r.count in
    let number : c.args.number ≡ get_or (0 ∷ list) (length list) 0 = rw (← c.self.view_is) at h in
    c.get.ensures ∙ (ap (λ k. link r.after.numbers k) number ∙ next-last r.after.numbers r.before.numbers 0 0 list c.self.invariant.leads)

pub returns-clause-others : goal.returns-clause-others
returns-clause-others c n a = c.get.ensures ∙ c.self.invariant.others c.args.number n (rw (← c.self.view_is) at a)
