use Rattle.std.proofs.Common.{ℕ, subst}
use Rattle.mal_hall.specs.Desks.{HasPosted}
use Rattle.mal_service.proofs.PostLemmas.{post_noted}
use Rattle.mal_service.proofs.noted.NotedHall.post.Goals as goal

pub returns : goal.returns
returns g c =
    let past = c.args.self.now.hall.events in
    let now = c.post-answer.new.self.events in
    let called = subst (λ (w : ℕ). HasPosted w past c.args.post c.post-answer.result now) c.args.self.now.workers c.post-answer.ensures.call in
    rw c.of-2.ensures (rw c.of-posted.ensures (rw c.of.ensures (rw c.of-before.ensures (post_noted g.S.Size.workers past now c.args.post c.post-answer.result called))))
