use Rattle.std.proofs.Common.{reverse, subst}
use Rattle.mal_learn.specs.Shown.{HasLeft}
use Rattle.mal_learn.proofs.ProfileLemmas.{learned-shorter, learned-longer}
use Rattle.mal_learn.proofs.profile.analyse_in.Goals as goal

pub returns-then-policy : goal.returns-then-policy
returns-then-policy g c =
    subst (λ a. HasLeft a c.args.scratch.now c.analyse_shorter.new.scratch) (learned-shorter c.policy.result c.args.profile (g.C.ClauseView.clauses c.args.clauses.now) (reverse (g.T.TrailView.entries c.args.trail.now)) c.args.conflict c.policy.ensures c.if-policy.true) c.analyse_shorter.ensures

pub returns-else-policy : goal.returns-else-policy
returns-else-policy g c =
    subst (λ a. HasLeft a c.args.scratch.now c.analyse.new.scratch) (learned-longer c.policy.result c.args.profile (g.C.ClauseView.clauses c.args.clauses.now) (reverse (g.T.TrailView.entries c.args.trail.now)) c.args.conflict c.policy.ensures c.if-policy.false) c.analyse.ensures
