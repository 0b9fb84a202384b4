use Rattle.std.proofs.Common.{◌∙◌, subst, sym}
use Rattle.std.proofs.lemmas.Bool.{both_ways}
use Rattle.spec_run.specs.PostLines.{HavePosts}
use Rattle.mal_pool.specs.Testing.{HaveContents}
use Rattle.mal_pool.proofs.Agreements.{have-posts, moves-told}
use Rattle.mal_pool.proofs.testing.has_posts.Goals as goal

pub returns-clause-posts : goal.returns-clause-posts
returns-clause-posts c = λ e.
    let posts = (rw c.events.ensures at c.in_ok-have_posts.ensures).0 c.if-not-branch.false in
    let stay = moves-told c.args.hall.now.events _ _ c.history-history.ensures.events c.has_moved.ensures ∙ c.if-has_moved.false in
    have-posts c.args.hall.now.workers c.args.script.now c.args.hall.now.events c.history-history.ensures.legal stay (subst (HavePosts c.args.script.now) c.history-history.ensures.events posts) (subst (HaveContents c.args.hall.now.events) c.jobs.ensures.jobs (c.have_contents.ensures.0 e))

pub returns-clause-exact : goal.returns-clause-exact
returns-clause-exact c =
    let posts = (rw c.events.ensures at c.in_ok-have_posts.ensures).0 c.if-not-branch.false in
    let stay = moves-told c.args.hall.now.events _ _ c.history-history.ensures.events c.has_moved.ensures ∙ c.if-has_moved.false in (
      λ e. (subst (HavePosts c.args.script.now) c.history-history.ensures.events posts, stay, subst (HaveContents c.args.hall.now.events) c.jobs.ensures.jobs (c.have_contents.ensures.0 e)),
      λ t. c.have_contents.ensures.1 (subst (HaveContents c.args.hall.now.events) (sym c.jobs.ensures.jobs) t.2),
    )

pub returns-then-not-branch-clause-exact : goal.returns-then-not-branch-clause-exact
returns-then-not-branch-clause-exact c = (
  λ e. absurd (cc),
  λ t.
      let posts = (rw c.events.ensures at c.in_ok-have_posts.ensures).1 (subst (HavePosts c.args.script.now) (sym c.history-history.ensures.events) t.0) in
      absurd (cc),
)

pub returns-then-has_moved-clause-exact : goal.returns-then-has_moved-clause-exact
returns-then-has_moved-clause-exact c = (
  λ e. absurd (cc),
  λ t. absurd (both_ways _ t.1 (moves-told c.args.hall.now.events _ _ c.history-history.ensures.events c.has_moved.ensures ∙ c.if-has_moved.true)),
)
