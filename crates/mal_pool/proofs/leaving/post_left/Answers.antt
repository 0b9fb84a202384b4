use Rattle.std.proofs.Common.{◌+◌, ◌∙◌, List, drop, get_or, flat_map}
use Rattle.mal_hall.specs.declared.desk.Post.{Post}
use Rattle.mal_posts.specs.declared.cursor.Left.{Left}
use Rattle.mal_pool.specs.Runs.{left_by}
use Rattle.mal_pool.proofs.Refused.{more-posted, parts-one, refused-first, refused-later}
use Rattle.mal_pool.proofs.leaving.post_left.Goals as goal

-- what stands for the item where there is none
abbrev no_left : Left
no_left = record { job = 0; posted = 0 }

pub returns-then-not-branch-clause-refused : goal.returns-then-not-branch-clause-refused
returns-then-not-branch-clause-refused c = λ _.
    let here : List Post = left_by c.args.jobs.now (get_or c.args.left.now c.loop-one.one-index no_left) in
    let rest : List Post = flat_map (left_by c.args.jobs.now) (drop (c.loop-one.one-index + 1) c.args.left.now) in
    let is = parts-one (left_by c.args.jobs.now) c.args.left.now c.loop-one.one-index no_left c.loop-one-test.true in
    c.loop-one.invariant.refused (refused-first c.loop-one.hall.workers c.loop-one.hall.events _ here rest is (c.in_ok-post_from.ensures.refused c.if-not-branch.true))

pub loop-one-preserved : goal.loop-one-preserved
loop-one-preserved c =
    let here : List Post = left_by c.args.jobs.now (get_or c.args.left.now c.loop-one.one-index no_left) in
    let rest : List Post = flat_map (left_by c.args.jobs.now) (drop (c.loop-one.one-index + 1) c.args.left.now) in
    let is = parts-one (left_by c.args.jobs.now) c.args.left.now c.loop-one.one-index no_left c.loop-one-test.true in
    let now = c.in_ok-post_from.ensures.events c.if-not-branch.false in
    record {
      workers = c.in_ok-post_from.ensures.workers ∙ c.loop-one.invariant.workers;
      events = more-posted c.loop-one.hall.events c.post_from.new.hall.events _ _ here rest is now c.loop-one.invariant.events;
      refused = λ r. c.loop-one.invariant.refused (refused-later c.post_from.new.hall.workers c.loop-one.hall.workers c.loop-one.hall.events c.post_from.new.hall.events _ here rest is c.in_ok-post_from.ensures.workers now r);
    }
