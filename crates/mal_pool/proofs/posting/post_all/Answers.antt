use Rattle.std.proofs.Common.{List, ◌∙◌, ap}
use Rattle.mal_pool.proofs.Postings.{due-others, posted-more, was-hindered}
use Rattle.mal_pool.proofs.posting.post_all.Goals as goal
use Rattle.mal_posts.specs.Dues.{due, event_of, left_in}
use Rattle.spec_script.specs.Script.{ScriptedJob}

pub loop-due-preserved : goal.loop-due-preserved
loop-due-preserved g c =
    let was = c.loop-due.invariant in
    let none = c.in-Some.ensures.opened was.openings in
    let jobs = c.in-Some.ensures.jobs ∙ was.jobs in
    record {
      of = c.post_due-back.ensures.of;
      openings = none;
      jobs = jobs;
      left = due-others c.next.new.self none ∙ (c.left-left-in-Some.ensures ∙ ap (λ (js : List ScriptedJob). left_in js c.left-left-in-Some.result) jobs);
      calls = posted-more c.args.tenant c.args.jobs.now (event_of c.in-Some.due) (due c.loop-due.cursor) (due c.next.new.self) (g.B.Desk.calls c.args.pass) (g.B.Desk.calls c.loop-due.pass) (g.B.Desk.calls c.post_due-back.result.0) was.calls c.in-Some.ensures.due (rw c.in-Ok.is at c.post_due-back.ensures.taken);
    }

pub returns-in-Err-clause-calls : goal.returns-in-Err-clause-calls
returns-in-Err-clause-calls g c =
    let was = c.loop-due.invariant in
    was-hindered c.args.tenant c.args.jobs.now c.loop-due.left c.in-Err.by (event_of c.in-Some.due) (due c.loop-due.cursor) (due c.next.new.self) (g.B.Desk.calls c.args.pass) (g.B.Desk.calls c.loop-due.pass) (g.B.Desk.calls c.post_due-back.result.0) was.calls was.left c.in-Some.ensures.due (rw c.in-Err.is at c.post_due-back.ensures.hindered)
