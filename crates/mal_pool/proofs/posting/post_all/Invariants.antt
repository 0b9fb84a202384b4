use Rattle.std.proofs.Common.{◌≡◌, [], length}
use Rattle.mal_pool.proofs.Postings.{HasSoFar}
use Rattle.mal_posts.specs.Dues.{due, left_in}
use Rattle.mal_pool.proofs.posting.post_all.Given as goal

abbrev pub invariant-loop-due : goal.invariant-loop-due
invariant-loop-due g l = record {
  of : g.B.Desk.is_of l.board l.pass;
  openings : l.cursor.openings ≡ [];
  jobs : l.cursor.jobs ≡ l.jobs;
  left : due l.cursor ≡ left_in l.jobs l.left;
  calls : HasSoFar l.fn.tenant l.jobs (due l.cursor) (g.B.Desk.calls l.fn.pass) (g.B.Desk.calls l.pass);
}

abbrev pub decreases-loop-due : goal.decreases-loop-due
decreases-loop-due g l = length (due l.cursor)
