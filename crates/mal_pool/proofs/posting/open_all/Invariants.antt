use Rattle.std.proofs.Common.{◌≡◌, ◌++◌, map, take}
use Rattle.mal_pool.specs.Runs.{open_post, taken}
use Rattle.mal_pool.proofs.posting.open_all.Given as goal

abbrev pub invariant-loop-job : goal.invariant-loop-job
invariant-loop-job g l = record {
  of : g.B.Desk.is_of l.board l.pass;
  calls : g.B.Desk.calls l.pass ≡ g.B.Desk.calls l.fn.pass ++ taken (map open_post (take l.job-index l.jobs));
}
