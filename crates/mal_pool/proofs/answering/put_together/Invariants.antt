use Rattle.std.proofs.Common.{◌≡◌, take, flat_map}
use Rattle.spec_run.specs.Run.{job_replies}
use Rattle.mal_pool.specs.Posts.{AreMade}
use Rattle.mal_pool.proofs.answering.put_together.Given as goal

abbrev pub invariant-loop-place : goal.invariant-loop-place
invariant-loop-place l =
    (l.text.items ≡ flat_map (job_replies l.hall.events) (take l.place l.script.jobs)) × AreMade l.hall.events l.script.jobs l.made.items
