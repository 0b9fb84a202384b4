-- A small history: three jobs are posted, and the priority of one rises.
use Rattle.std.specs.Prelude.{◌≡◌, List, [], ◌∷◌, ◌++◌, codes}
use Rattle.spec_job.specs.Examples.{one_of_two, weight}
use Rattle.spec_hall.specs.Events.{Balance, Close, Event, Start}
use Rattle.spec_hall.specs.Examples.{after, eight, key, posted, share}
use Rattle.spec_script.specs.declared.step.Step.TheVariants as steps
use Rattle.spec_feed.specs.declared.post.FeedPost.TheVariants.{Opens, Takes, Closes}
use Rattle.spec_live.specs.Live.{Told, live_text, posts_in, to, told_to}

-- the job p is posted, its first node starts, and the job is closed
abbrev pub one_job : List Event
one_job = posted 112 4 ++ Balance (share 112 8 ∷ []) ∷ Start (key 112) 0 1 ∷ Close (key 112) ∷ []

-- replies to the jobs p and q
abbrev pub some_told : List Told
some_told = to (key 112) 1 ∷ to (key 113) 1 ∷ to (key 112) 2 ∷ []

-- worked examples: what was posted, the text of a live history, which is of version 2, and what was told to a job
pub record HasExamples : Type 0 where
  pub nothing : posts_in [] ≡ []
  pub posts : posts_in one_job ≡ Opens (key 112) (eight 4) ∷ Takes (key 112) (steps.Revise one_of_two) ∷ Closes (key 112) ∷ []
  pub asked_anew : posts_in after ≡ posts_in (posted 112 4) ++ posts_in (posted 113 2) ++ posts_in (posted 114 1) ++ Takes (key 114) (steps.Reask (weight 4 8)) ∷ []
  pub first : live_text 8 [] ≡ codes "h mal 2 8\n"
  pub text : live_text 8 one_job ≡ codes "h mal 2 8\no a p 4 8 4\nr a p 1\nb a p 8\ns a p 0 1\nc a p\n"
  pub mine : told_to (key 112) some_told ≡ 1 ∷ 2 ∷ []
  pub others : told_to (key 113) some_told ≡ 1 ∷ []
  pub none : told_to (key 114) some_told ≡ []
