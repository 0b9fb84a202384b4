-- What the jobs of a script post, one after another.
use Rattle.std.specs.Prelude.{List, [], ◌∷◌, ◌++◌, flat_map, map}
use Rattle.spec_script.specs.Script.{ScriptedJob, Scripted}
use Rattle.spec_feed.specs.declared.post.FeedPost.{FeedPost}
use Rattle.spec_feed.specs.declared.post.FeedPost.TheVariants.{Opens, Takes, Closes}
use Rattle.spec_feed.specs.Reading.{key_of}

-- a job's opening, its steps and its closing
abbrev pub job_posts : ScriptedJob → List FeedPost
job_posts j = Opens (key_of j) j.ask ∷ (map (Takes (key_of j)) j.steps ++ Closes (key_of j) ∷ [])

-- those of the jobs of a script, one after another
abbrev pub script_posts : Scripted → List FeedPost
script_posts s = flat_map job_posts s.jobs
