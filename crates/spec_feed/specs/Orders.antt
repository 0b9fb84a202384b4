-- What a feed posts of each job.
use Rattle.std.specs.Prelude.{◌≡◌, Bool, ◌&&◌, ◌⊎◌, List, [], filter, bytes_eq}
use Rattle.mal_base.specs.declared.key.Key.{Key}
use Rattle.spec_script.specs.Script.{ScriptedJob}
use Rattle.spec_feed.specs.declared.post.FeedPost.{FeedPost}
use Rattle.spec_feed.specs.declared.post.FeedPost.TheVariants.{Opens, Takes, Closes}
use Rattle.spec_feed.specs.Posts.{job_posts}
use Rattle.spec_feed.specs.Reading.{key_of}

-- the job that a post is of
abbrev pub key_at : FeedPost → Key
key_at (Opens key ask) = key
key_at (Takes key step) = key
key_at (Closes key) = key

-- a post is of this job
abbrev pub is_post_of : Key → FeedPost → Bool
is_post_of key post = bytes_eq key.tenant (key_at post).tenant && bytes_eq key.job (key_at post).job

-- the posts of this job
abbrev pub posts_of : Key → List FeedPost → List FeedPost
posts_of key posts = filter (is_post_of key) posts

-- of this job nothing is posted, or all that a job posts: first its opening, then its steps, and last its closing
abbrev pub IsOrderly : Key → List FeedPost → Type 0
IsOrderly key posts = (posts_of key posts ≡ []) ⊎ ((j : ScriptedJob) × (key_of j ≡ key) × (posts_of key posts ≡ job_posts j))
