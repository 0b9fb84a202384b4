-- What a history that is written down posts.
use Rattle.std.specs.Prelude.{◌≡◌, ℕ, Bool, false, List, map, filter}
use Rattle.std.specs.Option.{option_map_or}
use Rattle.mal_history.specs.declared.event.Event as written
use Rattle.mal_history.specs.Posts.{post_of}
use Rattle.spec_hall.specs.Events.{bare}
use Rattle.spec_hall.specs.Own.{is_text}
use Rattle.spec_run.specs.Complete.{posts_of}
use Rattle.spec_script.specs.Script.{Scripted}

-- whether a tenant posted the event that is written down
abbrev pub is_post_line : List ℕ → written.Event → Bool
is_post_line tenant event = option_map_or (λ p. is_text tenant p.tenant) (post_of event) false

-- what a tenant posts in what is written down
abbrev pub post_lines : List ℕ → List written.Event → List written.Event
post_lines tenant lines = filter (is_post_line tenant) lines

-- a tenant posted just what the script says, in its order
abbrev pub HasPosts : Scripted → List written.Event → List ℕ → Type 0
HasPosts s lines tenant = post_lines tenant lines ≡ map bare (posts_of tenant s)

-- each tenant did
abbrev pub HavePosts : Scripted → List written.Event → Type 0
HavePosts s lines = (tenant : List ℕ) → HasPosts s lines tenant
