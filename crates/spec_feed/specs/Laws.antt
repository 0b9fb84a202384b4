-- What holds of every text, in the form in which the law functions state it.
use Rattle.std.specs.Prelude.{◌≡◌, ℕ, ◌<◌, ◌≤◌, ◌↔◌, true, List, length, take, Ok, Err}
use Rattle.std.specs.List.{list_all}
use Rattle.mal_base.specs.declared.limits.Limits.{Limits}
use Rattle.spec_text.specs.Inputs.{lines_of}
use Rattle.mal_base.specs.declared.key.Key.{Key}
use Rattle.spec_script.specs.Script.{Scripted}
use Rattle.spec_script.specs.Reading.{read_text}
use Rattle.spec_feed.specs.declared.post.FeedPost.{FeedPost}
use Rattle.spec_feed.specs.declared.fault.FeedFault.{FeedFault}
use Rattle.spec_feed.specs.Reading.{Fed, Feeding, after_line, read_feed}
use Rattle.spec_feed.specs.Grammar.{Spells, is_short}
use Rattle.spec_feed.specs.Orders.{IsOrderly}
use Rattle.spec_feed.specs.Posts.{script_posts}

-- a text spells posts exactly where reading gives them: no text spells two lists of posts, or has a first fault and
-- spells one
abbrev pub SpelledIsRead : Type 0
SpelledIsRead = (limits : Limits) (text : List ℕ) (posts : List FeedPost) → Spells limits text posts ↔ (read_feed limits text ≡ Ok posts)

-- nothing after a faulty line counts: where the first fault is on a line before the last, each text that begins with
-- the same lines, up to this one, has the same first fault
abbrev pub FaultIsFirst : Type 0
FaultIsFirst = (limits : Limits) (text other : List ℕ) (line : ℕ) (fault : FeedFault) → read_feed limits text ≡ Err (line, fault) → line < length (lines_of text) → take line (lines_of other) ≡ take line (lines_of text) → read_feed limits other ≡ Err (line, fault)

-- each line posts one thing or nothing
abbrev pub LinesPostOne : Type 0
LinesPostOne = (limits : Limits) (line : List ℕ) (s : Feeding) (fed : Fed) → after_line limits line s ≡ Ok fed → length fed.posts ≤ 1

-- each script of short lines is a feed, which posts the jobs of the script one after another
abbrev pub ScriptIsFeed : Type 0
ScriptIsFeed = (limits : Limits) (text : List ℕ) (s : Scripted) → read_text limits text ≡ Ok s → list_all is_short (lines_of text) ≡ true → read_feed limits text ≡ Ok (script_posts s)

-- of each job of which a text posts something, the opening comes first and the closing last, each once
abbrev pub PostsAreOrderly : Type 0
PostsAreOrderly = (limits : Limits) (text : List ℕ) (posts : List FeedPost) → Spells limits text posts → (key : Key) → IsOrderly key posts
