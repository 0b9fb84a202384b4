-- A text that comes in pieces.
use Rattle.std.specs.Prelude.{◌≡◌, ◌≤◌, ℕ, Bool, not, ◌==◌, List, [], ◌++◌, Result, Ok, Err}
use Rattle.mal_base.specs.Limits.{limits}
use Rattle.mal_script.specs.declared.fault.LineRefusal.{LineRefusal}
use Rattle.mal_script.specs.declared.fault.LineRefusal.TheVariants as refusal
use Rattle.spec_text.specs.Inputs.{lines_of}
use Rattle.spec_dimacs.specs.Reading.{◌>>=◌}
use Rattle.spec_feed.specs.Reading.{Feeding, read_lines, unfed}
use Rattle.spec_feed.specs.declared.post.FeedPost.{FeedPost}
use Rattle.spec_feed.specs.declared.fault.FeedFault.{FeedFault}
use Rattle.spec_feed.specs.declared.fault.FeedFault.TheVariants as feed
use Rattle.mal_feed.specs.declared.fault.FeedError.{FeedError}
use Rattle.mal_feed.specs.declared.fault.FeedError.TheVariants as error

-- what came of a text: what the lines gave that were read, the front of the next line, and how many lines were read
pub record Coming : Type 0 where
  pub feed : Feeding
  pub tail : List ℕ
  pub lines : ℕ

-- before the first piece
abbrev pub nothing_came : Coming
nothing_came = record { feed = unfed; tail = []; lines = 0 }

-- what a text posts that goes on so, after what came
unfoldable pub reading_on : Coming → List ℕ → Result (List FeedPost) (ℕ × FeedFault)
reading_on c text = read_lines limits (lines_of (c.tail ++ text)) c.lines c.feed

-- the same after what was posted before
abbrev pub after_posts : List FeedPost → Result (List FeedPost) (ℕ × FeedFault) → Result (List FeedPost) (ℕ × FeedFault)
after_posts posts read = read >>= λ others. Ok (posts ++ others)

-- a byte that ends no line
abbrev pub is_inside : ℕ → Bool
is_inside byte = not (byte == 10)

-- reading gives this fault, of which out of memory claims nothing
abbrev pub FailsAt : {Y : Type 0} → FeedError → Result Y (ℕ × FeedFault) → Type 0
FailsAt (error.Line n fault) read = read ≡ Err (n, fault)
FailsAt error.OutOfMemory read = Unit {0}

-- the same of the number of a line and what was refused there
abbrev pub RefusedAt : ℕ → LineRefusal → FeedError → Type 0
RefusedAt n refusal.OutOfMemory refused = refused ≡ error.OutOfMemory
RefusedAt n (refusal.Fault fault) refused = refused ≡ error.Line n (feed.Line fault)

-- the fault of this line, which is too long, unless memory ran out
abbrev pub IsTooLong : ℕ → FeedError → Type 0
IsTooLong n refused = FailsAt {Y = List ℕ} refused (Err (n, feed.TooLong))

-- whatever follows, reading on with this piece posts this first, and then what reading on from there with the rest posts
abbrev pub GoesOn : Coming → List ℕ → List FeedPost → Coming → List ℕ → Type 0
GoesOn before piece posts after rest =
    (more : List ℕ) → reading_on before (piece ++ more) ≡ after_posts posts (reading_on after (rest ++ more))

-- a line ends in this piece: whatever follows it, reading on with it posts this and goes on from there with the rest
pub record ReadsLine (before : Coming) (piece : List ℕ) (posts : List FeedPost) (after : Coming) (rest : List ℕ) : Type 0 where
  pub line : List ℕ
  pub cut : piece ≡ line ++ rest
  pub goes : GoesOn before line posts after []

-- the fault's line is at most this one; out of memory claims nothing
abbrev pub IsBy : ℕ → FeedError → Type 0
IsBy n (error.Line line fault) = line ≤ n
IsBy n error.OutOfMemory = Unit {0}

-- whatever follows, this is the first fault
abbrev pub FailsOn : Coming → List ℕ → FeedError → Type 0
FailsOn before piece fault = (more : List ℕ) → FailsAt fault (reading_on before (piece ++ more))
