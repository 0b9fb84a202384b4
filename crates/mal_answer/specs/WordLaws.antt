use Rattle.std.specs.Prelude.{◌≡◌, ◌↔◌, List, Some}
use Rattle.clap.specs.Walk.{Row, Text}
use Rattle.mal_answer.specs.Requests.{Asks, Means, asked}
use Rattle.mal_answer.specs.declared.words.request.Request.{Request}

-- what a subcommand asks for is what the table of commands gives
abbrev pub AskedIsAsks : Type 0
AskedIsAsks = (name : Text) (rows : List Row) (r : Request) → (asked name rows ≡ Some r) ↔ Asks name rows r

-- words ask for one thing at most
abbrev pub OneMeaning : Type 0
OneMeaning = (words : List Text) (r q : Request) → Means words r → Means words q → r ≡ q
