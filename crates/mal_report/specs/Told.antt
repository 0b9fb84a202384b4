use Rattle.mal_report.specs.declared.told.Told.{Told}
use Rattle.mal_report.specs.declared.told.Told.TheVariants as told
use Rattle.spec_report.specs.Replies.{ReplyBody, Model, Proof, AllSpent, AllStarved}

-- what a reply tells
abbrev pub body_of : Told → ReplyBody
body_of (told.Model model) = Model model
body_of (told.Proof failed lines) = Proof failed.items lines.lines
body_of (told.Spent n) = AllSpent n
body_of told.Starved = AllStarved
