-- The text of replies tells them: no two lists of replies are written alike.
use Rattle.std.specs.Prelude.{◌≡◌, ℕ, ◌<◌, ◌≤◌, ◌^◌, List, length, flat_map}
use Rattle.std.specs.List.{AllByRecursion}
use Rattle.mal_base.specs.Limits.{greatest_variable}
use Rattle.mal_base.specs.Literals.{IsLiteral}
use Rattle.mal_base.specs.NumberedClause.{Line}
use Rattle.mal_base.specs.declared.profile.Profile.{Profile}
use Rattle.spec_text.specs.Lines.{IsClean}
use Rattle.spec_report.specs.Replies.{ReplyBody, Model, Proof, AllSpent, AllStarved, reply_text}

-- a reply: whose it is, the number of its revision, the profile of the job's solvers, and what it tells
pub record Reply : Type 0 where
  pub tenant : List ℕ
  pub job : List ℕ
  pub number : ℕ
  pub profile : Profile
  pub told : ReplyBody

-- its text
abbrev pub text_of_reply : Reply → List ℕ
text_of_reply r = reply_text r.tenant r.job r.number r.profile r.told

-- the text of replies, one after another
abbrev pub text_of_replies : List Reply → List ℕ
text_of_replies rs = flat_map text_of_reply rs

-- 64 bits hold the numbers of a line of a proof, and its literals are literals
pub record IsWritable (line : Line) : Type 0 where
  pub id : line.id < 2 ^ 64
  pub lits : AllByRecursion IsLiteral line.lits
  pub hints : AllByRecursion (λ h. h < 2 ^ 64) line.hints

-- what is told has values of variables that there are, such lines and literals, and a number of 64 bits
abbrev pub CanBeTold : ReplyBody → Type 0
CanBeTold (Model model) = length model ≤ greatest_variable
CanBeTold (Proof failed lines) = AllByRecursion IsLiteral failed × AllByRecursion IsWritable lines
CanBeTold (AllSpent n) = n < 2 ^ 64
CanBeTold AllStarved = Unit {0}

-- a reply with names that can stand in a line
pub record IsReply (r : Reply) : Type 0 where
  pub tenant : IsClean r.tenant
  pub job : IsClean r.job
  pub number : r.number < 2 ^ 64
  pub told : CanBeTold r.told

-- two replies with one text are equal: they have the same name, the same number, the same profile and the same body
abbrev pub ReplyIsTold : Type 0
ReplyIsTold = (a b : Reply) → IsReply a → IsReply b → text_of_reply a ≡ text_of_reply b → a ≡ b

-- and two lists of replies with one text are equal: it tells where each reply ends
abbrev pub RepliesAreTold : Type 0
RepliesAreTold = (rs ss : List Reply) → AllByRecursion IsReply rs → AllByRecursion IsReply ss → text_of_replies rs ≡ text_of_replies ss → rs ≡ ss
