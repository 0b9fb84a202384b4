use Rattle.std.specs.Prelude.{Result, Ok, Err}
use Rattle.mal_hall.specs.declared.desk.Post.{Post}
use Rattle.mal_hall.specs.declared.desk.Post.TheVariants as posts
use Rattle.mal_hall.specs.declared.desk.PostFault.{PostFault}
use Rattle.mal_hall.specs.declared.desk.PostFault.TheVariants as faults
use Rattle.spec_hall.specs.Calls.{Idle}
use Rattle.spec_hall.specs.Dressed.{keyed}
use Rattle.mal_service.specs.Record.{Answered, Opened, Revised, Reasked, Closed, Picked}

-- it holds of the hall's call that a post is, with the answer to the post
abbrev pub HoldsOfPost : Post → Result (Unit {0}) PostFault → (Answered → Type 0) → Type 0
HoldsOfPost (posts.Open tenant job ask) (Ok done) P = P (Opened (keyed tenant job) ask (Ok done))
HoldsOfPost (posts.Open tenant job ask) (Err (faults.Open fault)) P = P (Opened (keyed tenant job) ask (Err fault))
HoldsOfPost (posts.Open tenant job ask) (Err (faults.Revise fault)) P = ⊥
HoldsOfPost (posts.Open tenant job ask) (Err (faults.Reask fault)) P = ⊥
HoldsOfPost (posts.Open tenant job ask) (Err (faults.Close fault)) P = ⊥
HoldsOfPost (posts.Revise tenant job r) (Ok done) P = P (Revised (keyed tenant job) r (Ok done))
HoldsOfPost (posts.Revise tenant job r) (Err (faults.Open fault)) P = ⊥
HoldsOfPost (posts.Revise tenant job r) (Err (faults.Revise fault)) P = P (Revised (keyed tenant job) r (Err fault))
HoldsOfPost (posts.Revise tenant job r) (Err (faults.Reask fault)) P = ⊥
HoldsOfPost (posts.Revise tenant job r) (Err (faults.Close fault)) P = ⊥
HoldsOfPost (posts.Reask tenant job weight) (Ok done) P = P (Reasked (keyed tenant job) weight (Ok done))
HoldsOfPost (posts.Reask tenant job weight) (Err (faults.Open fault)) P = ⊥
HoldsOfPost (posts.Reask tenant job weight) (Err (faults.Revise fault)) P = ⊥
HoldsOfPost (posts.Reask tenant job weight) (Err (faults.Reask fault)) P = P (Reasked (keyed tenant job) weight (Err fault))
HoldsOfPost (posts.Reask tenant job weight) (Err (faults.Close fault)) P = ⊥
HoldsOfPost (posts.Close tenant job) (Ok done) P = P (Closed (keyed tenant job) (Ok done))
HoldsOfPost (posts.Close tenant job) (Err (faults.Open fault)) P = ⊥
HoldsOfPost (posts.Close tenant job) (Err (faults.Revise fault)) P = ⊥
HoldsOfPost (posts.Close tenant job) (Err (faults.Reask fault)) P = ⊥
HoldsOfPost (posts.Close tenant job) (Err (faults.Close fault)) P = P (Closed (keyed tenant job) (Err fault))

-- what no post is
abbrev pub no_call : Answered
no_call = Picked 0 (Ok Idle)

-- the hall's call that a post is, with the answer to the post; no post is refused by a fault of another kind
abbrev pub call_of : Post → Result (Unit {0}) PostFault → Answered
call_of (posts.Open tenant job ask) (Ok done) = Opened (keyed tenant job) ask (Ok done)
call_of (posts.Open tenant job ask) (Err (faults.Open fault)) = Opened (keyed tenant job) ask (Err fault)
call_of (posts.Open tenant job ask) (Err (faults.Revise fault)) = no_call
call_of (posts.Open tenant job ask) (Err (faults.Reask fault)) = no_call
call_of (posts.Open tenant job ask) (Err (faults.Close fault)) = no_call
call_of (posts.Revise tenant job r) (Ok done) = Revised (keyed tenant job) r (Ok done)
call_of (posts.Revise tenant job r) (Err (faults.Open fault)) = no_call
call_of (posts.Revise tenant job r) (Err (faults.Revise fault)) = Revised (keyed tenant job) r (Err fault)
call_of (posts.Revise tenant job r) (Err (faults.Reask fault)) = no_call
call_of (posts.Revise tenant job r) (Err (faults.Close fault)) = no_call
call_of (posts.Reask tenant job weight) (Ok done) = Reasked (keyed tenant job) weight (Ok done)
call_of (posts.Reask tenant job weight) (Err (faults.Open fault)) = no_call
call_of (posts.Reask tenant job weight) (Err (faults.Revise fault)) = no_call
call_of (posts.Reask tenant job weight) (Err (faults.Reask fault)) = Reasked (keyed tenant job) weight (Err fault)
call_of (posts.Reask tenant job weight) (Err (faults.Close fault)) = no_call
call_of (posts.Close tenant job) (Ok done) = Closed (keyed tenant job) (Ok done)
call_of (posts.Close tenant job) (Err (faults.Open fault)) = no_call
call_of (posts.Close tenant job) (Err (faults.Revise fault)) = no_call
call_of (posts.Close tenant job) (Err (faults.Reask fault)) = no_call
call_of (posts.Close tenant job) (Err (faults.Close fault)) = Closed (keyed tenant job) (Err fault)
