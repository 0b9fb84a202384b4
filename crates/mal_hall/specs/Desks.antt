use Rattle.std.specs.Prelude.{◌≡◌, ℕ, List, Result, Ok, Err}
use Rattle.mal_hall.specs.declared.desk.Post.{Post}
use Rattle.mal_hall.specs.declared.desk.Post.TheVariants as posts
use Rattle.mal_hall.specs.declared.desk.PostFault.{PostFault}
use Rattle.mal_hall.specs.declared.desk.PostFault.TheVariants as faults
use Rattle.mal_hall.specs.HallView.{next_number}
use Rattle.spec_job.specs.Leased.{Finished, Tells}
use Rattle.spec_job.specs.Viewed.{IsGrownBy}
use Rattle.mal_base.specs.declared.hall_fault.PickFault.{PickFault}
use Rattle.spec_hall.specs.Calls.{HasCalled, Opens, Revises, Reasks, Closes, Offer, Leased, Idle, AllDone, Handed, Return}
use Rattle.spec_hall.specs.Dressed.{keyed}
use Rattle.spec_hall.specs.Events as entered
use Rattle.spec_hall.specs.Events.{Event}

-- a call of a desk with its answer: a worker picked, what came of a lease was given back, or a tenant posted
pub data DeskCall : Type 0 where
  Picked : ℕ → Result Offer PickFault → DeskCall
  Gave : Finished → Return → DeskCall
  Posted : Post → Result (Unit {0}) PostFault → DeskCall

-- a lease that is handed out to a worker is its own
abbrev pub IsOwn : ℕ → Result Offer PickFault → Type 0
IsOwn worker (Ok (Leased l)) = l.worker ≡ worker
IsOwn worker (Ok Idle) = Unit {0}
IsOwn worker (Ok AllDone) = Unit {0}
IsOwn worker (Err fault) = Unit {0}

-- a lease was worked off by its worker, and this came of it
pub record IsWorked (l : Handed) (d : Finished) : Type 0 where
  pub worker : d.worker ≡ l.worker
  pub journal : IsGrownBy d.outcome l.adds l.journal d.journal
  pub tells : Tells d.outcome d

-- the event of a post after a history
abbrev pub event_of : List Event → Post → Event
event_of past (posts.Open tenant job ask) = entered.Open (keyed tenant job) ask
event_of past (posts.Revise tenant job r) = entered.Revise (keyed tenant job) (next_number (keyed tenant job) past) r
event_of past (posts.Reask tenant job weight) = entered.Reask (keyed tenant job) weight
event_of past (posts.Close tenant job) = entered.Close (keyed tenant job)

-- a post has brought a history from a past: the hall's call of that kind was answered so
abbrev pub HasPosted : ℕ → List Event → Post → Result (Unit {0}) PostFault → List Event → Type 0
HasPosted workers past (posts.Open tenant job ask) (Ok done) now = HasCalled workers past (Opens (keyed tenant job) ask) (Ok done) now
HasPosted workers past (posts.Open tenant job ask) (Err (faults.Open fault)) now = HasCalled workers past (Opens (keyed tenant job) ask) (Err fault) now
HasPosted workers past (posts.Open tenant job ask) (Err (faults.Revise fault)) now = ⊥
HasPosted workers past (posts.Open tenant job ask) (Err (faults.Reask fault)) now = ⊥
HasPosted workers past (posts.Open tenant job ask) (Err (faults.Close fault)) now = ⊥
HasPosted workers past (posts.Revise tenant job r) (Ok done) now = HasCalled workers past (Revises (keyed tenant job) r) (Ok done) now
HasPosted workers past (posts.Revise tenant job r) (Err (faults.Open fault)) now = ⊥
HasPosted workers past (posts.Revise tenant job r) (Err (faults.Revise fault)) now = HasCalled workers past (Revises (keyed tenant job) r) (Err fault) now
HasPosted workers past (posts.Revise tenant job r) (Err (faults.Reask fault)) now = ⊥
HasPosted workers past (posts.Revise tenant job r) (Err (faults.Close fault)) now = ⊥
HasPosted workers past (posts.Reask tenant job weight) (Ok done) now = HasCalled workers past (Reasks (keyed tenant job) weight) (Ok done) now
HasPosted workers past (posts.Reask tenant job weight) (Err (faults.Open fault)) now = ⊥
HasPosted workers past (posts.Reask tenant job weight) (Err (faults.Revise fault)) now = ⊥
HasPosted workers past (posts.Reask tenant job weight) (Err (faults.Reask fault)) now = HasCalled workers past (Reasks (keyed tenant job) weight) (Err fault) now
HasPosted workers past (posts.Reask tenant job weight) (Err (faults.Close fault)) now = ⊥
HasPosted workers past (posts.Close tenant job) (Ok done) now = HasCalled workers past (Closes (keyed tenant job)) (Ok done) now
HasPosted workers past (posts.Close tenant job) (Err (faults.Open fault)) now = ⊥
HasPosted workers past (posts.Close tenant job) (Err (faults.Revise fault)) now = ⊥
HasPosted workers past (posts.Close tenant job) (Err (faults.Reask fault)) now = ⊥
HasPosted workers past (posts.Close tenant job) (Err (faults.Close fault)) now = HasCalled workers past (Closes (keyed tenant job)) (Err fault) now
