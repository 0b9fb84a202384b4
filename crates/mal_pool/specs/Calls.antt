-- The calls that a pass of a service tells.
use Rattle.std.specs.Prelude.{ℕ, List, Option, Some, None, Ok, Err}
use Rattle.std.specs.List.{filter_map}
use Rattle.mal_turn.specs.declared.view.View.{View}
use Rattle.mal_turn.specs.Numbers.{part}
use Rattle.mal_service.specs.Record as service
use Rattle.mal_service.specs.Record.{Answered, Opened, Revised, Reasked, Closed, Asked, Entry}
use Rattle.mal_hall.specs.declared.desk.Post.TheVariants as posts
use Rattle.mal_hall.specs.declared.desk.PostFault.TheVariants as faults
use Rattle.mal_hall.specs.Desks.{DeskCall, Picked, Gave, Posted}

-- the call of a board that a call of the service is; an ask is none
abbrev pub told : Answered → Option DeskCall
told (Opened k ask (Ok done)) = Some (Posted (posts.Open k.tenant k.job ask) (Ok done))
told (Opened k ask (Err fault)) = Some (Posted (posts.Open k.tenant k.job ask) (Err (faults.Open fault)))
told (Revised k r (Ok done)) = Some (Posted (posts.Revise k.tenant k.job r) (Ok done))
told (Revised k r (Err fault)) = Some (Posted (posts.Revise k.tenant k.job r) (Err (faults.Revise fault)))
told (Reasked k weight (Ok done)) = Some (Posted (posts.Reask k.tenant k.job weight) (Ok done))
told (Reasked k weight (Err fault)) = Some (Posted (posts.Reask k.tenant k.job weight) (Err (faults.Reask fault)))
told (Closed k (Ok done)) = Some (Posted (posts.Close k.tenant k.job) (Ok done))
told (Closed k (Err fault)) = Some (Posted (posts.Close k.tenant k.job) (Err (faults.Close fault)))
told (Asked k r answer) = None
told (service.Picked worker answer) = Some (Picked worker answer)
told (service.Gave d answer) = Some (Gave d answer)

-- the call of a board that an entry of the record is
abbrev pub told_by : List ℕ × Entry → Option DeskCall
told_by e = told e.1.call

-- the calls of a board in a pass's part of the record that it has seen
abbrev pub calls_of : View Entry → List DeskCall
calls_of v = filter_map told_by (part v.of.all v.seen)
