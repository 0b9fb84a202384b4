-- The own events of a job, as the code keeps them.
use Rattle.std.specs.Prelude.{List, map}
use Rattle.spec_job.specs.SoloMachine.{Own}
use Rattle.spec_job.specs.SoloMachine as own
use Rattle.mal_parcel.specs.declared.owned.OwnEvent.{OwnEvent}
use Rattle.mal_parcel.specs.declared.owned.OwnEvent.TheVariants.{Opened, Revised, Reasked, Closed, Volume, Started, Finished, Exchanged}

-- the own event that the code's event stands for
abbrev pub own_of : OwnEvent → Own
own_of (Opened ask) = own.Opened ask
own_of (Revised r) = own.Revised r
own_of (Reasked w) = own.Reasked w
own_of Closed = own.Closed
own_of (Volume v) = own.Volume v
own_of (Started i) = own.Started i
own_of (Finished i outcome) = own.Finished i outcome
own_of Exchanged = own.Exchanged

-- the own events that the code's events stand for
abbrev pub owned : List OwnEvent → List Own
owned events = map own_of events
