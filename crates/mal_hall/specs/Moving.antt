-- What the calls by which jobs move answer, as the definitions of calls have it.
use Rattle.std.specs.Prelude.{ℕ, Bool, ◌==◌, List, Result, Ok, Err, if◌then◌else◌}
use Rattle.mal_base.specs.declared.hall_fault.AdmitFault.{AdmitFault}
use Rattle.mal_base.specs.declared.hall_fault.PackFault.{PackFault}
use Rattle.mal_parcel.specs.Parcelled.{Parcelled}
use Rattle.spec_job.specs.SoloMachine.{Own}

-- the answer to who packs a job: what it brings
abbrev pub packed : Result Parcelled PackFault → Result (List Own) PackFault
packed (Ok parcel) = Ok parcel.own
packed (Err fault) = Err fault

-- the answer to who has a job admitted
abbrev pub admitted : Result (Unit {0}) (Parcelled × AdmitFault) → Result (Unit {0}) AdmitFault
admitted (Ok done) = Ok done
admitted (Err back) = Err back.1

-- what a job counts among those that are not closed
abbrev pub open_one : Bool → ℕ
open_one closed = if closed then 0 else 1

-- what a further job of a tenant with so many jobs counts among the tenants
abbrev pub new_one : ℕ → ℕ
new_one jobs = if 0 == jobs then 1 else 0
