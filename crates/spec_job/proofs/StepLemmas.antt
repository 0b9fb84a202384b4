use Rattle.std.proofs.Common.{ℕ, List, ◌++◌, Option, refl}
use Rattle.mal_base.specs.NumberedClause.{Line}
use Rattle.mal_base.specs.declared.answer.Answer.{Answer}
use Rattle.mal_base.specs.declared.verdict.Outcome.{Outcome}
use Rattle.spec_job.specs.SoloMachine.{SoloMachine, NodeSlot, Lease, Slice, Started, Finished, solo_step, place_at, settled_by, finished_home, finished}
use Rattle.spec_job.specs.Keeps.{KeepsTerms}
use Rattle.spec_job.proofs.FinishLemmas.{ran_home, settled-leaves, finished-leaves}

-- answers and counts are no part of them
told-keeps : (s h : SoloMachine) (answers : List Answer) → KeepsTerms s h → KeepsTerms s (record h { answers = h.answers ++ answers; spent = 0; starved = 0 })
told-keeps s h answers k = record { ask = k.ask; volume = k.volume; revisions = k.revisions; closed = k.closed }

counted-keeps : (s h : SoloMachine) (spent starved : ℕ) → KeepsTerms s h → KeepsTerms s (record h { spent = spent; starved = starved })
counted-keeps s h spent starved k = record { ask = k.ask; volume = k.volume; revisions = k.revisions; closed = k.closed }

-- what an empty clause answers leaves them too
pub settled-keeps : (o : Option ℕ) (s h : SoloMachine) → KeepsTerms s h → KeepsTerms s (settled_by o h)
settled-keeps o s h k = settled-leaves (KeepsTerms s) (told-keeps s) (counted-keeps s) o h k

-- a finish leaves the ask, the volume, the revisions and the closing as they were
pub finished-keeps : (s : SoloMachine) (i : ℕ) (p : NodeSlot) (out : Option Lease) (o : Outcome) → KeepsTerms s (finished s i p out o)
finished-keeps s i p out o =
    let same : (places : List NodeSlot) (log : List Line) (slices : List Slice) (ran : ℕ) → KeepsTerms s (record s { places = places; log = log; slices = slices; ran = ran }) = λ places log slices ran. record { ask = refl; volume = refl; revisions = refl; closed = refl } in
    finished-leaves (KeepsTerms s) (told-keeps s) (counted-keeps s) s i p out o (same s.places s.log s.slices s.ran) (λ l e. same (ran_home s i p l).places (ran_home s i p l).log (ran_home s i p l).slices (ran_home s i p l).ran) (same (finished_home s i p).places s.log s.slices s.ran)

-- so do a start and a finish in turn
pub start-keeps : (s : SoloMachine) (i : ℕ) → KeepsTerms s (solo_step s (Started i))
start-keeps s i = record { ask = refl; volume = refl; revisions = refl; closed = refl }

pub finish-keeps : (s : SoloMachine) (i : ℕ) (o : Outcome) → KeepsTerms s (solo_step s (Finished i o))
finish-keeps s i o = finished-keeps s i (place_at s i) (place_at s i).out o
