use Rattle.std.proofs.Common.{◌≡◌, ◌+◌, false, List, [], ◌∷◌, ◌++◌, refl, sym, subst, arith, append_assoc, append-nil}
use Rattle.std.specs.List.{list_any}
use Rattle.spec_job.specs.SoloMachine.{Own, Opened, Revised, Reasked, Closed, Volume, Started, Finished, Exchanged, SoloMachine, solo}
use Rattle.spec_job.specs.Runnable.{IsRunnable, MayHappen}
use Rattle.spec_job.specs.Counts.{is_opening}
use Rattle.spec_job.specs.Lawful.{MayPass, AllPass, IsLawful, LawfulIsOnce, LawfulIsRunnable}

-- what may come may happen
pass-happens : (s : SoloMachine) (o : Own) → MayPass s o → MayHappen s o
pass-happens s (Opened ask) may = absurd may
pass-happens s (Revised r) may = let room = may.clauses in record { posted = may.posted; room = omega (arith, room) }
pass-happens s (Reasked w) may = tt
pass-happens s Closed may = tt
pass-happens s (Volume v) may = tt
pass-happens s (Started i) may = may
pass-happens s (Finished i outcome) may = tt
pass-happens s Exchanged may = tt

-- and is no opening
pub pass-other : (s : SoloMachine) (o : Own) → MayPass s o → is_opening o ≡ false
pass-other s (Opened ask) may = absurd may
pass-other s (Revised r) may = refl
pass-other s (Reasked w) may = refl
pass-other s Closed may = refl
pass-other s (Volume v) may = refl
pass-other s (Started i) may = refl
pass-other s (Finished i outcome) may = refl
pass-other s Exchanged may = refl

-- so it is of own events one after the other
all-runnable : (past os : List Own) → AllPass past os → IsRunnable past os
all-runnable past [] all = tt
all-runnable past (o ∷ os) all = (pass-happens (solo past) o all.0, all-runnable (past ++ o ∷ []) os all.1)

all-once : (past os : List Own) → AllPass past os → list_any is_opening os ≡ false
all-once past [] all = refl
all-once past (o ∷ os) all = rw (pass-other (solo past) o all.0) (all-once (past ++ o ∷ []) os all.1)

-- lawful own events are those of a job that is opened once
pub lawful-is_once : LawfulIsOnce
lawful-is_once ask own lawful = record { runnable = (refl, all-runnable (Opened ask ∷ []) own lawful.1); once = all-once (Opened ask ∷ []) own lawful.1 }

-- and each may happen after those before it
pub lawful-runnable : LawfulIsRunnable
lawful-runnable [] lawful = tt
lawful-runnable (Opened ask ∷ own) lawful = (refl, all-runnable (Opened ask ∷ []) own lawful.1)
lawful-runnable (Revised r ∷ own) lawful = absurd lawful
lawful-runnable (Reasked w ∷ own) lawful = absurd lawful
lawful-runnable (Closed ∷ own) lawful = absurd lawful
lawful-runnable (Volume v ∷ own) lawful = absurd lawful
lawful-runnable (Started i ∷ own) lawful = absurd lawful
lawful-runnable (Finished i outcome ∷ own) lawful = absurd lawful
lawful-runnable (Exchanged ∷ own) lawful = absurd lawful

-- one more own event that may come
all-push : (past os : List Own) (o : Own) → AllPass past os → MayPass (solo (past ++ os)) o → AllPass past (os ++ o ∷ [])
all-push past [] o all may = (subst (λ (es : List Own). MayPass (solo es) o) (append-nil past) may, tt)
all-push past (x ∷ xs) o all may = (all.0, all-push (past ++ x ∷ []) xs o all.1 (subst (λ (es : List Own). MayPass (solo es) o) (sym (append_assoc past (x ∷ []) xs)) may))

-- leaves own events lawful
pub lawful-push : (own : List Own) (o : Own) → IsLawful own → MayPass (solo own) o → IsLawful (own ++ o ∷ [])
lawful-push [] o lawful may = absurd lawful
lawful-push (Opened ask ∷ own) o lawful may = (lawful.0, all-push (Opened ask ∷ []) own o lawful.1 may)
lawful-push (Revised r ∷ own) o lawful may = absurd lawful
lawful-push (Reasked w ∷ own) o lawful may = absurd lawful
lawful-push (Closed ∷ own) o lawful may = absurd lawful
lawful-push (Volume v ∷ own) o lawful may = absurd lawful
lawful-push (Started i ∷ own) o lawful may = absurd lawful
lawful-push (Finished i outcome ∷ own) o lawful may = absurd lawful
lawful-push (Exchanged ∷ own) o lawful may = absurd lawful
