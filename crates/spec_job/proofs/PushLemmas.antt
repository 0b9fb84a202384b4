-- One more event of a job's own.
use Rattle.std.proofs.Common.{◌≡◌, List, [], ◌∷◌, ◌++◌, sym, subst, append_assoc, append-nil}
use Rattle.std.proofs.lemmas.List.Sums.{fold_push}
use Rattle.spec_job.specs.SoloMachine.{Own, SoloMachine, unopened, solo, solo_step}
use Rattle.spec_job.specs.Runnable.{MayHappen, IsRunnable}

pub solo-push : (events : List Own) (o : Own) → solo (events ++ o ∷ []) ≡ solo_step (solo events) o
solo-push events o = fold_push solo_step unopened events o

-- what holds of a machine, and is kept by each of the events that follow, holds after them; with what is known of those
-- that are left
pub events-keep : (P : SoloMachine → Type 0) (Q : List Own → List Own → Type 0) → ((past : List Own) (o : Own) (os : List Own) → Q past (o ∷ os) → P (solo past) → P (solo_step (solo past) o) × Q (past ++ o ∷ []) os) → (past events : List Own) → Q past events → P (solo past) → P (solo (past ++ events))
events-keep P Q step past [] q h = subst (λ (es : List Own). P (solo es)) (sym (append-nil past)) h
events-keep P Q step past (o ∷ os) q h =
    let here : P (solo_step (solo past) o) × Q (past ++ o ∷ []) os = step past o os q h in
    let next : P (solo (past ++ o ∷ [])) = subst P (sym (solo-push past o)) here.0 in
    subst (λ (es : List Own). P (solo es)) (append_assoc past (o ∷ []) os) (events-keep P Q step (past ++ o ∷ []) os here.1 next)

runnable-after : (past events : List Own) (o : Own) → IsRunnable past events → MayHappen (solo (past ++ events)) o → IsRunnable past (events ++ o ∷ [])
runnable-after past [] o may next = (subst (λ (es : List Own). MayHappen (solo es) o) (append-nil past) next, tt)
runnable-after past (e ∷ es) o may next = (may.0, runnable-after (past ++ e ∷ []) es o may.1 (subst (λ (xs : List Own). MayHappen (solo xs) o) (sym (append_assoc past (e ∷ []) es)) next))

-- an event that may happen after others
pub runnable-push : (events : List Own) (o : Own) → IsRunnable [] events → MayHappen (solo events) o → IsRunnable [] (events ++ o ∷ [])
runnable-push events o may next = runnable-after [] events o may next
