-- The events that a call enters leave a legal history legal.
use Rattle.std.proofs.Common.{◌≡◌, ℕ, zero, suc, ◌+◌, ◌≤◌, List, [], ◌∷◌, ◌++◌, flat_map, Option, Some, None, Result, Ok, Err, refl, sym, ◌∙◌, ap, subst, arith, append_assoc, append-nil}
use Rattle.std.specs.Option.{option_map_or}
use Rattle.mal_base.specs.declared.verdict.Outcome.TheVariants.{Lost}
use Rattle.mal_base.specs.Asks.{Terms, Weighed}
use Rattle.mal_revision.specs.Posted.{Posted}
use Rattle.spec_node.specs.Load.{counted}
use Rattle.spec_job.specs.Leased.{Finished}
use Rattle.spec_job.specs.KeyedJob.{Key}
use Rattle.spec_job.specs.SoloMachine.{Own}
use Rattle.mal_base.specs.declared.hall_fault.OpenFault.{OpenFault}
use Rattle.mal_base.specs.declared.hall_fault.OpenFault.TheVariants as opening
use Rattle.mal_base.specs.declared.hall_fault.ReviseFault.{ReviseFault}
use Rattle.mal_base.specs.declared.hall_fault.ReviseFault.TheVariants as revising
use Rattle.mal_base.specs.declared.hall_fault.ReaskFault.{ReaskFault}
use Rattle.mal_base.specs.declared.hall_fault.ReaskFault.TheVariants as reasking
use Rattle.mal_base.specs.declared.hall_fault.CloseFault.{CloseFault}
use Rattle.mal_base.specs.declared.hall_fault.CloseFault.TheVariants as closing
use Rattle.mal_base.specs.declared.hall_fault.PickFault.{PickFault}
use Rattle.mal_base.specs.declared.hall_fault.PickFault.TheVariants as picking
use Rattle.mal_base.specs.declared.hall_fault.ReplyFault.{ReplyFault}
use Rattle.mal_base.specs.declared.hall_fault.ReplyFault.TheVariants as asking
use Rattle.mal_base.specs.declared.hall_fault.PackFault.{PackFault}
use Rattle.mal_base.specs.declared.hall_fault.PackFault.TheVariants as packing
use Rattle.mal_base.specs.declared.hall_fault.AdmitFault.{AdmitFault}
use Rattle.mal_base.specs.declared.hall_fault.AdmitFault.TheVariants as admitting
use Rattle.spec_hall.specs.Calls.{Admits, Back, CallIsLegal, Closes, Finishes, Idle, AllDone, Leased, Leaves, Opens, Asks, Packs, Picks, Recalls, Revises, Reasks, Offer, Return, Strange, lost_of, IsOpening, IsRevising, IsReasking, IsClosing, IsPicking, IsReturning, IsAsking, IsPacking, IsAdmitting}
use Rattle.spec_hall.specs.Events.{Event, Open, Revise, Reask, Close, Start, Finish, Leave, Arrive}
use Rattle.spec_hall.specs.Legal.{Allowed, Legal}
use Rattle.spec_hall.specs.States.{LeaseOut, leases, lease_of}
use Rattle.spec_hall.proofs.PushLemmas.{Legal-push, leases-push}
use Rattle.spec_hall.proofs.LeasesLemmas.{lease-worker, without}
use Rattle.spec_hall.proofs.SpotLemmas.{without-other}
use Rattle.spec_hall.proofs.TurnLemmas.{due-legal}

none-legal : (w : ℕ) (past es : List Event) → Legal w past → es ≡ [] → Legal w (past ++ es)
none-legal w past es legal none = subst (λ (xs : List Event). Legal w (past ++ xs)) (sym none) (subst (Legal w) (sym (append-nil past)) legal)

one-legal : (w : ℕ) (past es : List Event) (e : Event) → Legal w past → Allowed w past e → es ≡ e ∷ [] → Legal w (past ++ es)
one-legal w past es e legal may one = subst (λ (xs : List Event). Legal w (past ++ xs)) (sym one) (Legal-push w past e legal may)

open-legal : (w : ℕ) (past : List Event) (k : Key) (ask : Terms) (r : Result (Unit {0}) OpenFault) (es : List Event) → Legal w past → IsOpening past k ask r es → Legal w (past ++ es)
open-legal w past k ask (Ok done) es legal is = one-legal w past es (Open k ask) legal is.0 is.1
open-legal w past k ask (Err opening.Duplicate) es legal is = none-legal w past es legal is.1
open-legal w past k ask (Err opening.TenantFull) es legal is = none-legal w past es legal is.2
open-legal w past k ask (Err opening.HallFull) es legal is = none-legal w past es legal is.3
open-legal w past k ask (Err opening.OutOfMemory) es legal is = none-legal w past es legal is.1

revise-legal : (w : ℕ) (past : List Event) (k : Key) (p : Posted) (r : Result (Unit {0}) ReviseFault) (es : List Event) → Legal w past → IsRevising past k p r es → Legal w (past ++ es)
revise-legal w past k p (Ok done) es legal (t, may, is) = one-legal w past es (Revise k _ p) legal (t, may) is
revise-legal w past k p (Err revising.NoJob) es legal is = none-legal w past es legal is.1
revise-legal w past k p (Err revising.Closed) es legal (t, a, b, is) = none-legal w past es legal is
revise-legal w past k p (Err revising.RevisionsFull) es legal (t, a, b, c, is) = none-legal w past es legal is
revise-legal w past k p (Err (revising.JobFull which)) es legal (t, a, b, c, d, is) = none-legal w past es legal is
revise-legal w past k p (Err revising.OutOfMemory) es legal (t, a, is) = none-legal w past es legal is

reask-legal : (w : ℕ) (past : List Event) (k : Key) (weight : Weighed) (r : Result (Unit {0}) ReaskFault) (es : List Event) → Legal w past → IsReasking past k weight r es → Legal w (past ++ es)
reask-legal w past k weight (Ok done) es legal (t, may, is) = one-legal w past es (Reask k weight) legal (t, may) is
reask-legal w past k weight (Err reasking.NoJob) es legal is = none-legal w past es legal is.1
reask-legal w past k weight (Err reasking.Closed) es legal (t, a, b, is) = none-legal w past es legal is
reask-legal w past k weight (Err reasking.OutOfMemory) es legal (t, may, is) = none-legal w past es legal is

close-legal : (w : ℕ) (past : List Event) (k : Key) (r : Result (Unit {0}) CloseFault) (es : List Event) → Legal w past → IsClosing past k r es → Legal w (past ++ es)
close-legal w past k (Ok done) es legal (t, may, is) = one-legal w past es (Close k) legal (t, may) is
close-legal w past k (Err closing.NoJob) es legal is = none-legal w past es legal is.1
close-legal w past k (Err closing.Closed) es legal (t, a, b, is) = none-legal w past es legal is

pick-legal : (w : ℕ) (past : List Event) (worker : ℕ) (r : Result Offer PickFault) (es : List Event) → Legal w past → IsPicking w past worker r es → Legal w (past ++ es)
pick-legal w past worker (Ok (Leased lease)) es legal is =
    subst (λ (xs : List Event). Legal w (past ++ xs)) (sym is.events) (subst (Legal w) (append_assoc past is.due (Start is.key is.index worker ∷ [])) (Legal-push w (past ++ is.due) (Start is.key is.index worker) (due-legal w past is.due legal is.first) is.start))
pick-legal w past worker (Ok Idle) es legal is = due-legal w past es legal is.due
pick-legal w past worker (Ok AllDone) es legal is = none-legal w past es legal is.1
pick-legal w past worker (Err picking.Busy) es legal is = none-legal w past es legal is.1
pick-legal w past worker (Err picking.OutOfMemory) es legal is = due-legal w past es legal is.due

-- a lease that is found is of the worker
held-is : (w : ℕ) (past : List Event) (worker : ℕ) (l : LeaseOut) → 1 ≤ w → w ≤ 64 → Legal w past → lease_of worker (leases past) ≡ Some l → lease_of worker (leases past) ≡ Some (record { worker = worker; key = l.key; index = l.index })
held-is w past worker l some bound legal e = e ∙ ap (λ (v : ℕ). let o : Option LeaseOut = Some (record { worker = v; key = l.key; index = l.index }) in o) (lease-worker w past worker l some bound legal e).0

return-legal : (w : ℕ) (past : List Event) (d : Finished) (r : Return) (es : List Event) → 1 ≤ w → w ≤ 64 → Legal w past → IsReturning past d r es → Legal w (past ++ es)
return-legal w past d Back es some bound legal (l, of, is) = one-legal w past es (Finish l.key l.index d.worker d.outcome) legal (held-is w past d.worker l some bound legal of.out) is
return-legal w past d (Strange kept) es some bound legal is = none-legal w past es legal is.2

-- all leases of the workers from one on are lost
lost-legal : (w : ℕ) (past : List Event) (out : List LeaseOut) (first n : ℕ) → 1 ≤ w → w ≤ 64 → Legal w past → ((v : ℕ) → first ≤ v → lease_of v out ≡ lease_of v (leases past)) → Legal w (past ++ flat_map (lost_of out) (counted first n))
lost-legal w past out first zero some bound legal same = subst (Legal w) (sym (append-nil past)) legal
lost-legal w past out first (suc n) some bound legal same = by_lease (λ h l q. lost-legal w h out (first + 1) n some bound l q) (lease_of first out) refl
  where
    rest : List Event
    rest = flat_map (lost_of out) (counted (first + 1) n)

    lost_by : Option LeaseOut → List Event
    lost_by o = option_map_or (λ l. Finish l.key l.index first Lost ∷ []) o []

    Rest : Type 0
    Rest = (h : List Event) → Legal w h → ((v : ℕ) → first + 1 ≤ v → lease_of v out ≡ lease_of v (leases h)) → Legal w (h ++ rest)

    by_lease : Rest → (o : Option LeaseOut) → lease_of first out ≡ o → Legal w (past ++ (lost_by o ++ rest))
    by_lease later None e = later past legal (λ v low. same v (omega (arith, low)))
    by_lease later (Some l) e =
        let mine : lease_of first (leases past) ≡ Some l = sym (same first (omega arith)) ∙ e in
        let next : List Event = past ++ Finish l.key l.index first Lost ∷ [] in
        let legal_next : Legal w next = Legal-push w past (Finish l.key l.index first Lost) legal (held-is w past first l some bound legal mine) in
        let out_next : leases next ≡ without first (leases past) = leases-push past (Finish l.key l.index first Lost) in
        subst (Legal w) (append_assoc past (Finish l.key l.index first Lost ∷ []) rest) (later next legal_next (λ v low. same v (omega (arith, low)) ∙ (sym (without-other first v (leases past) (λ q. absurd (omega (arith, q, low)))) ∙ ap (lease_of v) (sym out_next))))

ask-legal : (w : ℕ) (past : List Event) (k : Key) (n : ℕ) (r : Result (Option (List ℕ)) ReplyFault) (es : List Event) → Legal w past → IsAsking past k n r es → Legal w (past ++ es)
ask-legal w past k n (Ok text) es legal (t, a, b, is) = none-legal w past es legal is
ask-legal w past k n (Err asking.NoJob) es legal is = none-legal w past es legal is.1
ask-legal w past k n (Err asking.OutOfMemory) es legal (t, a, is) = none-legal w past es legal is

pack-legal : (w : ℕ) (past : List Event) (k : Key) (r : Result (List Own) PackFault) (es : List Event) → Legal w past → IsPacking past k r es → Legal w (past ++ es)
pack-legal w past k (Ok brought) es legal (t, a, b, c, is) = none-legal w past es legal is
pack-legal w past k (Err packing.NoJob) es legal is = none-legal w past es legal is.1
pack-legal w past k (Err (packing.Out index)) es legal (t, a, b, is) = none-legal w past es legal is
pack-legal w past k (Err packing.OutOfMemory) es legal (t, a, is) = none-legal w past es legal is

admit-legal : (w : ℕ) (past : List Event) (k : Key) (brought : List Own) (r : Result (Unit {0}) AdmitFault) (es : List Event) → Legal w past → IsAdmitting past k brought r es → Legal w (past ++ es)
admit-legal w past k brought (Ok done) es legal is = one-legal w past es (Arrive k brought) legal is.0 is.1
admit-legal w past k brought (Err admitting.Present) es legal is = none-legal w past es legal is.1
admit-legal w past k brought (Err admitting.TenantFull) es legal is = none-legal w past es legal is.1
admit-legal w past k brought (Err admitting.HallFull) es legal is = none-legal w past es legal is.1
admit-legal w past k brought (Err admitting.OutOfMemory) es legal is = none-legal w past es legal is.1

pub call-is_legal : CallIsLegal
call-is_legal w past (Opens k ask) answer es some bound legal is = open-legal w past k ask answer es legal is
call-is_legal w past (Revises k r) answer es some bound legal is = revise-legal w past k r answer es legal is
call-is_legal w past (Reasks k weight) answer es some bound legal is = reask-legal w past k weight answer es legal is
call-is_legal w past (Closes k) answer es some bound legal is = close-legal w past k answer es legal is
call-is_legal w past (Picks worker) answer es some bound legal is = pick-legal w past worker answer es legal is
call-is_legal w past (Finishes d) answer es some bound legal is = return-legal w past d answer es some bound legal is
call-is_legal w past Recalls answer es some bound legal is = subst (λ (xs : List Event). Legal w (past ++ xs)) (sym is) (lost-legal w past (leases past) 1 w some bound legal (λ v low. refl))
call-is_legal w past (Asks k r) answer es some bound legal is = ask-legal w past k r answer es legal is
call-is_legal w past (Packs k) answer es some bound legal is = pack-legal w past k answer es legal is
call-is_legal w past (Admits k brought) answer es some bound legal is = admit-legal w past k brought answer es legal is
call-is_legal w past (Leaves k) answer es some bound legal (t, may, is) = one-legal w past es (Leave k) legal (t, may) is
