-- The journals of a machine that was run on own events that may happen can be replayed.
use Rattle.std.proofs.Common.{◌≡◌, ℕ, ◌+◌, ◌≤◌, true, List, [], ◌∷◌, ◌++◌, length, get_or, Option, Some, None, inl, inr, ◌⊎◌, refl, sym, ◌∙◌, subst}
use Rattle.std.specs.Prelude.{slice_set}
use Rattle.mal_base.specs.declared.profile.Profile.{Profile}
use Rattle.mal_base.specs.Asks.{Terms}
use Rattle.mal_base.specs.declared.verdict.Outcome.{Outcome}
use Rattle.spec_job.specs.Journal.{replay}
use Rattle.spec_job.specs.SoloMachine.{Own, Opened, Revised, Reasked, Closed, Volume, Started, Finished, Exchanged, Lease, NodeSlot, vacant, SoloMachine, unopened, solo, solo_step, place_at, startable, first_empty, settled_by, finished_home, finished}
use Rattle.spec_job.specs.Runnable.{MayHappen, IsRunnable}
use Rattle.spec_job.specs.Following.{MayAllFollow, JournalsFollow, RunnableJournalsFollow}
use Rattle.spec_job.proofs.PushLemmas.{events-keep}
use Rattle.spec_job.proofs.FinishLemmas.{settled-leaves, finished-leaves}
use Rattle.spec_job.proofs.PlacesLemmas.{get-vacant, set-place, all-marked}
use Rattle.spec_job.proofs.SolvingLemmas.{lease_of, live-parts}
use Rattle.spec_job.proofs.KeptLemmas.{MachineInvariant, step-kept, unopened-kept}
use Rattle.spec_job.proofs.FollowLemmas.{follow-append, start-follows}

-- the journal of a place, and what its start adds
record IsFollowed (profile : Profile) (i : ℕ) (p : NodeSlot) : Type 0 where
  pub home : MayAllFollow (replay profile i []) p.entries
  pub out : (l : Lease) → p.out ≡ Some l → MayAllFollow (replay profile i p.entries) l.adds

abbrev AreFollowed : Profile → List NodeSlot → Type 0
AreFollowed profile places = (i : ℕ) → i ≤ 63 → IsFollowed profile i (get_or places i vacant)

set-followed : (profile : Profile) (places : List NodeSlot) (i : ℕ) (q : NodeSlot) → (i ≤ 63 → IsFollowed profile i q) → AreFollowed profile places → AreFollowed profile (slice_set places i q)
set-followed profile places i q k h j low = by_place (set-place places i j q)
  where
    by_place : ((j ≡ i) × (get_or (slice_set places i q) j vacant ≡ q)) ⊎ (get_or (slice_set places i q) j vacant ≡ get_or places j vacant) → IsFollowed profile j (get_or (slice_set places i q) j vacant)
    by_place (inl e) = subst (λ (x : NodeSlot). IsFollowed profile j x) (sym e.1) (subst (λ (x : ℕ). IsFollowed profile x q) (sym e.0) (k (subst (λ (x : ℕ). x ≤ 63) e.0 low)))
    by_place (inr e) = subst (λ (x : NodeSlot). IsFollowed profile j x) (sym e) (h j low)

-- those of a machine
abbrev AreFollowedIn : SoloMachine → Type 0
AreFollowedIn s = AreFollowed s.ask.profile s.places

settled-followed : (o : Option ℕ) (s : SoloMachine) → AreFollowedIn s → AreFollowedIn (settled_by o s)
settled-followed o s h = settled-leaves AreFollowedIn (λ t more k. k) (λ t spent starved k. k) o s h

started-followed : (s : SoloMachine) (i : ℕ) → startable s i ≡ true → MachineInvariant s → AreFollowedIn s → AreFollowedIn (solo_step s (Started i))
started-followed s i may k h = set-followed s.ask.profile s.places i (record (place_at s i) { out = Some (lease_of s i); starts = (place_at s i).starts + 1 }) (λ low. record {
  home = (h i low).home;
  out = λ l e. let same : lease_of s i ≡ l = cc in subst (λ (x : Lease). MayAllFollow (replay s.ask.profile i (place_at s i).entries) x.adds) same (start-follows s i low (live-parts s i may) k.solving k.calm k.derives);
}) h

home-followed : (s : SoloMachine) (i : ℕ) → AreFollowedIn s → AreFollowedIn (finished_home s i (place_at s i))
home-followed s i h = set-followed s.ask.profile s.places i (record (place_at s i) { out = None }) (λ low. record { home = (h i low).home; out = λ l e. absurd (cc) }) h

ran-followed : (s : SoloMachine) (i : ℕ) (l : Lease) → (place_at s i).out ≡ Some l → AreFollowedIn s → AreFollowed s.ask.profile (slice_set s.places i (record (place_at s i) { entries = (place_at s i).entries ++ l.adds; out = None }))
ran-followed s i l e h = set-followed s.ask.profile s.places i (record (place_at s i) { entries = (place_at s i).entries ++ l.adds; out = None }) (λ low. record { home = follow-append (place_at s i).entries l.adds (replay s.ask.profile i []) (h i low).home ((h i low).out l e); out = λ x q. absurd (cc) }) h

finished-followed : (s : SoloMachine) (i : ℕ) (out : Option Lease) (o : Outcome) → (place_at s i).out ≡ out → AreFollowedIn s → AreFollowedIn (finished s i (place_at s i) out o)
finished-followed s i out o e h = finished-leaves AreFollowedIn (λ t more k. k) (λ t spent starved k. k) s i (place_at s i) out o h (λ l f. ran-followed s i l (e ∙ f) h) (home-followed s i h)

-- the machine that is opened
opened-followed : (ask : Terms) → AreFollowedIn (record unopened { ask = ask })
opened-followed ask i low = subst (λ (p : NodeSlot). IsFollowed ask.profile i p) (sym (get-vacant 64 i)) (record { home = tt; out = λ l e. absurd (cc) })

step-followed : (s : SoloMachine) (o : Own) → MayHappen s o → MachineInvariant s → AreFollowedIn s → AreFollowedIn (solo_step s o)
step-followed s (Opened ask) may k h = subst (λ (x : SoloMachine). AreFollowedIn (record x { ask = ask })) (sym may) (opened-followed ask)
step-followed s (Revised r) may k h = settled-followed (first_empty s.log) (record s { revisions = s.revisions ++ r ∷ [] }) h
step-followed s (Reasked w) may k h = h
step-followed s Closed may k h = h
step-followed s (Volume v) may k h = h
step-followed s (Started i) may k h = started-followed s i may k h
step-followed s (Finished i o) may k h = finished-followed s i (place_at s i).out o refl h
step-followed s Exchanged may k h = all-marked (λ (i : ℕ) (p : NodeSlot). IsFollowed s.ask.profile i p) (λ i m p q. record { home = q.home; out = q.out }) s.volume (length s.log) s.places h

record IsPlayed (s : SoloMachine) : Type 0 where
  pub kept : MachineInvariant s
  pub followed : AreFollowedIn s

events-played : (past events : List Own) → IsRunnable past events → IsPlayed (solo past) → IsPlayed (solo (past ++ events))
events-played past events may h = events-keep IsPlayed IsRunnable (λ before o os q k. (record { kept = step-kept (solo before) o q.0 k.kept; followed = step-followed (solo before) o q.0 k.kept k.followed }, q.1)) past events may h

unopened-played : IsPlayed unopened
unopened-played = record { kept = unopened-kept; followed = opened-followed unopened.ask }

played-follow : (s : SoloMachine) → IsPlayed s → JournalsFollow s
played-follow s h = record { home = λ i low. (h.followed i low).home; out = λ i l low e. (h.followed i low).out l e }

pub runnable-journals_follow : RunnableJournalsFollow
runnable-journals_follow events may = played-follow (solo events) (events-played [] events may unopened-played)
