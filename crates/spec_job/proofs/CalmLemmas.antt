-- The nodes that have loaded the current revision have no verdict.
use Rattle.std.proofs.Common.{◌≡◌, ℕ, ◌+◌, ◌<◌, ◌≤◌, Bool, true, false, cond, ◌==◌, List, [], ◌∷◌, ◌++◌, length, get_or, Option, Some, None, inl, inr, ◌⊎◌, refl, sym, ◌∙◌, subst, arith, length-append}
use Rattle.std.specs.Prelude.{slice_set, ◌-◌, replicate}
use Rattle.std.proofs.lemmas.Bool.{ltb-true}
use Rattle.mal_base.specs.declared.profile.Profile.{Profile}
use Rattle.mal_base.specs.Asks.{Terms}
use Rattle.mal_base.specs.declared.answer.Answer.{Answer}
use Rattle.mal_base.specs.declared.answer.Answer.TheVariants.{Satisfied, Refuted, Spent, OutOfStarts}
use Rattle.mal_base.specs.declared.verdict.Verdict.{Verdict}
use Rattle.mal_base.specs.declared.verdict.Verdict.TheVariants.{Satisfiable, Unsatisfiable}
use Rattle.mal_base.specs.declared.verdict.Outcome.{Outcome}
use Rattle.mal_base.specs.declared.verdict.Outcome.TheVariants.{Starved}
use Rattle.mal_revision.specs.Posted.{Posted}
use Rattle.spec_node.specs.State.{Node}
use Rattle.spec_node.specs.Model.{model_of}
use Rattle.spec_job.specs.Journal.{replay, loads_in}
use Rattle.spec_job.specs.SoloMachine.{Own, Opened, Revised, Reasked, Closed, Volume, Started, Finished, Exchanged, Lease, NodeSlot, vacant, SoloMachine, unopened, solo_step, place_at, start_entries, answered, spend, starve, conclude, first_empty, settled_by, settled, is_late, finished_ran, finished_home, finished_lease, finished}
use Rattle.spec_job.specs.Runnable.{MayHappen}
use Rattle.spec_job.proofs.FinishLemmas.{with_entries, slice_of, ran_home, ran_now, by-ran, by-starved, by-outcome, by-lease}
use Rattle.spec_job.proofs.PlacesLemmas.{all-marked, get-vacant, set-place}
use Rattle.spec_job.proofs.SolvingLemmas.{IsLeased, IsSolving, IsSolvingSolo, placed-solving, out-leased}
use Rattle.spec_job.proofs.SolvedLemmas.{home-ready, idle-solving, lease-solving}
use Rattle.spec_job.proofs.DerivingLemmas.{AreCalm, AreEarly}

-- nodes stay calm: while the current revision is the same, and where it is another one
early-of : (profile : Profile) (revisions : List Posted) (answers : List Answer) (places : List NodeSlot) → IsSolving profile revisions answers places → AreEarly (length answers) places
early-of profile revisions answers places h i low = (h.ready i low).early

calm-later : (profile : Profile) (c d : ℕ) (places : List NodeSlot) → c ≤ d → AreEarly c places → AreCalm profile c places → AreCalm profile d places
calm-later profile c d places up early h i low e = let a : loads_in (get_or places i vacant).entries ≤ c + 1 = early i low in h i low (omega arith)

calm-next : (profile : Profile) (c d : ℕ) (places : List NodeSlot) → c < d → AreEarly c places → AreCalm profile d places
calm-next profile c d places up early i low e = let a : loads_in (get_or places i vacant).entries ≤ c + 1 = early i low in absurd (omega arith)

calm-placed : (profile : Profile) (c i : ℕ) (places : List NodeSlot) (p : NodeSlot) → (i ≤ 63 → loads_in p.entries ≡ c + 1 → (replay profile i p.entries).node.verdict ≡ None) → AreCalm profile c places → AreCalm profile c (slice_set places i p)
calm-placed profile c i places p k h j low = by_place (set-place places i j p)
  where
    by_place : ((j ≡ i) × (get_or (slice_set places i p) j vacant ≡ p)) ⊎ (get_or (slice_set places i p) j vacant ≡ get_or places j vacant) → loads_in (get_or (slice_set places i p) j vacant).entries ≡ c + 1 → (replay profile j (get_or (slice_set places i p) j vacant).entries).node.verdict ≡ None
    by_place (inl e) = subst (λ (q : NodeSlot). loads_in q.entries ≡ c + 1 → (replay profile j q.entries).node.verdict ≡ None) (sym e.1) (subst (λ (x : ℕ). loads_in p.entries ≡ c + 1 → (replay profile x p.entries).node.verdict ≡ None) (sym e.0) (k (subst (λ (x : ℕ). x ≤ 63) e.0 low)))
    by_place (inr e) = subst (λ (q : NodeSlot). loads_in q.entries ≡ c + 1 → (replay profile j q.entries).node.verdict ≡ None) (sym e) (h j low)

abbrev pub AreCalmIn : SoloMachine → Type 0
AreCalmIn s = AreCalm s.ask.profile (length s.answers) s.places

answered-calm : (s : SoloMachine) (a : Answer) → AreEarly (length s.answers) s.places → AreCalmIn (answered s a)
answered-calm s a early = let long : length (s.answers ++ a ∷ []) ≡ length s.answers + 1 = length-append s.answers (a ∷ []) in calm-next s.ask.profile (length s.answers) (length (s.answers ++ a ∷ [])) s.places (omega arith) early

settled-calm : (o : Option ℕ) (s : SoloMachine) → AreEarly (length s.answers) s.places → AreCalmIn s → AreCalmIn (settled_by o s)
settled-calm None s early h = h
settled-calm (Some goal) s early h =
    let more : List Answer = replicate (length s.revisions - length s.answers) (Refuted goal) in
    let long : length (s.answers ++ more) ≡ length s.answers + length more = length-append s.answers more in
    calm-later s.ask.profile (length s.answers) (length (s.answers ++ more)) s.places (omega arith) early h

spend-calm : (s : SoloMachine) → AreEarly (length s.answers) s.places → AreCalmIn s → AreCalmIn (spend s)
spend-calm s early h = by_test (s.spent + 1 == s.ask.slices)
  where
    by_test : (b : Bool) → AreCalmIn (cond b (answered s (Spent s.ask.slices)) (record s { spent = s.spent + 1 }))
    by_test true = answered-calm s (Spent s.ask.slices) early
    by_test false = h

starve-calm : (s : SoloMachine) → AreEarly (length s.answers) s.places → AreCalmIn s → AreCalmIn (starve s)
starve-calm s early h = by_test (s.starved + 1 == 3)
  where
    by_test : (b : Bool) → AreCalmIn (cond b (answered s OutOfStarts) (record s { starved = s.starved + 1 }))
    by_test true = answered-calm s OutOfStarts early
    by_test false = h

conclude-calm : (v : Option Verdict) (n : Node) (s : SoloMachine) → AreEarly (length s.answers) s.places → (v ≡ None → AreCalmIn s) → AreCalmIn (conclude v n s)
conclude-calm None n s early h = spend-calm s early (h refl)
conclude-calm (Some Satisfiable) n s early h = answered-calm s (Satisfied (model_of n)) early
conclude-calm (Some (Unsatisfiable goal)) n s early h = answered-calm s (Refuted goal) early

ran-calm : (s : SoloMachine) (i : ℕ) (l : Lease) → (place_at s i).out ≡ Some l → IsSolvingSolo s → AreCalmIn s → AreCalmIn (finished_ran s i (place_at s i) l)
ran-calm s i l out k h = by-ran AreCalmIn s i (place_at s i) l late now
  where
    q : NodeSlot
    q = with_entries (place_at s i) l

    leased : IsLeased s.ask.profile s.revisions (length s.answers) i (place_at s i).entries l
    leased = out-leased s i l out k

    early : AreEarly (length s.answers) (slice_set s.places i q)
    early = early-of s.ask.profile s.revisions s.answers (slice_set s.places i q) (placed-solving s.ask.profile s.revisions s.answers s.places i q (λ low. home-ready s.ask.profile s.revisions (length s.answers) i (place_at s i) l leased) k)

    late : is_late s l ≡ true → AreCalmIn (ran_home s i (place_at s i) l)
    late e =
        let late : l.revision < length s.answers = ltb-true l.revision (length s.answers) e in
        let loads : loads_in q.entries ≡ l.revision + 1 = leased.loads in
        calm-placed s.ask.profile (length s.answers) i s.places q (λ low same. absurd (omega arith)) h

    now : is_late s l ≡ false → AreCalmIn (ran_now s i (place_at s i) l)
    now e = conclude-calm (slice_of s i (place_at s i) l).node.verdict (slice_of s i (place_at s i) l).node (ran_home s i (place_at s i) l) early (λ none. calm-placed s.ask.profile (length s.answers) i s.places q (λ low same. none) h)

idle-calm : (s : SoloMachine) (i : ℕ) → AreCalmIn s → AreCalmIn (finished_home s i (place_at s i))
idle-calm s i h = calm-placed s.ask.profile (length s.answers) i s.places (record (place_at s i) { out = None }) (h i) h

starved-calm : (s : SoloMachine) (i : ℕ) (l : Lease) → IsSolvingSolo s → AreCalmIn s → AreCalmIn (finished_lease s i (place_at s i) l Starved)
starved-calm s i l k h =
    let home : SoloMachine = finished_home s i (place_at s i) in
    by-starved AreCalmIn s i (place_at s i) l (λ late. idle-calm s i h) (λ now. starve-calm home (early-of s.ask.profile s.revisions s.answers home.places (idle-solving s i k)) (idle-calm s i h))

ended-calm : (s : SoloMachine) (i : ℕ) (l : Lease) (o : Outcome) → (place_at s i).out ≡ Some l → IsSolvingSolo s → AreCalmIn s → AreCalmIn (settled (finished_lease s i (place_at s i) l o))
ended-calm s i l o e k h =
    let ended : SoloMachine = finished_lease s i (place_at s i) l o in
    settled-calm (first_empty ended.log) ended (early-of ended.ask.profile ended.revisions ended.answers ended.places (lease-solving s i l o e k)) (by-outcome AreCalmIn s i (place_at s i) l o (ran-calm s i l e k h) (starved-calm s i l k h) (idle-calm s i h))

finished-calm : (s : SoloMachine) (i : ℕ) (out : Option Lease) (o : Outcome) → (place_at s i).out ≡ out → IsSolvingSolo s → AreCalmIn s → AreCalmIn (finished s i (place_at s i) out o)
finished-calm s i out o e k h = by-lease AreCalmIn s i (place_at s i) out o h (λ l f. ended-calm s i l o (e ∙ f) k h)

-- the machine that is opened
pub opened-calm : (ask : Terms) → AreCalmIn (record unopened { ask = ask })
opened-calm ask i low e = subst (λ (p : NodeSlot). (replay ask.profile i p.entries).node.verdict ≡ None) (sym (get-vacant 64 i)) refl

-- each event that may happen
pub step-calm : (s : SoloMachine) (o : Own) → MayHappen s o → IsSolvingSolo s → AreCalmIn s → AreCalmIn (solo_step s o)
step-calm s (Opened ask) may k h = subst (λ (x : SoloMachine). AreCalmIn (record x { ask = ask })) (sym may) (opened-calm ask)
step-calm s (Revised r) may k h = settled-calm (first_empty s.log) (record s { revisions = s.revisions ++ r ∷ [] }) (early-of s.ask.profile s.revisions s.answers s.places k) h
step-calm s (Reasked w) may k h = h
step-calm s Closed may k h = h
step-calm s (Volume v) may k h = h
step-calm s (Started i) may k h = calm-placed s.ask.profile (length s.answers) i s.places (record (place_at s i) { out = Some (record { revision = length s.answers; adds = start_entries s (place_at s i) }); starts = (place_at s i).starts + 1 }) (h i) h
step-calm s (Finished i o) may k h = finished-calm s i (place_at s i).out o refl k h
step-calm s Exchanged may k h = all-marked (λ (i : ℕ) (p : NodeSlot). loads_in p.entries ≡ length s.answers + 1 → (replay s.ask.profile i p.entries).node.verdict ≡ None) (λ i m p calm. calm) s.volume (length s.log) s.places h
