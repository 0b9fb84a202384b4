-- Asking once more: why a hall refuses, and the round that came.
use Rattle.std.proofs.Common.{◌≡◌, ℕ, zero, suc, ◌<◌, ◌≤◌, Bool, true, false, ◌&&◌, not, cond, List, [], ◌∷◌, ◌++◌, append_assoc, length, map, flat_map, Option, Some, None, Err, inl, inr, ◌⊎◌, refl, sym, ap, subst, ◌∙◌, arith}
use Rattle.std.specs.Prelude.{slice_get, get_or}
use Rattle.std.specs.Option.{option_map}
use Rattle.std.proofs.lemmas.Bool.{and_parts, ltb-false}
use Rattle.std.proofs.lemmas.List.{length-map, map-append}
use Rattle.std.proofs.lemmas.Option.{slice_get_cases}
use Rattle.mal_base.specs.Limits.{limits}
use Rattle.mal_base.specs.Asks.{Terms}
use Rattle.mal_base.specs.declared.answer.Answer.{Answer}
use Rattle.mal_base.specs.declared.hall_fault.OpenFault.{OpenFault}
use Rattle.mal_base.specs.declared.hall_fault.OpenFault.TheVariants as opening
use Rattle.mal_base.specs.declared.hall_fault.ReviseFault.{ReviseFault}
use Rattle.mal_base.specs.declared.hall_fault.ReviseFault.TheVariants as revising
use Rattle.mal_base.specs.declared.limit_kind.LimitKind.{LimitKind}
use Rattle.mal_base.specs.declared.limit_kind.LimitKind.TheVariants as kinds
use Rattle.mal_revision.specs.Posted.{Posted}
use Rattle.spec_report.specs.Replies.{ReplyBody}
use Rattle.spec_job.specs.KeyedJob.{Key, KeyedJob}
use Rattle.spec_job.specs.Replies.{body_by, body_of}
use Rattle.spec_job.specs.SoloMachine.{SoloMachine, solo, is_live}
use Rattle.spec_hall.specs.Calls.{Opens, Revises, IsOpening, IsRevising, wanted}
use Rattle.spec_hall.specs.Driven.{GrowsByTurns, IsAtEnd, IsIdle, events_in, is_done}
use Rattle.spec_hall.specs.Events.{Event, Revise}
use Rattle.spec_hall.specs.Legal.{Allowed, job_of}
use Rattle.spec_hall.specs.Own.{own, is_key}
use Rattle.spec_hall.specs.Room.{IsOver}
use Rattle.spec_hall.specs.States.{states, lives, live_of, live_ones, titled}
use Rattle.spec_run.specs.Posting.{IsOpen}
use Rattle.spec_run.proofs.OpenLemmas.{open-found}
use Rattle.spec_inquiry.specs.Asking.{MayAsk, HasAsked, round_of}
use Rattle.spec_inquiry.specs.Evidence.{IsEvidence}
use Rattle.spec_inquiry.specs.Rounds.{Round, IsRound, IsInquiry, round_events}
use Rattle.spec_inquiry.proofs.OpenLemmas.{inquiry-is_open}
use Rattle.spec_inquiry.proofs.RoundLemmas.{inquiry-grows}
use Rattle.spec_inquiry.proofs.StayLemmas.{told-is_evident}

some-same : {X : Type 0} (x y : X) → ◌≡◌ {A = Option X} (Some x) (Some y) → x ≡ y
some-same x y e = cc

-- in a hall without events a job that is not opened ran out of memory
pub open-wanted : (k : Key) (ask : Terms) (fault : OpenFault) (es : List Event) → IsOpening [] k ask (Err fault) es → wanted (Opens k ask) (Err fault) ≡ true
open-wanted k ask opening.Duplicate es h = absurd (let bad : false ≡ true = h.0 in cc)
open-wanted k ask opening.TenantFull es h = absurd (let bad : limits.jobs_of_tenant ≤ 0 = h.1 in omega (arith, bad))
open-wanted k ask opening.HallFull es h = absurd (let bad : limits.tenants ≤ 0 = h.2 in omega (arith, bad))
open-wanted k ask opening.OutOfMemory es h = refl

pub found-is : (k : Key) (rs : List Posted) (h : List Event) (t : KeyedJob) → IsOpen k rs h → job_of k (states h) ≡ Some t → t ≡ titled h k
found-is k rs h t is e = some-same t (titled h k) (sym e ∙ open-found k rs h is)

not-over : (which : LimitKind) (rs : List Posted) (r : Posted) → MayAsk rs r → IsOver which rs r → ⊥
not-over kinds.Variables rs r may h = absurd h
not-over kinds.Clauses rs r may h = omega (arith, h, may.clause_room)
not-over kinds.Literals rs r may h = omega (arith, h.1, may.literal_room)
not-over kinds.Tenants rs r may h = absurd h
not-over kinds.Jobs rs r may h = absurd h
not-over kinds.Revisions rs r may h = absurd h

-- nor is a revision of an open job posted where there is room for it but memory ran out
pub revise-wanted : (k : Key) (rs : List Posted) (past : List Event) (r : Posted) (fault : ReviseFault) (es : List Event) → IsOpen k rs past → MayAsk rs r → IsRevising past k r (Err fault) es → wanted (Revises k r) (Err fault) ≡ true
revise-wanted k rs past r revising.NoJob es is may h = absurd (let bad : None ≡ Some (titled past k) = sym h.0 ∙ open-found k rs past is in cc)
revise-wanted k rs past r revising.Closed es is may h = absurd (let bad : true ≡ false = sym h.2 ∙ (ap (λ (t : KeyedJob). t.state.closed) (found-is k rs past h.0 is h.1) ∙ is.unclosed) in cc)
revise-wanted k rs past r revising.RevisionsFull es is may h = absurd (let many : limits.revisions ≤ length rs = subst (λ (ps : List Posted). limits.revisions ≤ length ps) (ap (λ (t : KeyedJob). t.state.revisions) (found-is k rs past h.0 is h.1) ∙ is.posted) h.3 in omega (arith, many, may.room))
revise-wanted k rs past r (revising.JobFull which) es is may h = absurd (not-over which rs r may (subst (λ (ps : List Posted). IsOver which ps r) (ap (λ (t : KeyedJob). t.state.revisions) (found-is k rs past h.0 is h.1) ∙ is.posted) h.4))
revise-wanted k rs past r revising.OutOfMemory es is may h = refl

-- a job that is found among jobs of which none is live is not live
found-answered : (k : Key) (ts : List KeyedJob) (t : KeyedJob) → job_of k ts ≡ Some t → lives ts ≡ [] → is_live t.state ≡ false
found-answered k [] t e none = absurd (cc)
found-answered k (u ∷ us) t e none = by_key (is_key k u.key) e (first.0) (λ f. found-answered k us t f first.1)
  where
    by_live : (b : Bool) → is_live u.state ≡ b → map live_of (cond b (u ∷ live_ones us) (live_ones us)) ≡ [] → (is_live u.state ≡ false) × (lives us ≡ [])
    by_live true q f = absurd (cc)
    by_live false q f = (q, f)

    first : (is_live u.state ≡ false) × (lives us ≡ [])
    first = by_live (is_live u.state) refl none

    by_key : (b : Bool) → cond b (Some u) (job_of k us) ≡ Some t → is_live u.state ≡ false → (job_of k us ≡ Some t → is_live t.state ≡ false) → is_live t.state ≡ false
    by_key true f q rest = subst (λ (x : KeyedJob). is_live x.state ≡ false) (some-same u t f) q
    by_key false f q rest = rest f

-- one among jobs that are all closed and answered is closed
found-closed : (k : Key) (ts : List KeyedJob) (t : KeyedJob) → job_of k ts ≡ Some t → is_done ts ≡ true → t.state.closed ≡ true
found-closed k [] t e done = absurd (cc)
found-closed k (u ∷ us) t e done = by_key (is_key k u.key) e (and_parts u.state.closed (not (is_live u.state)) parts.0).0 (λ f. found-closed k us t f parts.1)
  where
    parts : ((u.state.closed && not (is_live u.state)) ≡ true) × (is_done us ≡ true)
    parts = and_parts (u.state.closed && not (is_live u.state)) (is_done us) done

    by_key : (b : Bool) → cond b (Some u) (job_of k us) ≡ Some t → u.state.closed ≡ true → (job_of k us ≡ Some t → t.state.closed ≡ true) → t.state.closed ≡ true
    by_key true f q rest = subst (λ (x : KeyedJob). x.state.closed ≡ true) (some-same u t f) q
    by_key false f q rest = rest f

-- while its job is open a hall at its end is idle
pub open-idle : (k : Key) (rs : List Posted) (h : List Event) → IsOpen k rs h → IsAtEnd h → IsIdle h
open-idle k rs h is (inl done) = absurd (let bad : true ≡ false = sym (found-closed k (states h) (titled h k) (open-found k rs h is) done) ∙ is.unclosed in cc)
open-idle k rs h is (inr idle) = idle

-- where nothing is live, something is told of each revision
machine-tells : (s : SoloMachine) (n : ℕ) → is_live s ≡ false → n < length s.revisions → body_of (suc n) s ≡ None → ⊥
machine-tells s n answered within none = by_place (slice_get_cases s.answers n).1
  where
    most : length s.revisions ≤ length s.answers
    most = ltb-false (length s.answers) (length s.revisions) answered

    by_place : ((x : Answer) × (n < length s.answers) × (slice_get s.answers n ≡ Some x) × (get_or s.answers n x ≡ x)) ⊎ ((length s.answers ≤ n) × (slice_get s.answers n ≡ None)) → ⊥
    by_place (inl h) = let bad : body_of (suc n) s ≡ Some (body_by s n h.0) = ap (option_map (body_by s n)) h.2 in cc
    by_place (inr h) = omega (arith, h.0, most, within)

pub answered-told : (k : Key) (rs : List Posted) (h : List Event) (t : KeyedJob) (n : ℕ) → IsOpen k rs h → lives (states h) ≡ [] → job_of k (states h) ≡ Some t → 1 ≤ n → n ≤ length rs → body_of n t.state ≡ None → ⊥
answered-told k rs h t zero is none e some within nothing = omega (arith, some)
answered-told k rs h t (suc n) is none e some within nothing =
    let revisions : t.state.revisions ≡ rs = ap (λ (u : KeyedJob). u.state.revisions) (found-is k rs h t is e) ∙ is.posted in
    machine-tells t.state n (found-answered k (states h) t e none) (subst (λ (ps : List Posted). n < length ps) (sym revisions) (omega (arith, within))) nothing

-- what the machine of a job that is found tells is what it tells alone
pub found-tells : (k : Key) (rs : List Posted) (h : List Event) (t : KeyedJob) (n : ℕ) (told : ReplyBody) → IsOpen k rs h → job_of k (states h) ≡ Some t → Some told ≡ body_of n t.state → body_of n (solo (own k h)) ≡ Some told
found-tells k rs h t n told is e tells = ap (λ (u : KeyedJob). body_of n u.state) (sym (found-is k rs h t is e)) ∙ sym tells

get-last : (xs : List Round) (x : Round) → slice_get (xs ++ x ∷ []) (length xs) ≡ Some x
get-last [] x = refl
get-last (y ∷ xs) x = get-last xs x

-- the round that came of a revision, of the turns after it, and of what is told then
pub round-asked : (k : Key) (ask : Terms) (rounds : List Round) (past : List Event) (r : Posted) (told : ReplyBody) (history : List Event) → IsInquiry k ask rounds past → Allowed 1 past (Revise k (suc (length rounds)) r) → GrowsByTurns 1 (past ++ Revise k (suc (length rounds)) r ∷ []) history → IsIdle history → body_of (suc (length rounds)) (solo (own k history)) ≡ Some told → HasAsked k ask rounds (record { revision = r; told = told }) history
round-asked k ask rounds past r told history i may grows idle e = record {
  turns = grows.turns;
  inquiry = inquiry;
  evidence = subst (λ (ps : List Posted). IsEvidence ps (length rounds) told) (map-append (λ (y : Round). y.asked.revision) rounds (x ∷ [])) (told-is_evident k ask (rounds ++ x ∷ []) history (length rounds) x inquiry (get-last rounds x));
}
  where
    n : ℕ
    n = suc (length rounds)

    x : Round
    x = round_of (record { revision = r; told = told }) grows.turns

    whole : history ≡ past ++ round_events k n x
    whole = grows.grown ∙ append_assoc past (Revise k n r ∷ []) (flat_map events_in grows.turns)

    round : IsRound k past n x
    round = record { posted = may; turned = grows.allowed; idle = subst IsIdle whole idle; told = subst (λ (h : List Event). body_of n (solo (own k h)) ≡ Some told) whole e }

    inquiry : IsInquiry k ask (rounds ++ x ∷ []) history
    inquiry = subst (IsInquiry k ask (rounds ++ x ∷ [])) (sym whole) (inquiry-grows k ask rounds past x i round)

-- the number of the next revision is that of the next round
pub next-round : (k : Key) (ask : Terms) (rounds : List Round) (h : List Event) → IsInquiry k ask rounds h → length (solo (own k h)).revisions ≡ length rounds
next-round k ask rounds h i = ap (λ (ps : List Posted). length ps) (inquiry-is_open k ask rounds h i).posted ∙ length-map rounds (λ (x : Round). x.asked.revision)
