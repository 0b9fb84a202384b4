-- What a turn of a hall that is driven leaves.
use Rattle.std.proofs.Common.{◌≡◌, ℕ, ◌≤◌, Bool, true, false, ◌&&◌, ◌==◌, List, [], ◌∷◌, ◌++◌, length, Some, Ok, Err, inl, inr, refl, sym, ◌∙◌, ap, subst, append_assoc, append-nil}
use Rattle.std.proofs.lemmas.Bool.{and_parts}
use Rattle.std.specs.Prelude.{is_some}
use Rattle.mal_base.specs.declared.verdict.Outcome.{Outcome}
use Rattle.mal_base.specs.declared.verdict.Outcome.TheVariants.{Ran, Starved, Lost}
use Rattle.spec_job.specs.Journal.{JournalEntry}
use Rattle.spec_job.specs.Journaled.{Journaled}
use Rattle.spec_job.specs.Leased.{Becomes, Finished, Leased}
use Rattle.spec_job.specs.Viewed.{IsGrownBy}
use Rattle.mal_base.specs.declared.hall_fault.PickFault.{PickFault}
use Rattle.mal_base.specs.declared.hall_fault.PickFault.TheVariants.{Busy, OutOfMemory}
use Rattle.spec_hall.specs.Calls as calls
use Rattle.spec_hall.specs.Calls.{HasCalled, Handed, IsOfLease, IsStarting, Picks, Finishes, Return, Back, Strange, is_over}
use Rattle.spec_hall.specs.Driven.{GrowsByTurns, IsAtEnd, IsIdle, is_done, was_lost}
use Rattle.spec_hall.specs.Events.{Event, Start, Finish}
use Rattle.spec_hall.specs.Leases.{lease_adds, lease_journal}
use Rattle.spec_hall.specs.Legal.{Legal}
use Rattle.spec_hall.specs.Turns.{HasWaited, IsSlice}
use Rattle.spec_hall.specs.States.{LeaseOut, lease_of, leases, lives, states}
use Rattle.spec_hall.proofs.GoesOnLemmas.{end-answered}
use Rattle.spec_hall.proofs.PushLemmas.{leases-push}
use Rattle.spec_hall.proofs.TurnLemmas.{HasTurned, HasWorked, due-leases, due-legal, due-turns, turn-worked, turns-more, turns-none}
use Rattle.mal_hall.specs.Driven.{HasWorkedOff, IsTurn}
use Rattle.mal_hall.specs.Offered.{handed_of}

-- a turn in which nothing started
pub record HasRested (w : ℕ) (past now : List Event) : Type 0 where
  pub turns : GrowsByTurns w past now
  pub home : leases now ≡ []

pub record HasStopped (w : ℕ) (past now : List Event) : Type 0 where
  pub rested : HasRested w past now
  pub end : IsAtEnd now
  pub answered : lives (states now) ≡ []
  pub waited : HasWaited w past now

-- something is left where nothing is out and it is not over
left-over : (past : List Event) → leases past ≡ [] → is_over past ≡ false → is_done (states past) ≡ false
left-over past home over = by_done (is_done (states past)) (sym (ap (λ (ls : List LeaseOut). is_done (states past) && length ls == 0) home) ∙ over)
  where
    by_done : (b : Bool) → (b && true) ≡ false → b ≡ false
    by_done false e = refl
    by_done true e = absurd (cc)

-- where nothing is out, worker 1 has no lease
pub not-busy : (w : ℕ) (past now : List Event) → leases past ≡ [] → HasCalled w past (Picks 1) (Err Busy) now → ⊥
not-busy w past now home called =
    let busy : is_some (lease_of 1 []) ≡ true = subst (λ (ls : List LeaseOut). is_some (lease_of 1 ls) ≡ true) home called.call.0 in
    absurd (cc)

pub err-rested : (w : ℕ) (past now : List Event) (fault : PickFault) → 1 ≤ w → Legal w past → leases past ≡ [] → HasCalled w past (Picks 1) (Err fault) now → HasRested w past now
err-rested w past now Busy some legal home called = record { turns = subst (GrowsByTurns w past) (sym same) (turns-none w past); home = ap leases same ∙ home }
  where
    same : now ≡ past
    same = called.grown ∙ (ap (λ (es : List Event). past ++ es) called.call.1 ∙ append-nil past)
err-rested w past now OutOfMemory some legal home called =
    let turned : HasTurned w past (past ++ called.events) = due-turns w past called.events some legal (left-over past home called.call.may.more) called.call.due in
    record { turns = subst (GrowsByTurns w past) (sym called.grown) turned.turns; home = ap leases called.grown ∙ (due-leases past called.events called.call.due.kinds ∙ home) }

pub idle-stopped : (w : ℕ) (past now : List Event) → 1 ≤ w → w ≤ 64 → Legal w past → leases past ≡ [] → HasCalled w past (Picks 1) (Ok calls.Idle) now → HasStopped w past now
idle-stopped w past now some bound legal home called =
    let turned : HasTurned w past (past ++ called.events) = due-turns w past called.events some legal (left-over past home called.call.may.more) called.call.due in
    let out : leases now ≡ [] = ap leases called.grown ∙ (due-leases past called.events called.call.due.kinds ∙ home) in
    let end : IsAtEnd now = inr (subst IsIdle (sym called.grown) called.call.idle) in
    let whole : Legal w now = subst (Legal w) (sym called.grown) (due-legal w past called.events legal called.call.due) in
    record { rested = record { turns = subst (GrowsByTurns w past) (sym called.grown) turned.turns; home = out }; end = end; answered = end-answered w now some bound whole out end; waited = inl called }

pub done-stopped : (w : ℕ) (past now : List Event) → 1 ≤ w → w ≤ 64 → Legal w past → leases past ≡ [] → HasCalled w past (Picks 1) (Ok calls.AllDone) now → HasStopped w past now
done-stopped w past now some bound legal home called =
    let same : now ≡ past = called.grown ∙ (ap (λ (es : List Event). past ++ es) called.call.1 ∙ append-nil past) in
    let parts = and_parts (is_done (states past)) (length (leases past) == 0) called.call.0 in
    let end : IsAtEnd now = inl (ap (λ (h : List Event). is_done (states h)) same ∙ parts.0) in
    let out : leases now ≡ [] = ap leases same ∙ home in
    record { rested = record { turns = subst (GrowsByTurns w past) (sym same) (turns-none w past); home = out }; end = end; answered = end-answered w now some bound (subst (Legal w) (sym same) legal) out end; waited = inr called }

-- what comes of a lease is of it
grown-by : (o : Outcome) (l : Leased) (d : Finished) → Becomes o l d → IsGrownBy o l.adds l.journal d.journal
grown-by Ran l d b = b
grown-by Starved l d b = b.0
grown-by Lost l d b = b

not-lost : (o : Outcome) (l : Leased) (d : Finished) → Becomes o l d → was_lost o ≡ false
not-lost Ran l d b = refl
not-lost Starved l d b = refl
not-lost Lost l d b = absurd b

-- a turn in which a lease was worked off
record HasSliced (w : ℕ) (past now : List Event) : Type 0 where
  worked : HasWorked w past now
  slice : IsSlice w past now

-- a lease of the first worker, worked off and taken back
turn-done : (v w : ℕ) (past middle now : List Event) (lease : Leased) (d : Finished) (answer : Return) → v ≡ w → 1 ≤ w → w ≤ 64 → Legal w past → leases past ≡ [] → HasCalled w past (Picks 1) (Ok (calls.Leased (handed_of lease))) middle → d.worker ≡ lease.worker → Becomes d.outcome lease d → HasCalled v middle (Finishes d) answer now → HasSliced w past now
turn-done v w past middle now lease d answer same some bound legal home called worker becomes given = by_answer answer given
  where
    is : IsStarting w past 1 (handed_of lease) called.events
    is = called.call

    held : LeaseOut
    held = record { worker = 1; key = is.key; index = is.index }

    whole : middle ≡ (past ++ is.due) ++ Start is.key is.index 1 ∷ []
    whole = called.grown ∙ (ap (λ (es : List Event). past ++ es) is.events ∙ sym (append_assoc past is.due (Start is.key is.index 1 ∷ [])))

    out : leases middle ≡ held ∷ []
    out = ap leases whole ∙ (leases-push (past ++ is.due) (Start is.key is.index 1) ∙ ap (λ (ls : List LeaseOut). ls ++ held ∷ []) (due-leases past is.due is.first.kinds ∙ home))

    first : d.worker ≡ 1
    first = worker ∙ ap (λ (h : Handed). h.worker) is.lease_is

    mine : lease_of d.worker (leases middle) ≡ Some held
    mine = ap (λ (n : ℕ). lease_of n (leases middle)) first ∙ ap (lease_of 1) out

    journal : lease.journal ≡ lease_journal middle held
    journal = ap (λ (h : Handed). h.journal) is.lease_is ∙ ap (λ (h : List Event). lease_journal h held) (sym called.grown)

    adds : lease.adds ≡ lease_adds middle held
    adds = ap (λ (h : Handed). h.adds) is.lease_is ∙ ap (λ (h : List Event). lease_adds h held) (sym called.grown)

    of_lease : IsOfLease middle d held
    of_lease = record {
      out = mine;
      journal = subst (λ (j : Journaled). IsGrownBy d.outcome (lease_adds middle held) j d.journal) journal (subst (λ (es : List JournalEntry). IsGrownBy d.outcome es lease.journal d.journal) adds (grown-by d.outcome lease d becomes));
    }

    by_answer : (r : Return) → HasCalled v middle (Finishes d) r now → HasSliced w past now
    by_answer Back back =
        let l : LeaseOut = back.call.0 in
        let both : Some l ≡ Some held = sym back.call.1.out ∙ mine in
        let equal : l ≡ held = cc in
        let ends : now ≡ middle ++ Finish is.key is.index 1 d.outcome ∷ [] = back.grown ∙ (ap (λ (es : List Event). middle ++ es) back.call.2 ∙ (ap (λ (h : LeaseOut). middle ++ Finish h.key h.index d.worker d.outcome ∷ []) equal ∙ ap (λ (n : ℕ). middle ++ Finish is.key is.index n d.outcome ∷ []) first)) in
        let all : now ≡ ((past ++ is.due) ++ Start is.key is.index 1 ∷ []) ++ Finish is.key is.index 1 d.outcome ∷ [] = ends ∙ ap (λ (h : List Event). h ++ Finish is.key is.index 1 d.outcome ∷ []) whole in
        record {
          worked = subst (HasWorked w past) (sym all) (turn-worked w past is.due is.key is.index d.outcome some bound legal home (left-over past home is.may.more) (not-lost d.outcome lease d becomes) is.first is.start);
          slice = record { lease = handed_of lease; mid = middle; picked = called; out = held; is_out = ap (lease_of 1) out; outcome = d.outcome; came = not-lost d.outcome lease d becomes; grown = ends };
        }
    by_answer (Strange kept) strange = absurd (strange.call.0 held of_lease)

-- turns after turns of as many workers
pub turns-behind : (v w : ℕ) (a b c : List Event) → v ≡ w → GrowsByTurns w a b → GrowsByTurns v b c → GrowsByTurns w a c
turns-behind v w a b c same one two = turns-more w a b c one (subst (λ (x : ℕ). GrowsByTurns x b c) same two)

-- what a turn leaves that nothing came of
pub rested-turn : {E : Type 0} (w : ℕ) (past now : List Event) (e : E) → HasRested w past now → HasCalled w past (Picks 1) (Err OutOfMemory) now → IsTurn w past (Err e) now
rested-turn w past now e rested called = record { turns = rested.turns; home = rested.home; end = tt; answered = tt; less = tt; slice = tt; waited = tt; wanting = called }

-- one that found nothing left to do
pub stopped-turn : {E : Type 0} (w : ℕ) (past now : List Event) → HasStopped w past now → IsTurn {E = E} w past (Ok false) now
stopped-turn w past now stopped = record { turns = stopped.rested.turns; home = stopped.rested.home; end = λ _. stopped.end; answered = λ _. stopped.answered; less = λ (e : false ≡ true). absurd (cc); slice = λ (e : false ≡ true). absurd (cc); waited = λ _. stopped.waited; wanting = tt }

-- and one in which a lease was worked off
pub worked-turn : {E : Type 0} (v w : ℕ) (past middle now : List Event) (lease : Leased) → v ≡ w → 1 ≤ w → w ≤ 64 → Legal w past → leases past ≡ [] → HasCalled w past (Picks 1) (Ok (calls.Leased (handed_of lease))) middle → HasWorkedOff v middle lease now → IsTurn {E = E} w past (Ok true) now
worked-turn v w past middle now lease same some bound legal home called off =
    let sliced = turn-done v w past middle now lease off.done off.answer same some bound legal home called off.worker off.becomes off.given in
    let worked = sliced.worked in
    record { turns = worked.turns; home = worked.home; end = λ (e : true ≡ false). absurd (cc); answered = λ (e : true ≡ false). absurd (cc); less = λ _. worked.less; slice = λ _. sliced.slice; waited = λ (e : true ≡ false). absurd (cc); wanting = tt }
