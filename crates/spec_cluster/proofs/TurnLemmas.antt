-- A hall's turn is events that move no job and leave no lease out.
use Rattle.std.proofs.Common.{◌≡◌, ℕ, zero, suc, ◌≤◌, true, false, List, [], ◌∷◌, ◌++◌, fold, Some, Ok, inl, inr, refl, sym, ◌∙◌, ap, subst, append-nil, append_assoc}
use Rattle.std.specs.List.{list_all, list_any}
use Rattle.std.proofs.lemmas.Bool.{and_parts, both_ways, or_from}
use Rattle.std.proofs.lemmas.List.Folds.{list_any-append}
use Rattle.std.proofs.lemmas.List.Sums.{fold-append}
use Rattle.spec_job.specs.KeyedJob.{Key}
use Rattle.spec_hall.specs.Calls.{Idle, Leased, Picks, arranges}
use Rattle.spec_hall.specs.Events.{Event, Open, Revise, Reask, Close, Balance, Start, Finish, Exchange, Leave, Arrive, moves}
use Rattle.spec_hall.specs.Legal.{Legal}
use Rattle.spec_hall.specs.States.{LeaseOut, lease_of, leases, leases_step}
use Rattle.spec_hall.specs.Turns.{HasWaited, IsSlice, TakesTurn}
use Rattle.spec_hall.proofs.CallLemmas.{call-is_legal}
use Rattle.spec_hall.proofs.PushLemmas.{Legal-push, leases-push}
use Rattle.spec_cluster.specs.Laws.{TurnGrows}
use Rattle.spec_cluster.specs.Visits.{hall_at, opens}
use Rattle.spec_cluster.proofs.NameLemmas.{open-comes}
use Rattle.spec_cluster.proofs.TakenLemmas.{arranged-come}

-- what is arranged moves no job, and starts and ends nothing
arrange-moves : (e : Event) → arranges e ≡ true → moves e ≡ false
arrange-moves (Open j ask) q = refl
arrange-moves (Revise j number r) q = refl
arrange-moves (Reask j w) q = refl
arrange-moves (Close j) q = refl
arrange-moves (Balance shares) q = refl
arrange-moves (Start j index worker) q = refl
arrange-moves (Finish j index worker outcome) q = refl
arrange-moves (Exchange j) q = refl
arrange-moves (Leave j) q = absurd (both_ways false refl q)
arrange-moves (Arrive j brought) q = absurd (both_ways false refl q)

arranged-still : (es : List Event) → list_all arranges es ≡ true → list_any moves es ≡ false
arranged-still [] all = refl
arranged-still (e ∷ es) all =
    let parts = and_parts (arranges e) (list_all arranges es) all in
    or_from (moves e) (list_any moves es) (arrange-moves e parts.0) (arranged-still es parts.1)

arrange-leases : (out : List LeaseOut) (e : Event) → arranges e ≡ true → leases_step out e ≡ out
arrange-leases out (Open j ask) q = refl
arrange-leases out (Revise j number r) q = refl
arrange-leases out (Reask j w) q = refl
arrange-leases out (Close j) q = refl
arrange-leases out (Balance shares) q = refl
arrange-leases out (Start j index worker) q = absurd (both_ways false refl q)
arrange-leases out (Finish j index worker outcome) q = absurd (both_ways false refl q)
arrange-leases out (Exchange j) q = refl
arrange-leases out (Leave j) q = refl
arrange-leases out (Arrive j brought) q = refl

arranged-leases : (out : List LeaseOut) (es : List Event) → list_all arranges es ≡ true → fold leases_step out es ≡ out
arranged-leases out [] all = refl
arranged-leases out (e ∷ es) all =
    let parts = and_parts (arranges e) (list_all arranges es) all in
    ap (λ (o : List LeaseOut). fold leases_step o es) (arrange-leases out e parts.0) ∙ arranged-leases out es parts.1

-- a history has grown so
pub record IsTurned (w : ℕ) (past now : List Event) : Type 0 where
  pub events : List Event
  pub grown : now ≡ past ++ events
  pub legal : Legal w now
  pub calm : leases now ≡ []
  pub still : list_any moves events ≡ false
  pub shut : (k : Key) → list_any (opens k) events ≡ false

turned-none : (w : ℕ) (past : List Event) → Legal w past → leases past ≡ [] → IsTurned w past past
turned-none w past legal calm = record { events = []; grown = sym (append-nil past); legal = legal; calm = calm; still = refl; shut = λ k. refl }

turned-more : (w : ℕ) (past mid now : List Event) → IsTurned w past mid → IsTurned w mid now → IsTurned w past now
turned-more w past mid now a b = record {
  events = a.events ++ b.events;
  grown = b.grown ∙ (ap (λ (h : List Event). h ++ b.events) a.grown ∙ append_assoc past a.events b.events);
  legal = b.legal;
  calm = b.calm;
  still = list_any-append moves a.events b.events ∙ or_from (list_any moves a.events) (list_any moves b.events) a.still b.still;
  shut = λ k. list_any-append (opens k) a.events b.events ∙ or_from (list_any (opens k) a.events) (list_any (opens k) b.events) (a.shut k) (b.shut k);
}

module _ (w : ℕ) (some : 1 ≤ w) (most : w ≤ 64) where
  waited-turned : (past now : List Event) → HasWaited w past now → Legal w past → leases past ≡ [] → IsTurned w past now
  waited-turned past now waited legal calm = elim waited [
    | inl idle ↦ record {
      events = idle.events;
      grown = idle.grown;
      legal = subst (Legal w) (sym idle.grown) (call-is_legal w past (Picks 1) (Ok Idle) idle.events some most legal idle.call);
      calm = ap leases idle.grown ∙ (fold-append leases_step [] past idle.events ∙ (arranged-leases (leases past) idle.events idle.call.due.kinds ∙ calm));
      still = arranged-still idle.events idle.call.due.kinds;
      shut = λ k. open-comes k idle.events (arranged-come k idle.events idle.call.due.kinds);
    }
    | inr done ↦ subst (IsTurned w past) (sym (done.grown ∙ (ap (λ (es : List Event). past ++ es) done.call.1 ∙ append-nil past))) (turned-none w past legal calm)
  ]

  pub slice-turned : (past now : List Event) → IsSlice w past now → Legal w past → leases past ≡ [] → IsTurned w past now
  slice-turned past now slice legal calm = record {
    events = es ++ ended ∷ [];
    grown = slice.grown ∙ (ap (λ (h : List Event). h ++ ended ∷ []) slice.picked.grown ∙ append_assoc past es (ended ∷ []));
    legal = subst (Legal w) (sym slice.grown) (Legal-push w slice.mid ended legal-mid (ap (lease_of 1) out-is ∙ ap (λ (o : LeaseOut). let l : LeaseOut = record { worker = 1; key = o.key; index = o.index } in Some l) same));
    calm = ap leases slice.grown ∙ (leases-push slice.mid ended ∙ ap (λ (o : List LeaseOut). leases_step o ended) out-is);
    still = list_any-append moves es (ended ∷ []) ∙ or_from (list_any moves es) false still-es refl;
    shut = λ k. list_any-append (opens k) es (ended ∷ []) ∙ or_from (list_any (opens k) es) false (shut-es k) refl;
  }
    where
      es : List Event
      es = slice.picked.events

      ended : Event
      ended = Finish slice.out.key slice.out.index 1 slice.outcome

      due : List Event
      due = slice.picked.call.due

      begun : Event
      begun = Start slice.picked.call.key slice.picked.call.index 1

      one : LeaseOut
      one = record { worker = 1; key = slice.picked.call.key; index = slice.picked.call.index }

      legal-mid : Legal w slice.mid
      legal-mid = subst (Legal w) (sym slice.picked.grown) (call-is_legal w past (Picks 1) (Ok (Leased slice.lease)) es some most legal slice.picked.call)

      out-is : leases slice.mid ≡ one ∷ []
      out-is =
          ap leases (slice.picked.grown ∙ ap (λ (fs : List Event). past ++ fs) slice.picked.call.events)
          ∙ (fold-append leases_step [] past (due ++ begun ∷ [])
          ∙ (ap (λ (o : List LeaseOut). fold leases_step o (due ++ begun ∷ [])) calm
          ∙ (fold-append leases_step [] due (begun ∷ [])
          ∙ ap (λ (o : List LeaseOut). leases_step o begun) (arranged-leases [] due slice.picked.call.first.kinds))))

      only : (a b : LeaseOut) → Some a ≡ Some b → a ≡ b
      only a b q = cc

      same : one ≡ slice.out
      same = only one slice.out (sym (ap (lease_of 1) out-is) ∙ slice.is_out)

      still-es : list_any moves es ≡ false
      still-es = ap (list_any moves) slice.picked.call.events ∙ (list_any-append moves due (begun ∷ []) ∙ or_from (list_any moves due) false (arranged-still due slice.picked.call.first.kinds) refl)

      shut-es : (k : Key) → list_any (opens k) es ≡ false
      shut-es k = ap (list_any (opens k)) slice.picked.call.events ∙ (list_any-append (opens k) due (begun ∷ []) ∙ or_from (list_any (opens k) due) false (open-comes k due (arranged-come k due slice.picked.call.first.kinds)) refl)

  turn-turned : (n : ℕ) (past now : List Event) → TakesTurn w n past now → Legal w past → leases past ≡ [] → IsTurned w past now
  turn-turned zero past now turn legal calm = subst (IsTurned w past) (sym turn) (turned-none w past legal calm)
  turn-turned (suc n) past now turn legal calm = elim turn [
    | inl waited ↦ waited-turned past now waited legal calm
    | inr more ↦ (let first = slice-turned past more.0 more.1 legal calm in turned-more w past more.0 now first (turn-turned n more.0 now more.2 first.legal first.calm))
  ]

pub turn-grows : TurnGrows
turn-grows c n every now is within turn =
    let turned = turn-turned c.workers is.some_worker is.worker_bound every (hall_at c.halls n) now turn (is.legal n) (is.calm n) in (
      turned.events,
      turned.grown,
      record {
        within = within;
        legal = subst (Legal c.workers) turned.grown turned.legal;
        calm = ap leases (sym turned.grown) ∙ turned.calm;
        still = turned.still;
        fresh = λ k opened. absurd (both_ways (list_any (opens k) turned.events) (turned.shut k) opened);
      },
    )
