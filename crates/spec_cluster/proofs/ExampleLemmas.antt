-- The worked example of a job that moves.
use Rattle.std.proofs.Common.{◌≡◌, true, false, Option, append-nil, List, [], ◌∷◌, ◌++◌, length, Some, None, inl, inr, refl, sym, ◌∙◌, ap, arith, append_assoc}
use Rattle.std.specs.Fmt.{digits}
use Rattle.std.specs.Option.{option_map_or}
use Rattle.mal_base.specs.declared.verdict.Outcome.TheVariants.{Ran}
use Rattle.mal_history.specs.Text.{history_text}
use Rattle.spec_seq.specs.Luby.{luby}
use Rattle.spec_learn.specs.Learning.{analysed_in}
use Rattle.spec_search.specs.Slice.{slice as slice_of_node}
use Rattle.spec_balance.proofs.Single.{first-fair}
use Rattle.spec_job.specs.Examples.{ask}
use Rattle.spec_hall.specs.Events.{Event, Balance, Start, Finish}
use Rattle.spec_hall.specs.Examples.{share}
use Rattle.spec_hall.specs.Calls.{handed, is_over}
use Rattle.spec_hall.specs.Legal.{IsBalanceDue, MayBalance, MayStart}
use Rattle.spec_hall.specs.States.{Candidate, Live, LeaseOut, balanced, lease_of, leases, lives, states}
use Rattle.spec_hall.specs.Turns.{TakesTurn}
use Rattle.spec_cluster.specs.Examples.{HasRounds, after_one, after_two, after_three, key, posts, script, slice}
use Rattle.spec_cluster.specs.Rounds.{IsRound}
use Rattle.spec_cluster.specs.Run.{posted}
use Rattle.spec_cluster.specs.Visits.{hall_at}

-- the lease of the first node
abbrev first_lease : LeaseOut
first_lease = record { worker = 1; key = key; index = 0 }

-- a history with the balancing
abbrev balanced_after : List Event → List Event
balanced_after past = past ++ Balance (share 112 1 ∷ []) ∷ []

-- a turn of one slice
slice-taken : (past : List Event) (choice : Candidate) → lease_of 1 (leases past) ≡ None → is_over past ≡ false → MayBalance 1 past (share 112 1 ∷ []) → MayStart 1 (balanced_after past) key 0 1 choice → lease_of 1 (leases (past ++ Balance (share 112 1 ∷ []) ∷ Start key 0 1 ∷ [])) ≡ Some first_lease → TakesTurn 1 1 past (past ++ slice)
slice-taken past choice free more may start out = inr (
  past ++ slice,
  record {
    lease = handed mid first_lease;
    mid = mid;
    picked = record {
      events = Balance (share 112 1 ∷ []) ∷ Start key 0 1 ∷ [];
      grown = refl;
      call = record {
        may = record { free = free; more = more };
        due = Balance (share 112 1 ∷ []) ∷ [];
        key = key;
        index = 0;
        events = refl;
        first = record { kinds = refl; legal = (may, tt) };
        start = (choice, start);
        lease_is = refl;
      };
    };
    out = first_lease;
    is_out = out;
    outcome = Ran;
    came = refl;
    grown = sym (append_assoc past (Balance (share 112 1 ∷ []) ∷ Start key 0 1 ∷ []) (Finish key 0 1 Ran ∷ []));
  },
  refl,
)
  where
    mid : List Event
    mid = past ++ Balance (share 112 1 ∷ []) ∷ Start key 0 1 ∷ []

-- a turn in which all is done
done-taken : (past : List Event) → is_over past ≡ true → TakesTurn 1 1 past past
done-taken past over = inl (inr (record { events = []; grown = sym (append-nil past); call = (over, refl) }))

-- the only live job, as the balancing reads it
abbrev live : Live
live = record { key = key; priority = 1; demand = 1 }

-- a balancing is due where the job has become live, and where it has arrived
became-live : (past : List Event) → lives (states past) ≡ live ∷ [] → balanced past ≡ Some [] → IsBalanceDue past
became-live past one none same = let many : 1 ≡ 0 = ap (λ (o : Option (List Live)). option_map_or (λ (ls : List Live). length ls) o 0) (ap (λ (ls : List Live). Some ls) (sym one) ∙ (same ∙ none)) in absurd (omega (arith, many))

has-arrived : (past : List Event) → balanced past ≡ None → IsBalanceDue past
has-arrived past none same = absurd (some_none (lives (states past)) (same ∙ none))
  where
    some_none : (ls : List Live) → Some ls ≡ None → ⊥
    some_none ls q = cc

first-round : IsRound 1 (posted 2 1 script) after_one
unfolding luby slice_of_node analysed_in
first-round = record {
  mids = (posts ++ slice) ∷ [] ∷ [];
  turned = (
    slice-taken posts (record { job = 0; index = 0; starts = 0 }) refl refl (record { due = became-live posts refl refl; keys = refl; fair = first-fair (ask 1 4) [] (omega arith) }) (record { balance = refl; exchange = refl; first = refl; key = refl; place = refl; some_worker = omega arith; worker_bound = omega arith; idle = refl }) refl,
    (done-taken [] refl, tt),
  );
  moved = refl;
}

second-round : IsRound 1 after_one after_two
unfolding luby slice_of_node analysed_in
second-round =
    let here = hall_at after_one.halls 0 in
    let there = hall_at after_one.halls 1 in
    record {
      mids = here ∷ (there ++ slice) ∷ [];
      turned = (
        done-taken here refl,
        (slice-taken there (record { job = 0; index = 0; starts = 1 }) refl refl (record { due = has-arrived there refl; keys = refl; fair = first-fair (ask 1 4) [] (omega arith) }) (record { balance = refl; exchange = refl; first = refl; key = refl; place = refl; some_worker = omega arith; worker_bound = omega arith; idle = refl }) refl, tt),
      );
      moved = refl;
    }

third-round : IsRound 1 after_two after_three
unfolding luby slice_of_node analysed_in
third-round =
    let here = hall_at after_two.halls 0 in
    let there = hall_at after_two.halls 1 in
    record {
      mids = (here ++ slice) ∷ there ∷ [];
      turned = (
        slice-taken here (record { job = 0; index = 0; starts = 2 }) refl refl (record { due = has-arrived here refl; keys = refl; fair = first-fair (ask 1 4) [] (omega arith) }) (record { balance = refl; exchange = refl; first = refl; key = refl; place = refl; some_worker = omega arith; worker_bound = omega arith; idle = refl }) refl,
        (done-taken there refl, tt),
      );
      moved = refl;
    }

pub rounds : HasRounds
unfolding luby slice_of_node analysed_in history_text digits
rounds = record {
  rounds = (refl, first-round, (refl, second-round, (refl, third-round, (refl, refl))));
  text = refl;
  did_once = refl;
  did_twice = refl;
  did = refl;
  answers = refl;
}
