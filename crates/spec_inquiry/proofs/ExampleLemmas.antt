-- The worked example of an inquiry.
use Rattle.std.proofs.Common.{◌≡◌, ℕ, zero, suc, ◌<◌, ◌≤◌, List, [], ◌∷◌, ◌++◌, length, Option, Some, refl, sym, ◌∙◌, ap, arith}
use Rattle.std.specs.Option.{option_map_or}
use Rattle.mal_base.specs.declared.verdict.Outcome.TheVariants.{Ran}
use Rattle.mal_revision.specs.Posted.{Posted}
use Rattle.spec_seq.specs.Luby.{luby}
use Rattle.spec_learn.specs.Learning.{analysed_in}
use Rattle.spec_search.specs.Slice.{slice}
use Rattle.spec_balance.specs.Fair.{IsFair, demand_at, volume_at}
use Rattle.spec_job.specs.Examples.{ask, one_of_two}
use Rattle.spec_hall.specs.Driven.{AreTurns}
use Rattle.spec_hall.specs.Events.{Event, Open, Revise, Balance, Start, Finish}
use Rattle.spec_hall.specs.Examples.{share}
use Rattle.spec_hall.specs.Legal.{IsBalanceDue, MayOpen}
use Rattle.spec_hall.specs.States.{Live, balanced, lives, states, titled}
use Rattle.spec_inquiry.specs.Rounds.{IsRound, round_events}
use Rattle.spec_inquiry.specs.Examples.{HasRounds, TellsOfBoth, key, first, second, none_of_two, one_slice}

may-open : MayOpen [] key (ask 1 4)
may-open = record {
  tenant = refl;
  job = refl;
  asked = record { some_priority = omega arith; priority_bound = omega arith; some_demand = omega arith; demand_bound = omega arith; some_slices = omega arith; slices_bound = omega arith };
  fresh = refl;
  tenant_room = omega arith;
  hall_room = λ none. omega arith;
}

-- the one worker is fair for a job that is live alone, and no worker where none is
fair-one : IsFair 1 (ask 1 4 ∷ []) (1 ∷ [])
fair-one = record {
  same_length = refl;
  some = some;
  wanted = wanted;
  others = others;
  total = refl;
  even = λ i j low within lower inside below above. absurd (alone j inside above);
}
  where
    some : (i : ℕ) → i < 1 → i < 1 → 1 ≤ volume_at (1 ∷ []) i
    some zero low within = omega arith
    some (suc i) low within = absurd (omega (arith, low))

    wanted : (i : ℕ) → i < 1 → i < 1 → volume_at (1 ∷ []) i ≤ demand_at (ask 1 4 ∷ []) i
    wanted zero low within = omega arith
    wanted (suc i) low within = absurd (omega (arith, low))

    others : (i : ℕ) → 1 ≤ i → volume_at (1 ∷ []) i ≡ 0
    others zero high = absurd (omega (arith, high))
    others (suc i) high = refl

    alone : (j : ℕ) → j < 1 → 1 < volume_at (1 ∷ []) j → ⊥
    alone zero inside above = omega (arith, above)
    alone (suc j) inside above = omega (arith, inside)

fair-none : IsFair 1 [] []
fair-none = record {
  same_length = refl;
  some = λ i low within. absurd (omega (arith, low));
  wanted = λ i low within. absurd (omega (arith, low));
  others = λ i high. refl;
  total = refl;
  even = λ i j low within lower inside below above. absurd (omega (arith, low));
}

-- the history before each round
abbrev opened : List Event
opened = Open key (ask 1 4) ∷ []

abbrev asked_once : List Event
asked_once = opened ++ round_events key 1 first

-- the only live job, as the balancing reads it
abbrev live : Live
live = record { key = key; priority = 1; demand = 1 }

-- how many live jobs there were at a balancing
abbrev count_of : Option (List Live) → ℕ
count_of o = option_map_or (λ ls. length ls) o 0

-- a balancing is due where the job has become live, and where it is live no more
became-live : (past : List Event) → lives (states past) ≡ live ∷ [] → balanced past ≡ Some [] → IsBalanceDue past
became-live past one none same = let many : 1 ≡ 0 = ap count_of (sym (ap Some one) ∙ (same ∙ none)) in absurd (omega (arith, many))

was-live : (past : List Event) → lives (states past) ≡ [] → balanced past ≡ Some (live ∷ []) → IsBalanceDue past
was-live past none one same = let many : 0 ≡ 1 = ap count_of (sym (ap Some none) ∙ (same ∙ one)) in absurd (omega (arith, many))

-- the events of a round up to a balancing, the slice after it, and the last balancing
abbrev posted : List Event → ℕ → Posted → List Event
posted past n r = past ++ Revise key n r ∷ []

abbrev begun : List Event → ℕ → Posted → List Event
begun past n r = posted past n r ++ Balance (share 112 1 ∷ []) ∷ []

abbrev run : List Event → ℕ → Posted → List Event
run past n r = begun past n r ++ Start key 0 1 ∷ Finish key 0 1 Ran ∷ []

first-turns : AreTurns 1 (posted opened 1 one_of_two) one_slice
unfolding luby slice analysed_in
first-turns = (
  refl,
  refl,
  (record { due = became-live (posted opened 1 one_of_two) refl refl; keys = refl; fair = fair-one }, tt),
  (
    refl,
    refl,
    ((record { job = 0; index = 0; starts = 0 }, record { balance = refl; exchange = refl; first = refl; key = refl; place = refl; some_worker = omega arith; worker_bound = omega arith; idle = refl }), (refl, tt)),
    (refl, refl, (record { due = was-live (run opened 1 one_of_two) refl refl; keys = refl; fair = fair-none }, tt), tt),
  ),
)

second-turns : AreTurns 1 (posted asked_once 2 none_of_two) one_slice
unfolding luby slice analysed_in
second-turns = (
  refl,
  refl,
  (record { due = became-live (posted asked_once 2 none_of_two) refl refl; keys = refl; fair = fair-one }, tt),
  (
    refl,
    refl,
    ((record { job = 0; index = 0; starts = 1 }, record { balance = refl; exchange = refl; first = refl; key = refl; place = refl; some_worker = omega arith; worker_bound = omega arith; idle = refl }), (refl, tt)),
    (refl, refl, (record { due = was-live (run asked_once 2 none_of_two) refl refl; keys = refl; fair = fair-none }, tt), tt),
  ),
)

first-round : IsRound key opened 1 first
unfolding luby slice analysed_in
first-round = record {
  posted = (titled opened key, record { job = refl; open_still = refl; posted = refl; next = refl; room = omega arith; clause_room = omega arith; literal_room = omega arith });
  turned = first-turns;
  idle = record { calm = record { balance = refl; exchange = refl }; none = refl };
  told = refl;
}

second-round : IsRound key asked_once 2 second
unfolding luby slice analysed_in
second-round = record {
  posted = (titled asked_once key, record { job = refl; open_still = refl; posted = refl; next = refl; room = omega arith; clause_room = omega arith; literal_room = omega arith });
  turned = second-turns;
  idle = record { calm = record { balance = refl; exchange = refl }; none = refl };
  told = refl;
}

pub rounds : HasRounds
rounds = record { opened = may-open; asked = (first-round, (second-round, refl)) }

pub tells-of_both : TellsOfBoth
unfolding luby slice analysed_in
tells-of_both = (refl, refl)
