-- A history that is written is read again.
use Rattle.std.proofs.Common.{inl, inr, ◌≡◌, ℕ, suc, ◌+◌, ◌<◌, ◌≤◌, ◌^◌, Bool, true, false, cond, ◌||◌, ◌==◌, List, [], ◌∷◌, map, flat_map, length, codes, pos, Result, Ok, refl, sym, ap, subst, ◌∙◌, arith}
use Rattle.std.specs.Fmt.{digits}
use Rattle.std.specs.List.{AllByRecursion, list_any}
use Rattle.std.proofs.lemmas.Bool.Decides.{nat_tests}
use Rattle.std.proofs.lemmas.List.Concat.{flat_map-cons}
use Rattle.mal_base.specs.Limits.{limits}
use Rattle.mal_base.specs.Profiles.{number, last_profile}
use Rattle.mal_base.specs.declared.profile.Profile.{Profile}
use Rattle.spec_text.specs.Asks.{first_profile, is_first, profile_words}
use Rattle.spec_text.specs.Lines.{AreRows}
use Rattle.spec_text.specs.Numbers.{decimal_word}
use Rattle.spec_text.proofs.Asked.{first-is, number-bound}
use Rattle.spec_text.proofs.Names.{name-clean}
use Rattle.spec_text.proofs.Numerals.{numbers_read_again}
use Rattle.spec_dimacs.specs.Reading.{◌>>=◌}
use Rattle.spec_dimacs.proofs.Again.{rows_again}
use Rattle.mal_history.specs.declared.event.Event.{Event}
use Rattle.mal_history.specs.declared.event.Event.TheVariants.{Open, Revise, Reask, Close, Balance, Start, Finish, Exchange, Leave, Arrive}
use Rattle.mal_history.specs.declared.event.Share.{Share}
use Rattle.mal_history.specs.declared.line.Header.{Header}
use Rattle.mal_history.specs.Differ.{IsShare, IsWritable}
use Rattle.mal_history.specs.Text.{share_words, event_words, is_of_version_2, is_of_version_3, version_of, header_words, history_text}
use Rattle.mal_history.specs.Reading.{Fault, header_of, on_line, events_from, read_rows, most_events}
use Rattle.mal_history.specs.Grammar.{Says, SayProfile, SayShares, SaysVersion, SpellsEvent}
use Rattle.mal_history.specs.Formed.{IsVolume, IsSeat, IsEvent, IsHistory, lines_from}
use Rattle.mal_history.specs.Laws.{WrittenIsRead}
use Rattle.mal_history.proofs.Differ.{event-rows, header-row}
use Rattle.mal_history.proofs.Words.{header-read, other-is}
use Rattle.mal_history.proofs.Spelled.{spelled-read}
use Rattle.mal_history.proofs.Rows.{one-more}
use Rattle.mal_history.specs.Sizes.{most_workers, last_node}

-- an event in form can be written
shares-writable : (shares : List Share) → AllByRecursion IsVolume shares → AllByRecursion IsShare shares
shares-writable [] h = tt
shares-writable (s ∷ ss) h =
    (record { tenant = name-clean s.tenant h.0.names.0; job = name-clean s.job h.0.names.1; volume = omega (arith, h.0.bound) }, shares-writable ss h.1)

writable : (workers : ℕ) (e : Event) → workers ≤ most_workers → IsEvent workers e → IsWritable e
writable workers (Open tenant job ask) low h = (name-clean tenant h.0.0, name-clean job h.0.1, omega (arith, h.1.priority_bound), omega (arith, h.1.demand_bound), omega (arith, h.1.slices_bound))
writable workers (Revise tenant job number) low h = (name-clean tenant h.0.0, name-clean job h.0.1, omega (arith, h.2))
writable workers (Reask tenant job weight) low h = (name-clean tenant h.0.0, name-clean job h.0.1, omega (arith, h.1.priority_bound), omega (arith, h.1.demand_bound))
writable workers (Close tenant job) low h = (name-clean tenant h.0, name-clean job h.1)
writable workers (Balance volumes) low h = shares-writable volumes h
writable workers (Start tenant job index worker) low h = (name-clean tenant h.0.0, name-clean job h.0.1, omega (arith, h.1.index_bound), omega (arith, h.1.worker_bound, low))
writable workers (Finish tenant job index worker outcome) low h = (name-clean tenant h.0.0, name-clean job h.0.1, omega (arith, h.1.index_bound), omega (arith, h.1.worker_bound, low))
writable workers (Exchange tenant job) low h = (name-clean tenant h.0, name-clean job h.1)
writable workers (Leave tenant job) low h = absurd h
writable workers (Arrive tenant job) low h = absurd h

all-writable : (workers : ℕ) (events : List Event) → workers ≤ most_workers → AllByRecursion (IsEvent workers) events → AllByRecursion IsWritable events
all-writable workers [] low h = tt
all-writable workers (e ∷ events) low h = (writable workers e low h.0, all-writable workers events low h.1)

-- its words spell it
says : (low high n : ℕ) → low ≤ n → n ≤ high → high < 2 ^ 63 → Says low high (decimal_word n) n
says low high n h k wide = (numbers_read_again (pos n) high k wide, h, k)

shares-say : (shares : List Share) → AllByRecursion IsVolume shares → SayShares (flat_map share_words shares) shares
shares-say [] h = refl
shares-say (s ∷ ss) h =
    (flat_map share_words ss, record { volume = decimal_word s.volume; row = flat_map-cons share_words s ss; names = h.0.names; says_volume = says 0 limits.demand s.volume (omega arith) h.0.bound (omega arith) }, shares-say ss h.1)

profile-says : (p : Profile) → SayProfile (profile_words p) p
profile-says p = by_test (is_first p) refl
  where
    by_test : (b : Bool) → is_first p ≡ b → SayProfile (cond b [] (decimal_word (number p) ∷ [])) p
    by_test true e = first-is p e
    by_test false e = says (first_profile + 1) last_profile (number p) (other-is p e) (number-bound p) (omega arith)

seat-says : (workers index worker : ℕ) → workers ≤ most_workers → IsSeat workers index worker → Says 0 last_node (decimal_word index) index × Says 1 workers (decimal_word worker) worker
seat-says workers index worker low h = (says 0 last_node index (omega arith) h.index_bound (omega arith), says 1 workers worker h.some_worker h.worker_bound (omega (arith, low)))

spelled : (version workers : ℕ) (e : Event) → workers ≤ most_workers → (is_of_version_2 e ≡ true → version ≡ 2) → IsEvent workers e → SpellsEvent version workers (event_words e) e
spelled version workers (Open tenant job ask) low told h = record {
  priority = decimal_word ask.priority;
  demand = decimal_word ask.demand;
  slices = decimal_word ask.slices;
  profile = profile_words ask.profile;
  row = refl;
  names = h.0;
  says_priority = says 1 limits.priority ask.priority h.1.some_priority h.1.priority_bound (omega arith);
  says_demand = says 1 limits.demand ask.demand h.1.some_demand h.1.demand_bound (omega arith);
  says_slices = says 1 limits.slices ask.slices h.1.some_slices h.1.slices_bound (omega arith);
  say_profile = profile-says ask.profile;
}
spelled version workers (Revise tenant job number) low told h = record { word = decimal_word number; row = refl; names = h.0; says_number = says 1 limits.revisions number h.1 h.2 (omega arith) }
spelled version workers (Reask tenant job weight) low told h = record {
  priority = decimal_word weight.priority;
  demand = decimal_word weight.demand;
  row = refl;
  version_is = told refl;
  names = h.0;
  says_priority = says 1 limits.priority weight.priority h.1.some_priority h.1.priority_bound (omega arith);
  says_demand = says 1 limits.demand weight.demand h.1.some_demand h.1.demand_bound (omega arith);
}
spelled version workers (Close tenant job) low told h = (refl, h)
spelled version workers (Balance volumes) low told h = record { behind = flat_map share_words volumes; row = refl; says_volumes = shares-say volumes h }
spelled version workers (Start tenant job index worker) low told h =
    let seat = seat-says workers index worker low h.1 in
    record { at = decimal_word index; by = decimal_word worker; row = refl; names = h.0; says_index = seat.0; says_worker = seat.1 }
spelled version workers (Finish tenant job index worker outcome) low told h =
    let seat = seat-says workers index worker low h.1 in
    record { at = decimal_word index; by = decimal_word worker; row = refl; names = h.0; says_index = seat.0; says_worker = seat.1 }
spelled version workers (Exchange tenant job) low told h = (refl, h)
spelled version workers (Leave tenant job) low told h = absurd h
spelled version workers (Arrive tenant job) low told h = absurd h

-- the lines of events are read again in a version that has them
or-left : (a b : Bool) → a ≡ true → (a || b) ≡ true
or-left true b e = refl
or-left false b e = absurd (cc)

or-right : (a b : Bool) → b ≡ true → (a || b) ≡ true
or-right true b e = refl
or-right false b e = e

events-again : (max version workers line count : ℕ) (events : List Event) → workers ≤ most_workers → (list_any is_of_version_2 events ≡ true → version ≡ 2) → AllByRecursion (IsEvent workers) events → count + length events ≤ max
    → events_from max version workers line count (map event_words events) ≡ Ok (record { workers = workers; events = events; lines = lines_from (suc line) events })
events-again max version workers line count [] low told h few = refl
events-again max version workers line count (e ∷ events) low told h few =
    let one : SpellsEvent version workers (event_words e) e = spelled version workers e low (λ is. told (or-left (is_of_version_2 e) (list_any is_of_version_2 events) is)) h.0 in
    one-more max version workers line count (event_words e) (map event_words events) e (record { workers = workers; events = events; lines = lines_from (suc (suc line)) events }) (spelled-read version workers (event_words e) e one) (omega (arith, few))
    (events-again max version workers (suc line) (suc count) events low (λ are. told (or-right (is_of_version_2 e) (list_any is_of_version_2 events) are)) h.1 (omega (arith, few)))

-- the lines can be written
pub history-rows : (workers : ℕ) (events : List Event) → IsHistory workers events → AreRows (header_words (version_of events) workers ∷ map event_words events)
history-rows workers events h = (header-row (version_of events) workers, event-rows events (all-writable workers events h.bound h.formed))

-- the version that is written is one that is read, since no move is in form
no-move : (workers : ℕ) (e : Event) → IsEvent workers e → is_of_version_3 e ≡ false
no-move workers (Open tenant job ask) h = refl
no-move workers (Revise tenant job number) h = refl
no-move workers (Reask tenant job weight) h = refl
no-move workers (Close tenant job) h = refl
no-move workers (Balance volumes) h = refl
no-move workers (Start tenant job index worker) h = refl
no-move workers (Finish tenant job index worker outcome) h = refl
no-move workers (Exchange tenant job) h = refl
no-move workers (Leave tenant job) h = absurd h
no-move workers (Arrive tenant job) h = absurd h

no-moves : (workers : ℕ) (events : List Event) → AllByRecursion (IsEvent workers) events → list_any is_of_version_3 events ≡ false
no-moves workers [] h = refl
no-moves workers (e ∷ events) h = ap (λ (b : Bool). b || list_any is_of_version_3 events) (no-move workers e h.0) ∙ no-moves workers events h.1

abbrev version-for : Bool → ℕ
version-for b = cond b 2 1

version-is : (workers : ℕ) (events : List Event) → AllByRecursion (IsEvent workers) events → version_of events ≡ version-for (list_any is_of_version_2 events)
version-is workers events h = ap (λ (b : Bool). cond b 3 (version-for (list_any is_of_version_2 events))) (no-moves workers events h)

one-word : decimal_word 1 ≡ codes "1"
unfolding digits
one-word = refl

two-word : decimal_word 2 ≡ codes "2"
unfolding digits
two-word = refl

version-says : (workers : ℕ) (events : List Event) → AllByRecursion (IsEvent workers) events → SaysVersion (decimal_word (version_of events)) (version_of events)
version-says workers events h = subst (λ (v : ℕ). SaysVersion (decimal_word v) v) (sym (version-is workers events h)) (by_test (list_any is_of_version_2 events))
  where
    by_test : (b : Bool) → SaysVersion (decimal_word (version-for b)) (version-for b)
    by_test true = inr (two-word, refl)
    by_test false = inl (one-word, refl)

header-again : (workers : ℕ) (events : List Event) → IsHistory workers events → header_of (header_words (version_of events) workers) ≡ Ok (record { version = version_of events; workers = workers })
header-again workers events h =
    header-read (header_words (version_of events) workers) (version_of events) workers
    (record { version_word = decimal_word (version_of events); workers_word = decimal_word workers; row = refl; says_version = version-says workers events h.formed; says_workers = says 1 most_workers workers h.some h.bound (omega arith) })

pub written-read : WrittenIsRead
unfolding history_text
written-read workers events h =
    let version : ℕ = version_of events in
    let rows : List (List (List ℕ)) = header_words version workers ∷ map event_words events in
    ap read_rows (rows_again rows (history-rows workers events h))
    ∙ ap (λ (r : Result Header Fault). on_line 1 r >>= λ x. events_from most_events x.version x.workers 1 0 (map event_words events)) (header-again workers events h)
    ∙ events-again most_events version workers 1 0 events h.bound (λ has. version-is workers events h.formed ∙ ap version-for has) h.formed (omega (arith, h.few))
