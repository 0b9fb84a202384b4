-- What a node exports is what its journal derived since it last took part in an exchange.
use Rattle.std.proofs.Common.{◌≡◌, ◌≢◌, eqb, ℕ, zero, suc, ◌+◌, ◌*◌, ◌%◌, ◌<◌, ◌≤◌, ◌^◌, Bool, true, false, cond, ◌==◌, ◌&&◌, List, [], ◌∷◌, ◌++◌, length, map, drop, fold, get_or, Option, Some, None, inl, inr, ◌⊎◌, refl, sym, ◌∙◌, ap, subst, arith, append_assoc, append-nil, length-append}
use Rattle.std.specs.Prelude.{filter, flat_map, slice_set}
use Rattle.std.proofs.Math.Seq.{drop-append_seam}
use Rattle.std.specs.List.{list_any}
use Rattle.std.proofs.lemmas.Bool.{or_parts, true≢false, cases_Bool, eq-eqb, eqb-true, eqb-false, ne_eqb}
use Rattle.std.proofs.lemmas.List.{drop-append-le}
use Rattle.std.proofs.lemmas.List.Concat.{flat_map-cons}
use Rattle.std.proofs.lemmas.List.Elements.{filter-append}
use Rattle.std.proofs.lemmas.List.Sums.{fold_push, fold-append}
use Rattle.std.proofs.lemmas.Nat.{mod-mul-add}
use Rattle.mal_base.specs.declared.profile.Profile.{Profile}
use Rattle.mal_base.specs.Asks.{Terms}
use Rattle.mal_base.specs.NumberedClause.{NumberedClause, Line}
use Rattle.mal_base.specs.declared.verdict.Outcome.{Outcome}
use Rattle.spec_exchange.specs.Exchange.{broadcast}
use Rattle.spec_node.specs.Load.{counted}
use Rattle.spec_node.specs.State.{Node}
use Rattle.spec_search.specs.Slice.{Sliced, slice}
use Rattle.spec_search.specs.Laws.{AreNumbered}
use Rattle.spec_search.proofs.LineLemmas.{lines-counted}
use Rattle.spec_job.specs.Counts.{runs_in, runs_of, is_opening}
use Rattle.spec_job.specs.Exported.{derived_from, exchanged_step, exchanged_from, journal_exchanged, exported_by, IsOpenedFirst, ExportsAreDerived, ExchangesTellDerived}
use Rattle.spec_job.specs.Journal.{JournalEntry, Load, Import, Run, after_entry, replay}
use Rattle.spec_job.specs.SoloMachine.{Own, Opened, Revised, Reasked, Closed, Volume, Started, Finished, Exchanged, Lease, NodeSlot, vacant, SoloMachine, unopened, solo, solo_step, place_at, first_empty, settled_by, finished, is_short, exports_of, takes_part, exports_from, marked_from, exchanged}
use Rattle.spec_job.proofs.CountLemmas.{runs_in-cons, replay-index, replay-runs}
use Rattle.spec_job.proofs.CountingLemmas.{step-low, unopened-low}
use Rattle.spec_job.proofs.FinishLemmas.{settled-leaves, finished-leaves}
use Rattle.spec_job.proofs.LeftLemmas.{IsTidy, step-tidy, solo-tidy}
use Rattle.spec_job.proofs.LowLemmas.{IsOutLow, IsLowSolo}
use Rattle.spec_job.proofs.PlacesLemmas.{get-vacant, set-place, set-here, out-within}
use Rattle.spec_job.proofs.SolvingLemmas.{lease_of}

-- a line has the number of a node of this index
abbrev is_of : ℕ → Line → Bool
is_of i l = l.id % 64 == i

filter-both : (a b : Line → Bool) (ls : List Line) → filter (λ l. a l && b l) ls ≡ filter b (filter a ls)
filter-both a b [] = refl
filter-both a b (l ∷ ls) = by_test (a l) (filter-both a b ls)
  where
    by_test : (x : Bool) → filter (λ m. a m && b m) ls ≡ filter b (filter a ls) → cond (x && b l) (l ∷ filter (λ m. a m && b m) ls) (filter (λ m. a m && b m) ls) ≡ filter b (cond x (l ∷ filter a ls) (filter a ls))
    by_test true rest = ap (λ (xs : List Line). cond (b l) (l ∷ xs) xs) rest
    by_test false rest = rest

-- lines of a node have its index in their numbers
index-in : (serial i : ℕ) (l : Line) → i ≤ 63 → l.id ≡ 2 ^ 32 + serial * 64 + i → l.id % 64 ≡ i
index-in serial i l few e =
    let whole : 2 ^ 32 + serial * 64 + i ≡ (67108864 + serial) * 64 + i = omega arith in
    ap (λ (n : ℕ). n % 64) (e ∙ whole) ∙ mod-mul-add (67108864 + serial) 64 i (omega (arith, few))

own-kept : (serial i : ℕ) (ls : List Line) → i ≤ 63 → AreNumbered serial i ls → filter (is_of i) ls ≡ ls
own-kept serial i [] few h = refl
own-kept serial i (l ∷ ls) few h =
    let mine : is_of i l ≡ true = eq-eqb (l.id % 64) i (index-in serial i l few h.0) in
    ap (λ (b : Bool). cond b (l ∷ filter (is_of i) ls) (filter (is_of i) ls)) mine ∙ ap (λ (xs : List Line). l ∷ xs) (own-kept (serial + 1) i ls few h.1)

others-left : (serial i j : ℕ) (ls : List Line) → j ≤ 63 → j ≢ i → AreNumbered serial j ls → filter (is_of i) ls ≡ []
others-left serial i j [] few other h = refl
others-left serial i j (l ∷ ls) few other h =
    let theirs : is_of i l ≡ false = ne_eqb (l.id % 64) i (λ e. other (sym (index-in serial j l few h.0) ∙ e)) in
    ap (λ (b : Bool). cond b (l ∷ filter (is_of i) ls) (filter (is_of i) ls)) theirs ∙ others-left (serial + 1) i j ls few other h.1

-- what a journal derives, part by part
derived-append : (s : Sliced) (xs ys : List JournalEntry) → derived_from s (xs ++ ys) ≡ derived_from s xs ++ derived_from (fold after_entry s xs) ys
derived-append s [] ys = refl
derived-append s (x ∷ xs) ys = ap (λ (ls : List Line). (after_entry s x).lines ++ ls) (derived-append (after_entry s x) xs ys) ∙ sym (append_assoc (after_entry s x).lines (derived_from (after_entry s x) xs) (derived_from (fold after_entry (after_entry s x) xs) ys))

-- entries that run nothing derive nothing
idle-derives : (s : Sliced) (es : List JournalEntry) → runs_in es ≡ 0 → derived_from s es ≡ []
idle-derives s [] none = refl
idle-derives s (Load r first ∷ es) none = let cons : runs_in (Load r first ∷ es) ≡ 0 + runs_in es = runs_in-cons (Load r first) es in idle-derives (after_entry s (Load r first)) es (omega (arith, cons, none))
idle-derives s (Import told ∷ es) none = let cons : runs_in (Import told ∷ es) ≡ 0 + runs_in es = runs_in-cons (Import told) es in idle-derives (after_entry s (Import told)) es (omega (arith, cons, none))
idle-derives s (Run ∷ es) none = let cons : runs_in (Run ∷ es) ≡ 1 + runs_in es = runs_in-cons Run es in absurd (omega (arith, cons, none))

-- a start that is out derives the lines of its slice
module _ (profile : Profile) (all i : ℕ) (entries : List JournalEntry) (l : Lease) (is : IsOutLow all i entries l) where
  abbrev node : Node
  node = (replay profile i (entries ++ is.before)).node

  runs : replay profile i (entries ++ l.adds) ≡ slice node
  runs = ap (λ (es : List JournalEntry). replay profile i (entries ++ es)) is.adds ∙ replay-runs profile i entries is.before

  abbrev start : Sliced
  start = replay profile i entries

  same-node : (fold after_entry start is.before).node ≡ node
  same-node = ap (λ (s : Sliced). s.node) (sym (fold-append after_entry (replay profile i []) entries is.before))

  pub out-derives : derived_from (replay profile i entries) l.adds ≡ (replay profile i (entries ++ l.adds)).lines
  out-derives =
      ap (derived_from start) is.adds
      ∙ (derived-append start is.before (Run ∷ [])
      ∙ (ap (λ (ls : List Line). ls ++ derived_from (fold after_entry start is.before) (Run ∷ [])) (idle-derives start is.before is.none)
      ∙ (append-nil (slice (fold after_entry start is.before).node).lines
      ∙ (ap (λ (n : Node). (slice n).lines) same-node ∙ ap (λ (s : Sliced). s.lines) (sym runs)))))

  pub out-numbered : AreNumbered node.serial i (replay profile i (entries ++ l.adds)).lines
  out-numbered = subst (λ (s : Sliced). AreNumbered node.serial i s.lines) (sym runs) (subst (λ (n : ℕ). AreNumbered node.serial n (slice node).lines) (replay-index profile i (entries ++ is.before)) (lines-counted node).numbered)

-- a node's journal has grown from the one with which it last took part in an exchange, and what it derived since then
-- stands in the log after its mark
record IsKnown (profile : Profile) (i : ℕ) (last : List JournalEntry) (log : List Line) (p : NodeSlot) : Type 0 where
  pub more : List JournalEntry
  pub grown : p.entries ≡ last ++ more
  pub mark : p.mark ≤ length log
  pub own : filter (is_of i) (drop p.mark log) ≡ derived_from (replay profile i last) more

-- the place of a machine
abbrev IsKnownIn : ℕ → List JournalEntry → SoloMachine → Type 0
IsKnownIn i last s = IsKnown s.ask.profile i last s.log (place_at s i)

-- answers change none of it
settled-known : (i : ℕ) (last : List JournalEntry) (o : Option ℕ) (s : SoloMachine) → IsKnownIn i last s → IsKnownIn i last (settled_by o s)
settled-known i last o s h = settled-leaves (IsKnownIn i last) (λ t more k. k) (λ t spent starved k. k) o s h

-- a place that is set with the journal and the mark as they were
same-known : (i j : ℕ) (last : List JournalEntry) (s : SoloMachine) (q : NodeSlot) → q.entries ≡ (place_at s j).entries → q.mark ≡ (place_at s j).mark → IsKnownIn i last s → IsKnown s.ask.profile i last s.log (get_or (slice_set s.places j q) i vacant)
same-known i j last s q entries mark h = by_place (set-place s.places j i q)
  where
    here : i ≡ j → IsKnown s.ask.profile i last s.log q
    here e = record {
      more = h.more;
      grown = entries ∙ (ap (λ (n : ℕ). (place_at s n).entries) (sym e) ∙ h.grown);
      mark = subst (λ (n : ℕ). n ≤ length s.log) (sym (mark ∙ ap (λ (n : ℕ). (place_at s n).mark) (sym e))) h.mark;
      own = ap (λ (n : ℕ). filter (is_of i) (drop n s.log)) (mark ∙ ap (λ (n : ℕ). (place_at s n).mark) (sym e)) ∙ h.own;
    }

    by_place : ((i ≡ j) × (get_or (slice_set s.places j q) i vacant ≡ q)) ⊎ (get_or (slice_set s.places j q) i vacant ≡ place_at s i) → IsKnown s.ask.profile i last s.log (get_or (slice_set s.places j q) i vacant)
    by_place (inl k) = subst (IsKnown s.ask.profile i last s.log) (sym k.1) (here k.0)
    by_place (inr k) = subst (IsKnown s.ask.profile i last s.log) (sym k) h

-- lines after a log
behind : (i mark : ℕ) (log lines : List Line) → mark ≤ length log → filter (is_of i) (drop mark (log ++ lines)) ≡ filter (is_of i) (drop mark log) ++ filter (is_of i) lines
behind i mark log lines low = ap (filter (is_of i)) (drop-append-le mark log lines low) ∙ filter-append (is_of i) (drop mark log) lines

-- a slice that was run
ran-known : (i j : ℕ) (last : List JournalEntry) (s : SoloMachine) (l : Lease) → i ≤ 63 → (place_at s j).out ≡ Some l → IsLowSolo s → IsKnownIn i last s → IsKnown s.ask.profile i last (s.log ++ (replay s.ask.profile j ((place_at s j).entries ++ l.adds)).lines) (get_or (slice_set s.places j (record (place_at s j) { entries = (place_at s j).entries ++ l.adds; out = None })) i vacant)
ran-known i j last s l few out low h = by_place (set-place s.places j i q) (cases_Bool (eqb i j))
  where
    p : NodeSlot
    p = place_at s j

    q : NodeSlot
    q = record p { entries = p.entries ++ l.adds; out = None }

    lines : List Line
    lines = (replay s.ask.profile j (p.entries ++ l.adds)).lines

    within : j < length s.places
    within = out-within s.places j l out

    small : j ≤ 63
    small = let inside : j < length s.places = within in let most : length s.places ≤ 64 = low.count in omega arith

    is : IsOutLow (runs_of s.places) j p.entries l
    is = (low.places_low j small).out l out

    longer : length (s.log ++ lines) ≡ length s.log + length lines
    longer = length-append s.log lines

    node_is : Node
    node_is = (replay s.ask.profile j (p.entries ++ is.before)).node

    numbered : AreNumbered node_is.serial j lines
    numbered = out-numbered s.ask.profile (runs_of s.places) j p.entries l is

    -- another node's
    other : i ≢ j → get_or (slice_set s.places j q) i vacant ≡ place_at s i → IsKnown s.ask.profile i last (s.log ++ lines) (get_or (slice_set s.places j q) i vacant)
    other differ same = subst (IsKnown s.ask.profile i last (s.log ++ lines)) (sym same) (record {
      more = h.more;
      grown = h.grown;
      mark = omega (arith, h.mark, longer);
      own = behind i (place_at s i).mark s.log lines h.mark ∙ (ap (λ (ls : List Line). filter (is_of i) (drop (place_at s i).mark s.log) ++ ls) (others-left node_is.serial i j lines small (λ e. differ (sym e)) numbered) ∙ (append-nil (filter (is_of i) (drop (place_at s i).mark s.log)) ∙ h.own));
    })

    -- its own
    grown-own : IsKnownIn j last s → IsKnown s.ask.profile j last (s.log ++ lines) q
    grown-own k = record {
      more = k.more ++ l.adds;
      grown = ap (λ (es : List JournalEntry). es ++ l.adds) k.grown ∙ append_assoc last k.more l.adds;
      mark = omega (arith, k.mark, longer);
      own =
          behind j p.mark s.log lines k.mark
          ∙ (ap (λ (ls : List Line). filter (is_of j) (drop p.mark s.log) ++ ls) (own-kept node_is.serial j lines small numbered)
          ∙ (ap (λ (ls : List Line). ls ++ lines) k.own
          ∙ sym (derived-append (replay s.ask.profile j last) k.more l.adds
          ∙ ap (λ (ls : List Line). derived_from (replay s.ask.profile j last) k.more ++ ls) (ap (λ (x : Sliced). derived_from x l.adds) (sym (fold-append after_entry (replay s.ask.profile j []) last k.more)) ∙ (ap (λ (es : List JournalEntry). derived_from (replay s.ask.profile j es) l.adds) (sym k.grown) ∙ out-derives s.ask.profile (runs_of s.places) j p.entries l is)))));
    }

    by_place : ((i ≡ j) × (get_or (slice_set s.places j q) i vacant ≡ q)) ⊎ (get_or (slice_set s.places j q) i vacant ≡ place_at s i) → (eqb i j ≡ true) ⊎ (eqb i j ≡ false) → IsKnown s.ask.profile i last (s.log ++ lines) (get_or (slice_set s.places j q) i vacant)
    by_place (inl k) test = subst (λ (n : ℕ). IsKnown s.ask.profile n last (s.log ++ lines) (get_or (slice_set s.places j q) n vacant)) (sym k.0) (subst (IsKnown s.ask.profile j last (s.log ++ lines)) (sym (set-here s.places j q within)) (grown-own (subst (λ (n : ℕ). IsKnownIn n last s) k.0 h)))
    by_place (inr k) (inl e) = subst (λ (n : ℕ). IsKnown s.ask.profile n last (s.log ++ lines) (get_or (slice_set s.places j q) n vacant)) (sym (eqb-true i j e)) (subst (IsKnown s.ask.profile j last (s.log ++ lines)) (sym (set-here s.places j q within)) (grown-own (subst (λ (n : ℕ). IsKnownIn n last s) (eqb-true i j e) h)))
    by_place (inr k) (inr e) = other (eqb-false i j e) k

finished-known : (i j : ℕ) (last : List JournalEntry) (s : SoloMachine) (out : Option Lease) (o : Outcome) → i ≤ 63 → (place_at s j).out ≡ out → IsLowSolo s → IsKnownIn i last s → IsKnownIn i last (finished s j (place_at s j) out o)
finished-known i j last s out o few e low h = finished-leaves (IsKnownIn i last) (λ t more k. k) (λ t spent starved k. k) s j (place_at s j) out o h (λ l f. ran-known i j last s l few (e ∙ f) low h) (same-known i j last s (record (place_at s j) { out = None }) refl refl h)

-- an exchange
pub marked-at : (volume mark k : ℕ) (ps : List NodeSlot) (i : ℕ) → i < length ps → get_or (marked_from volume mark k ps) i vacant ≡ cond (takes_part volume (k + i) (get_or ps i vacant)) (record (get_or ps i vacant) { mark = mark }) (get_or ps i vacant)
marked-at volume mark k [] i low = absurd (omega arith)
marked-at volume mark k (p ∷ ps) zero low = let same : k ≡ k + 0 = omega arith in ap (λ (n : ℕ). cond (takes_part volume n p) (record p { mark = mark }) p) same
marked-at volume mark k (p ∷ ps) (suc i) low =
    let same : (k + 1) + i ≡ k + suc i = omega arith in
    let p-at : NodeSlot = get_or ps i vacant in
    marked-at volume mark (k + 1) ps i (omega (arith, low)) ∙ ap (λ (n : ℕ). cond (takes_part volume n p-at) (record p-at { mark = mark }) p-at) same

drop-all : (ls : List Line) → drop (length ls) ls ≡ []
drop-all [] = refl
drop-all (l ∷ ls) = drop-all ls

exchanged-known : (i : ℕ) (last : List JournalEntry) (s : SoloMachine) → i < length s.places → IsKnownIn i last s → IsKnownIn i (exchanged_step i s last Exchanged) (exchanged s)
exchanged-known i last s within h = subst (IsKnown s.ask.profile i (exchanged_step i s last Exchanged) s.log) (sym (marked-at s.volume (length s.log) 0 s.places i within ∙ ap (λ (n : ℕ). cond (takes_part s.volume n p) (record p { mark = length s.log }) p) zero_is)) (by_part (takes_part s.volume i p))
  where
    p : NodeSlot
    p = place_at s i

    zero_is : 0 + i ≡ i
    zero_is = omega arith

    by_part : (b : Bool) → IsKnown s.ask.profile i (cond b p.entries last) s.log (cond b (record p { mark = length s.log }) p)
    by_part true = record { more = []; grown = sym (append-nil p.entries); mark = omega arith; own = ap (filter (is_of i)) (drop-all s.log) }
    by_part false = h

step-known : (i : ℕ) (last : List JournalEntry) (s : SoloMachine) (o : Own) → is_opening o ≡ false → i ≤ 63 → IsTidy s → IsLowSolo s → IsKnownIn i last s → IsKnownIn i (exchanged_step i s last o) (solo_step s o)
step-known i last s (Opened ask) none few tidy low h = absurd (true≢false none)
step-known i last s (Revised r) none few tidy low h = settled-known i last (first_empty s.log) (record s { revisions = s.revisions ++ r ∷ [] }) h
step-known i last s (Reasked w) none few tidy low h = h
step-known i last s Closed none few tidy low h = h
step-known i last s (Volume v) none few tidy low h = h
step-known i last s (Started j) none few tidy low h = same-known i j last s (record (place_at s j) { out = Some (lease_of s j); starts = (place_at s j).starts + 1 }) refl refl h
step-known i last s (Finished j o) none few tidy low h = finished-known i j last s (place_at s j).out o few refl low h
step-known i last s Exchanged none few tidy low h = exchanged-known i last s (omega (arith, few, tidy.places.count)) h

events-known : (i : ℕ) (last : List JournalEntry) (s : SoloMachine) (os : List Own) → list_any is_opening os ≡ false → i ≤ 63 → IsTidy s → IsLowSolo s → IsKnownIn i last s → IsKnownIn i (exchanged_from i s last os) (fold solo_step s os)
events-known i last s [] none few tidy low h = h
events-known i last s (o ∷ os) none few tidy low h =
    let parts = or_parts (is_opening o) (list_any is_opening os) none in
    events-known i (exchanged_step i s last o) (solo_step s o) os parts.1 few (step-tidy s o tidy) (step-low s o low) (step-known i last s o parts.0 few tidy low h)

-- nothing has run before the first event, nor after an opening
opened-known : (i : ℕ) (ask : Terms) → IsKnownIn i [] (record unopened { ask = ask })
opened-known i ask = subst (IsKnown ask.profile i [] []) (sym (get-vacant 64 i)) (record { more = []; grown = refl; mark = omega arith; own = refl })

run-known : (i : ℕ) (events : List Own) → IsOpenedFirst events → i ≤ 63 → IsKnownIn i (journal_exchanged i events) (solo events)
run-known i [] none few = opened-known i unopened.ask
run-known i (Opened ask ∷ os) none few = events-known i [] (solo_step unopened (Opened ask)) os none few (step-tidy unopened (Opened ask) (solo-tidy [])) (step-low unopened (Opened ask) unopened-low) (opened-known i ask)
run-known i (Revised r ∷ os) none few = events-known i [] unopened (Revised r ∷ os) none few (solo-tidy []) unopened-low (opened-known i unopened.ask)
run-known i (Reasked w ∷ os) none few = events-known i [] unopened (Reasked w ∷ os) none few (solo-tidy []) unopened-low (opened-known i unopened.ask)
run-known i (Closed ∷ os) none few = events-known i [] unopened (Closed ∷ os) none few (solo-tidy []) unopened-low (opened-known i unopened.ask)
run-known i (Volume v ∷ os) none few = events-known i [] unopened (Volume v ∷ os) none few (solo-tidy []) unopened-low (opened-known i unopened.ask)
run-known i (Started j ∷ os) none few = events-known i [] unopened (Started j ∷ os) none few (solo-tidy []) unopened-low (opened-known i unopened.ask)
run-known i (Finished j o ∷ os) none few = events-known i [] unopened (Finished j o ∷ os) none few (solo-tidy []) unopened-low (opened-known i unopened.ask)
run-known i (Exchanged ∷ os) none few = events-known i [] unopened (Exchanged ∷ os) none few (solo-tidy []) unopened-low (opened-known i unopened.ask)

pub exports-are_derived : ExportsAreDerived
exports-are_derived events i none few =
    let s : SoloMachine = solo events in
    let k : IsKnownIn i (journal_exchanged i events) s = run-known i events none few in
    let p : NodeSlot = place_at s i in
    let last : List JournalEntry = journal_exchanged i events in
    let later : k.more ≡ drop (length last) p.entries = sym (ap (drop (length last)) k.grown ∙ drop-append_seam last k.more) in
    ap (map (λ (l : Line). held l)) (filter-both (is_of i) is_short (drop p.mark s.log) ∙ ap (filter is_short) (k.own ∙ ap (derived_from (replay s.ask.profile i last)) later))
  where
    held : Line → NumberedClause
    held l = record { id = l.id; lits = l.lits }

-- the exports of all places, index by index
exports-mapped : (volume k : ℕ) (log : List Line) (ps : List NodeSlot) (f : ℕ → List NumberedClause) → ((j : ℕ) → j < length ps → cond (takes_part volume (k + j) (get_or ps j vacant)) (exports_of log (k + j) (get_or ps j vacant)) [] ≡ f (k + j)) → exports_from volume log k ps ≡ flat_map f (counted k (length ps))
exports-mapped volume k log [] f h = refl
exports-mapped volume k log (p ∷ ps) f h =
    let zero_is : k + 0 ≡ k = omega arith in
    let first : cond (takes_part volume k p) (exports_of log k p) [] ≡ f k = subst (λ (n : ℕ). cond (takes_part volume n p) (exports_of log n p) [] ≡ f n) zero_is (h 0 (omega arith)) in
    let rest : exports_from volume log (k + 1) ps ≡ flat_map f (counted (k + 1) (length ps)) = exports-mapped volume (k + 1) log ps f (λ j low. let next : k + suc j ≡ (k + 1) + j = omega arith in subst (λ (n : ℕ). cond (takes_part volume n (get_or ps j vacant)) (exports_of log n (get_or ps j vacant)) [] ≡ f n) next (h (suc j) (omega (arith, low)))) in
    ap (λ (xs : List NumberedClause). xs ++ exports_from volume log (k + 1) ps) first ∙ (ap (λ (xs : List NumberedClause). f k ++ xs) rest ∙ sym (flat_map-cons f k (counted (k + 1) (length ps))))

pub exchanges-tell_derived : ExchangesTellDerived
exchanges-tell_derived events none =
    let s : SoloMachine = solo events in
    let count : length s.places ≡ 64 = (solo-tidy events).places.count in
    let all : exports_from s.volume s.log 0 s.places ≡ flat_map (exported_by events) (counted 0 (length s.places)) = exports-mapped s.volume 0 s.log s.places (exported_by events) (λ j low. let same : 0 + j ≡ j = omega arith in ap (λ (n : ℕ). cond (takes_part s.volume n (get_or s.places j vacant)) (exports_of s.log n (get_or s.places j vacant)) []) same ∙ (ap (λ (xs : List NumberedClause). cond (takes_part s.volume j (place_at s j)) xs []) (exports-are_derived events j none (omega (arith, low, count))) ∙ ap (exported_by events) (sym same))) in
    ap (λ (x : SoloMachine). x.broadcasts) (fold_push solo_step unopened events Exchanged) ∙ ap (λ (xs : List NumberedClause). s.broadcasts ++ broadcast xs ∷ []) (all ∙ ap (λ (n : ℕ). flat_map (exported_by events) (counted 0 n)) count)
