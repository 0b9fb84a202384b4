-- The lines of a text spell the history that they are read as, and no other.
use Rattle.std.proofs.Common.{◌≡◌, ℕ, suc, ◌+◌, ◌<◌, ◌≤◌, Bool, true, false, cond, List, [], ◌∷◌, map, length, Result, Ok, Err, refl, sym, ap, ◌∙◌, subst, arith}
use Rattle.std.specs.Prelude.{nat_lt}
use Rattle.std.specs.List.{AllByRecursion}
use Rattle.std.proofs.lemmas.Bool.{lt-ltb, ltb-true}
use Rattle.spec_dimacs.specs.Reading.{◌>>=◌}
use Rattle.mal_history.specs.declared.event.Event.{Event}
use Rattle.mal_history.specs.declared.event.Event.TheVariants.{Open, Revise, Reask, Close, Balance, Start, Finish, Exchange, Leave, Arrive}
use Rattle.mal_history.specs.declared.event.Share.{Share}
use Rattle.mal_history.specs.declared.line.Header.{Header}
use Rattle.mal_history.specs.Reading.{Read, Fault, header_of, event_of, next_event, on_line, with_event, events_from, history_from, most_events}
use Rattle.mal_history.specs.Reading.Fault.{TooLong}
use Rattle.mal_history.specs.Grammar.{Row, numbered, AllSpell, SayShares, SpellsEvent, SpellsHeader}
use Rattle.mal_history.specs.Formed.{IsVolume, IsEvent}
use Rattle.mal_history.specs.Laws.{SpelledIsRead, SpelledIsFormed}
use Rattle.mal_history.proofs.Words.{bind-ok, ok-is, asks-formed, weights-formed, header-read, read-header}
use Rattle.mal_history.proofs.Spelled.{spelled-read, read-spelled}

-- the event of a line after fewer events than there may be
next-read : (max version workers count : ℕ) (words : List (List ℕ)) (e : Event) → event_of version workers words ≡ Ok e → count < max → next_event max version workers count words ≡ Ok e
next-read max version workers count words e h low =
    ap (λ (r : Result Event Fault). r >>= λ x. cond (nat_lt count max) (Ok x) (Err TooLong)) h ∙ ap (λ (b : Bool). cond b (Ok e) (Err TooLong)) (lt-ltb count max low)

record Next (max version workers count : ℕ) (words : List (List ℕ)) (e : Event) : Type 0 where
  pub event : event_of version workers words ≡ Ok e
  pub low : count < max

read-next : (max version workers count : ℕ) (words : List (List ℕ)) (e : Event) → next_event max version workers count words ≡ Ok e → Next max version workers count words e
read-next max version workers count words e h =
    let x = bind-ok (event_of version workers words) (λ x. cond (nat_lt count max) (Ok x) (Err TooLong)) e h in
    by_test x.0 x.1 (nat_lt count max) refl x.2
  where
    by_test : (x : Event) → event_of version workers words ≡ Ok x → (b : Bool) → nat_lt count max ≡ b → ◌≡◌ {A = Result Event Fault} (cond b (Ok x) (Err TooLong)) (Ok e) → Next max version workers count words e
    by_test x r true t k = record { event = r ∙ k; low = ltb-true count max t }
    by_test x r false t k = absurd (cc)

on-line-ok : {A : Type 0} (line : ℕ) (r : Result A Fault) (x : A) → on_line line r ≡ Ok x → r ≡ Ok x
on-line-ok line (Ok y) x e = let h : y ≡ x = cc in rw h refl
on-line-ok line (Err d) x e = absurd (cc)

-- one more line with an event
pub one-more : (max version workers line count : ℕ) (words : List (List ℕ)) (rows : List (List (List ℕ))) (e : Event) (h : Read) → event_of version workers words ≡ Ok e → count < max
    → events_from max version workers (suc line) (suc count) rows ≡ Ok h → events_from max version workers line count (words ∷ rows) ≡ Ok (with_event (suc line) e h)
one-more max version workers line count [] rows e h q low k = absurd (cc)
one-more max version workers line count (w ∷ ws) rows e h q low k =
    ap (λ (r : Result Event Fault). on_line (suc line) r >>= λ x. events_from max version workers (suc line) (suc count) rows >>= λ y. Ok (with_event (suc line) x y)) (next-read max version workers count (w ∷ ws) e q low)
    ∙ ap (λ (r : Result Read (ℕ × Fault)). r >>= λ y. Ok (with_event (suc line) e y)) k

read-of : ℕ → List Event → List ℕ → Read
read-of workers events lines = record { workers = workers; events = events; lines = lines }

lines-of : List Row → List ℕ
lines-of rows = map (λ row. row.line) rows

-- lines that spell events are read as these
all-read : (max version workers line count : ℕ) (rows : List (List (List ℕ))) (events : List Event) → AllSpell version workers (numbered line rows) events → count + length events ≤ max
    → events_from max version workers line count rows ≡ Ok (read-of workers events (lines-of (numbered line rows)))
unfolding read-of lines-of
all-read max version workers line count [] events h few = ap (λ (es : List Event). Ok (read-of workers es [])) (sym h)
all-read max version workers line count ([] ∷ rows) events h few = all-read max version workers (suc line) count rows events h few
all-read max version workers line count ((w ∷ ws) ∷ rows) [] h few = absurd h
all-read max version workers line count ((w ∷ ws) ∷ rows) (e ∷ events) h few =
    one-more max version workers line count (w ∷ ws) rows e (read-of workers events (lines-of (numbered (suc line) rows))) (spelled-read version workers (w ∷ ws) e h.0) (omega (arith, few)) (all-read max version workers (suc line) (suc count) rows events h.1 (omega (arith, few)))

-- and what is read of lines they spell
record AllRead (max version workers line count : ℕ) (rows : List (List (List ℕ))) (h : Read) : Type 0 where
  pub workers_are : h.workers ≡ workers
  pub events : AllSpell version workers (numbered line rows) h.events
  pub lines : h.lines ≡ map (λ row. row.line) (numbered line rows)
  pub few : count + length h.events ≤ max

read-all : (max version workers line count : ℕ) (rows : List (List (List ℕ))) (h : Read) → count ≤ max → events_from max version workers line count rows ≡ Ok h → AllRead max version workers line count rows h
unfolding read-of
read-all max version workers line count [] h low e =
    let same : read-of workers [] [] ≡ h = ok-is (read-of workers [] []) h e in
    subst (λ (x : Read). AllRead max version workers line count [] x) same (record { workers_are = refl; events = refl; lines = refl; few = omega (arith, low) })
read-all max version workers line count ([] ∷ rows) h low e =
    let r : AllRead max version workers (suc line) count rows h = read-all max version workers (suc line) count rows h low e in
    record { workers_are = r.workers_are; events = r.events; lines = r.lines; few = r.few }
read-all max version workers line count ((w ∷ ws) ∷ rows) h low e =
    let x = bind-ok (on_line (suc line) (next_event max version workers count (w ∷ ws))) (λ x. events_from max version workers (suc line) (suc count) rows >>= λ y. Ok (with_event (suc line) x y)) h e in
    let y = bind-ok (events_from max version workers (suc line) (suc count) rows) (λ y. Ok (with_event (suc line) x.0 y)) h x.2 in
    let n : Next max version workers count (w ∷ ws) x.0 = read-next max version workers count (w ∷ ws) x.0 (on-line-ok (suc line) (next_event max version workers count (w ∷ ws)) x.0 x.1) in
    let r : AllRead max version workers (suc line) (suc count) rows y.0 = read-all max version workers (suc line) (suc count) rows y.0 (omega (arith, n.low)) y.1 in
    subst (λ (z : Read). AllRead max version workers line count ((w ∷ ws) ∷ rows) z) (ok-is (with_event (suc line) x.0 y.0) h y.2) (record {
      workers_are = r.workers_are;
      events = (read-spelled version workers (w ∷ ws) x.0 n.event, r.events);
      lines = ap (λ (ls : List ℕ). suc line ∷ ls) r.lines;
      few = omega (arith, r.few);
    })

-- the first line with words is the header
row-of : ℕ → List (List ℕ) → Row
row-of line words = record { line = line; words = words }

head-is : {X : Type 0} (x y : X) (xs ys : List X) → x ∷ xs ≡ y ∷ ys → x ≡ y
head-is x y xs ys e = cc

tail-is : {X : Type 0} (x y : X) (xs ys : List X) → x ∷ xs ≡ y ∷ ys → xs ≡ ys
tail-is x y xs ys e = cc

lines-read : (max line version : ℕ) (rows : List (List (List ℕ))) (first : Row) (others : List Row) (h : Read) → numbered line rows ≡ first ∷ others → SpellsHeader first.words version h.workers → AllSpell version h.workers others h.events → h.lines ≡ map (λ row. row.line) others → length h.events ≤ max
    → history_from max line rows ≡ Ok h
unfolding read-of lines-of row-of
lines-read max line version [] first others h e header events lines few = absurd (cc)
lines-read max line version ([] ∷ rows) first others h e header events lines few = lines-read max (suc line) version rows first others h e header events lines few
lines-read max line version ((w ∷ ws) ∷ rows) first others h e header events lines few =
    let one : row-of (suc line) (w ∷ ws) ≡ first = head-is (row-of (suc line) (w ∷ ws)) first (numbered (suc line) rows) others e in
    let more : numbered (suc line) rows ≡ others = tail-is (row-of (suc line) (w ∷ ws)) first (numbered (suc line) rows) others e in
    let words : w ∷ ws ≡ first.words = ap (λ (r : Row). r.words) one in
    let head : header_of (w ∷ ws) ≡ Ok (record { version = version; workers = h.workers }) = header-read (w ∷ ws) version h.workers (subst (λ (x : List (List ℕ)). SpellsHeader x version h.workers) (sym words) header) in
    let body : events_from max version h.workers (suc line) 0 rows ≡ Ok (read-of h.workers h.events (lines-of (numbered (suc line) rows))) = all-read max version h.workers (suc line) 0 rows h.events (subst (λ (rs : List Row). AllSpell version h.workers rs h.events) (sym more) events) (omega (arith, few)) in
    ap (λ (r : Result Header Fault). on_line (suc line) r >>= λ x. events_from max x.version x.workers (suc line) 0 rows) head
    ∙ body
    ∙ ap (λ (ls : List ℕ). Ok (read-of h.workers h.events ls)) (ap lines-of more ∙ sym lines)

record LinesRead (max line : ℕ) (rows : List (List (List ℕ))) (h : Read) : Type 0 where
  pub first : Row
  pub others : List Row
  pub lines_are : numbered line rows ≡ first ∷ others
  pub version : ℕ
  pub header : SpellsHeader first.words version h.workers
  pub says_events : AllSpell version h.workers others h.events
  pub lines : h.lines ≡ map (λ row. row.line) others
  pub few : length h.events ≤ max

read-lines : (max line : ℕ) (rows : List (List (List ℕ))) (h : Read) → history_from max line rows ≡ Ok h → LinesRead max line rows h
read-lines max line [] h e = absurd (cc)
read-lines max line ([] ∷ rows) h e =
    let r : LinesRead max (suc line) rows h = read-lines max (suc line) rows h e in
    record { first = r.first; others = r.others; lines_are = r.lines_are; version = r.version; header = r.header; says_events = r.says_events; lines = r.lines; few = r.few }
read-lines max line ((w ∷ ws) ∷ rows) h e =
    let x = bind-ok (on_line (suc line) (header_of (w ∷ ws))) (λ x. events_from max x.version x.workers (suc line) 0 rows) h e in
    let r : AllRead max x.0.version x.0.workers (suc line) 0 rows h = read-all max x.0.version x.0.workers (suc line) 0 rows h (omega arith) x.2 in
    record {
      first = record { line = suc line; words = w ∷ ws };
      others = numbered (suc line) rows;
      lines_are = refl;
      version = x.0.version;
      header = subst (λ (n : ℕ). SpellsHeader (w ∷ ws) x.0.version n) (sym r.workers_are) (read-header (w ∷ ws) x.0 (on-line-ok (suc line) (header_of (w ∷ ws)) x.0 x.1));
      says_events = subst (λ (n : ℕ). AllSpell x.0.version n (numbered (suc line) rows) h.events) (sym r.workers_are) r.events;
      lines = r.lines;
      few = omega (arith, r.few);
    }

pub spelled-rows : SpelledIsRead
spelled-rows rows h = (
  λ s. lines-read most_events 0 s.version rows s.first s.others h s.lines_are s.header s.says_events s.lines s.few,
  λ e. let r : LinesRead most_events 0 rows h = read-lines most_events 0 rows h e in
      record { first = r.first; others = r.others; lines_are = r.lines_are; version = r.version; header = r.header; says_events = r.says_events; lines = r.lines; few = r.few },
)

-- what is spelled is in form
shares-formed : (words : List (List ℕ)) (shares : List Share) → SayShares words shares → AllByRecursion IsVolume shares
shares-formed words [] h = tt
shares-formed words (s ∷ ss) h = (record { names = h.1.names; bound = h.1.says_volume.2 }, shares-formed h.0 ss h.2)

event-formed : (version workers : ℕ) (words : List (List ℕ)) (e : Event) → SpellsEvent version workers words e → IsEvent workers e
event-formed version workers words (Open tenant job ask) h = (h.names, asks-formed h.priority h.demand h.slices ask h.says_priority h.says_demand h.says_slices)
event-formed version workers words (Revise tenant job number) h = (h.names, h.says_number.1, h.says_number.2)
event-formed version workers words (Reask tenant job weight) h = (h.names, weights-formed h.priority h.demand weight h.says_priority h.says_demand)
event-formed version workers words (Close tenant job) h = h.1
event-formed version workers words (Balance volumes) h = shares-formed h.behind volumes h.says_volumes
event-formed version workers words (Start tenant job index worker) h = (h.names, record { index_bound = h.says_index.2; some_worker = h.says_worker.1; worker_bound = h.says_worker.2 })
event-formed version workers words (Finish tenant job index worker outcome) h = (h.names, record { index_bound = h.says_index.2; some_worker = h.says_worker.1; worker_bound = h.says_worker.2 })
event-formed version workers words (Exchange tenant job) h = h.1
event-formed version workers words (Leave tenant job) h = absurd h
event-formed version workers words (Arrive tenant job) h = absurd h

all-formed : (version workers : ℕ) (rows : List Row) (events : List Event) → AllSpell version workers rows events → AllByRecursion (IsEvent workers) events × (length (map (λ row. row.line) rows) ≡ length events)
all-formed version workers [] events h = subst (λ (es : List Event). AllByRecursion (IsEvent workers) es × (0 ≡ length es)) (sym h) (tt, refl)
all-formed version workers (row ∷ rows) [] h = absurd h
all-formed version workers (row ∷ rows) (e ∷ events) h =
    let rest = all-formed version workers rows events h.1 in
    ((event-formed version workers row.words e h.0, rest.0), ap suc rest.1)

pub spelled-formed : SpelledIsFormed
spelled-formed rows h s =
    let all = all-formed s.version h.workers s.others h.events s.says_events in
    record {
      formed = record { some = s.header.says_workers.1; bound = s.header.says_workers.2; few = s.few; formed = all.0 };
      lines = ap length s.lines ∙ all.1;
    }
