-- A node that may start is handed out, and an exchange.
use Rattle.std.proofs.Common.{◌≡◌, ℕ, ◌+◌, ◌-◌, ◌*◌, ◌<◌, ◌≤◌, true, ◌&&◌, List, [], ◌∷◌, ◌++◌, length, map, take, drop, fold, nat_lt, Option, Some, None, refl, sym, ◌∙◌, ap, subst, arith}
use Rattle.std.specs.Prelude.{Result, Ok, Err, OnOk, OnErr, IfOk, slice_set, is_none}
use Rattle.std.proofs.lemmas.Bool.{and_parts}
use Rattle.std.proofs.lemmas.List.Sums.{fold-append}
use Rattle.mal_base.specs.declared.profile.Profile.{Profile}
use Rattle.mal_base.specs.Limits.{limits}
use Rattle.mal_base.specs.declared.profile.Profile.TheVariants.{Plain}
use Rattle.mal_base.specs.NumberedClause.{NumberedClause}
use Rattle.mal_revision.specs.Posted.{Posted}
use Rattle.spec_exchange.specs.Exchange.{broadcast}
use Rattle.spec_search.specs.Slice.{Sliced}
use Rattle.spec_job.specs.Counts.{runs_in, runs_of, starts_out, HasCounts, PlaceCounts}
use Rattle.spec_job.specs.Following.{MayAllFollow}
use Rattle.spec_job.specs.Journal.{JournalEntry, Load, Import, Run, after_entry, replay, loads_in, loads_of, imports_in}
use Rattle.spec_job.specs.Journaled.{replayed, started}
use Rattle.spec_job.specs.Leased.{Leased}
use Rattle.spec_job.specs.SoloMachine.{Opened, NodeSlot, Lease, SoloMachine, solo_step, place_at, startable, is_live, clauses_in, missing_loads, missing_imports, exports_from, marked_from}
use Rattle.spec_job.specs.SoloMachine as own
use Rattle.spec_job.specs.Viewed.{JobView, IsLeaseOf, and_own, and_start, journal_at}
use Rattle.spec_job.proofs.CountLemmas.{runs-same, runs-marked}
use Rattle.spec_job.proofs.CountingLemmas.{replays-count}
use Rattle.spec_job.proofs.FollowLemmas.{start-follows}
use Rattle.spec_job.proofs.SolvingLemmas.{live-parts}
use Rattle.mal_cdcl.specs.Sliced.{HasLowCounts}
use Rattle.mal_suspend.specs.Replaying.{MayAllReplay}
use Rattle.mal_suspend.specs.Starting.{import_entries, start_entries}
use Rattle.mal_job.specs.Exports.{marked}
use Rattle.mal_job.specs.JobInvariant.{JobInvariant}
use Rattle.mal_job.specs.Loads.{lacking}
use Rattle.mal_job.specs.Placing.{IsTree, placed, with_placed, sent, fresh_place}
use Rattle.mal_job.specs.Viewed.{PlaceView, TreeView, LogView, Parts, place_of, places_of, starts_of, state_of, viewed}
use Rattle.mal_job.proofs.ExchangeLemmas.{places-marked, starts-marked}
use Rattle.mal_job.proofs.KeptLemmas.{own-next, own-kept, few-runs, outs-more, outs-marked}
use Rattle.mal_job.proofs.LoadingLemmas.{paired-entries}
use Rattle.mal_job.proofs.PartLemmas.{HasGrown, grown, grown-state, grown-view, grown-kept, on-both, then-ok, then-err, lease-of, starts-set, journal-same, view-same}
use Rattle.mal_job.proofs.PlaceLemmas.{placed-at, out-same, own-at, set-placed, length-filled, length-set, runs-least, set-here}
use Rattle.mal_job.proofs.StateLemmas.{started-state}

-- what a start that was handed out, or refused, leaves of a job
pub record HasSent {E : Type 0} (tenant job : List ℕ) (before : JobView) (i start worker : ℕ) (after : Parts) (result : Result Leased E) : Type 0 where
  pub kept : JobInvariant after
  pub ok : OnOk result (viewed tenant job after ≡ and_start before i start)
  pub lease : IfOk result (λ l. IsLeaseOf before i start worker l)
  pub err : OnErr result (viewed tenant job after ≡ before)

none-is : (o : Option Lease) → is_none o ≡ true → o ≡ None
none-is None e = refl
none-is (Some l) e = absurd (cc)

-- entries that may follow may be replayed where they end with the one slice of a node with low counts
may-imports : (tolds : List (List NumberedClause)) (s : Sliced) → MayAllFollow s (map Import tolds ++ Run ∷ []) → HasLowCounts (fold after_entry s (map Import tolds)).node → MayAllReplay s (map Import tolds ++ Run ∷ [])
may-imports [] s h low = (record { follows = h.0; low = low }, tt)
may-imports (t ∷ ts) s h low = (record { follows = h.0; low = tt }, may-imports ts (after_entry s (Import t)) h.1 low)

may-loads : (rs : List Posted) (first : ℕ) (tolds : List (List NumberedClause)) (s : Sliced) → MayAllFollow s (loads_of first rs ++ (map Import tolds ++ Run ∷ [])) → HasLowCounts (fold after_entry s (loads_of first rs ++ map Import tolds)).node → MayAllReplay s (loads_of first rs ++ (map Import tolds ++ Run ∷ []))
may-loads [] first tolds s h low = may-imports tolds s h low
may-loads (r ∷ rs) first tolds s h low = (record { follows = h.0; low = tt }, may-loads rs (first + length r.clauses) tolds (after_entry s (Load r first)) h.1 low)

module _ (q : Parts) (i : ℕ) (k : JobInvariant q) (may : startable (state_of q) i ≡ true) (low : i < length q.tree.places) where
  abbrev s : SoloMachine
  s = state_of q

  abbrev p : PlaceView
  p = placed q.tree i

  abbrev n : ℕ
  n = loads_in p.journal.entries

  abbrev tolds : List (List NumberedClause)
  tolds = drop (imports_in p.journal.entries) q.tree.broadcasts

  there : i < length (places_of q.tree.places)
  there = omega (arith, low, k.tree.few, length-filled q.tree.places k.tree.few)

  few : i ≤ 63
  few = omega (arith, low, k.tree.few)

  here : place_at s i ≡ place_of p
  here = placed-at q.tree.places i (fresh_place 0 Plain 0) low

  live : length q.asked.answers < length q.asked.revisions
  live = live-parts s i may

  machine-home : (place_at s i).out ≡ None
  machine-home = none-is (place_at s i).out (and_parts (is_none (place_at s i).out) _ (and_parts (is_live s && nat_lt i s.volume) _ may).1).0

  pub home : p.out ≡ None
  home = sym (out-same q.tree.places i 0 0) ∙ machine-home

  pub early : n ≤ length q.asked.answers + 1
  early = subst (λ (y : NodeSlot). loads_in y.entries ≤ length q.asked.answers + 1) here ((own-kept s k.own).solving.ready i few).early

  -- what the start adds
  adds-is : start_entries (lacking n q.asked) tolds ≡ own.start_entries s (place_at s i)
  adds-is =
      ap (λ (es : List JournalEntry). es ++ (import_entries tolds ++ Run ∷ [])) (paired-entries (take (length q.asked.answers + 1 - n) (drop n q.asked.revisions)) (clauses_in (take n q.asked.revisions) + 1))
      ∙ ap (λ (y : NodeSlot). own.start_entries s y) (sym here)

  pub adds-by : (ls : List (Posted × ℕ)) → ls ≡ lacking n q.asked → start_entries ls tolds ≡ own.start_entries s (place_at s i)
  adds-by ls e = ap (λ (xs : List (Posted × ℕ)). start_entries xs tolds) e ∙ adds-is

  -- it may be replayed
  counted : HasCounts (runs_of (places_of q.tree.places)) (runs_in p.journal.entries) (replay s.ask.profile i (p.journal.entries ++ (missing_loads s (place_of p) ++ missing_imports s (place_of p)))).node
  counted =
      let all : PlaceCounts s i (place_at s i) = subst (λ (y : SoloMachine). PlaceCounts y i (place_at y i)) (sym k.own.is) (replays-count (Opened k.own.ask ∷ k.own.own) i few) in
      subst (λ (y : NodeSlot). HasCounts (runs_of (places_of q.tree.places)) (runs_in y.entries) (replay s.ask.profile i (y.entries ++ (missing_loads s y ++ missing_imports s y))).node) here all.ready

  low-counts : HasLowCounts (fold after_entry (replay s.ask.profile i p.journal.entries) (missing_loads s (place_of p) ++ missing_imports s (place_of p))).node
  low-counts =
      let few-all : runs_of (places_of q.tree.places) + starts_out (places_of q.tree.places) ≤ (limits.revisions + 1) * limits.slices = few-runs q k.own k.asked in
      let some : runs_in p.journal.entries ≤ runs_of (places_of q.tree.places) = subst (λ (y : NodeSlot). runs_in y.entries ≤ runs_of (places_of q.tree.places)) here (runs-least (places_of q.tree.places) i there) in
      let h : HasCounts (runs_of (places_of q.tree.places)) (runs_in p.journal.entries) (fold after_entry (replay s.ask.profile i p.journal.entries) (missing_loads s (place_of p) ++ missing_imports s (place_of p))).node = subst (λ (y : Sliced). HasCounts (runs_of (places_of q.tree.places)) (runs_in p.journal.entries) y.node) (fold-append after_entry (replay s.ask.profile i []) p.journal.entries (missing_loads s (place_of p) ++ missing_imports s (place_of p))) counted in
      record { conflicts_since_restart = omega (arith, h.conflicts_since_restart, few-all, some); restart_number = omega (arith, h.restart_number, few-all, some); serial = omega (arith, h.serial, few-all); conflicts_since_dropping = omega (arith, h.conflicts_since_dropping, few-all, some) }

  follows : MayAllFollow (replay s.ask.profile i p.journal.entries) (missing_loads s (place_of p) ++ (map Import tolds ++ Run ∷ []))
  follows = subst (λ (y : NodeSlot). MayAllFollow (replay s.ask.profile i y.entries) (own.start_entries s y)) here (start-follows s i few live (own-kept s k.own).solving (own-kept s k.own).calm (own-kept s k.own).derives)

  pub replays : (ls : List (Posted × ℕ)) → ls ≡ lacking n q.asked → MayAllReplay (replayed p.journal) (start_entries ls tolds)
  replays ls e =
      let mine = own-at q.tree.number q.tree.profile q.tree.places 0 i (fresh_place 0 Plain 0) low k.tree.own in
      let own-index : p.journal.index ≡ i = mine.1 ∙ omega arith in
      let own-profile : p.journal.profile ≡ s.ask.profile = mine.2 ∙ k.solvers in
      let all : MayAllReplay (replay s.ask.profile i p.journal.entries) (own.start_entries s (place_of p)) = may-loads (take (length q.asked.answers + 1 - n) (drop n q.asked.revisions)) (clauses_in (take n q.asked.revisions) + 1) tolds (replay s.ask.profile i p.journal.entries) follows low-counts in
      let same : own.start_entries s (place_of p) ≡ start_entries ls tolds = ap (λ (y : NodeSlot). own.start_entries s y) (sym here) ∙ sym (adds-by ls e) in
      subst (λ (x : Profile). MayAllReplay (replay x p.journal.index p.journal.entries) (start_entries ls tolds)) (sym own-profile) (subst (λ (m : ℕ). MayAllReplay (replay s.ask.profile m p.journal.entries) (start_entries ls tolds)) (sym own-index) (subst (λ (es : List JournalEntry). MayAllReplay (replay s.ask.profile i p.journal.entries) es) same all))

  -- the job after the start
  module _ (start : ℕ) (ls : List (Posted × ℕ)) (e : ls ≡ lacking n q.asked) where
    abbrev pub gone : TreeView
    gone = with_placed q.tree i (sent (length q.asked.answers) (start_entries ls tolds) start p)

    abbrev next : Parts
    next = record q { tree = gone }

    step : solo_step s (own.Started i) ≡ state_of next
    step = started-state q i start low ∙ ap (λ (es : List JournalEntry). state_of (record q { tree = with_placed q.tree i (sent (length q.asked.answers) es start p) })) (sym (adds-by ls e))

    pub start-view : (tenant job : List ℕ) → viewed tenant job next ≡ and_start (viewed tenant job q) i start
    start-view tenant job = view-same tenant job q.tree.number q.tree.number (state_of next) (solo_step s (own.Started i)) (starts_of gone.places) (slice_set (starts_of q.tree.places) i start) refl (sym step) (starts-set q.tree.places i (sent (length q.asked.answers) (start_entries ls tolds) start p) low)

    pub start-kept : IsTree gone → starts_out (places_of q.tree.places) + 1 ≤ q.log.chunk_room → JobInvariant next
    start-kept ht room =
        let new : PlaceView = sent (length q.asked.answers) (start_entries ls tolds) start p in
        let runs : runs_of (places_of gone.places) ≡ runs_of (places_of q.tree.places) = ap (λ (ps : List NodeSlot). runs_of ps) (sym (set-placed q.tree.places i new low)) ∙ runs-same (places_of q.tree.places) i (place_of new) (ap (λ (y : NodeSlot). y.entries) (sym here)) in
        let more : starts_out (places_of gone.places) ≡ starts_out (places_of q.tree.places) + 1 = ap (λ (ps : List NodeSlot). starts_out ps) (sym (set-placed q.tree.places i new low)) ∙ outs-more (places_of q.tree.places) i (place_of new) there machine-home refl in
        record {
          own = own-next s (state_of next) (own.Started i) k.own may refl step;
          asked = k.asked;
          tree = ht;
          solvers = k.solvers;
          ran = omega (arith, runs, k.ran);
          few_lines = omega (arith, runs, k.few_lines);
          chunks = omega (arith, more, room);
        }

    -- the lease of the start
    lease-journal : (tenant job : List ℕ) → IsTree gone → started start p.journal ≡ journal_at (and_start (viewed tenant job q) i start) i
    lease-journal tenant job ht =
        let inside : i < length gone.places = subst (λ (m : ℕ). i < m) (sym (length-set q.tree.places i (sent (length q.asked.answers) (start_entries ls tolds) start p))) low in
        let new : placed gone i ≡ sent (length q.asked.answers) (start_entries ls tolds) start p = set-here q.tree.places i (sent (length q.asked.answers) (start_entries ls tolds) start p) (fresh_place 0 Plain 0) low in
        ap (λ (y : PlaceView). y.journal) (sym new) ∙ (sym (journal-same tenant job next i inside ht k.solvers) ∙ ap (λ (v : JobView). journal_at v i) (start-view tenant job))

    pub lease-is : {E : Type 0} (tenant job : List ℕ) (worker : ℕ) (result : Result Leased E) → IsTree gone → IfOk result (λ l. l.journal ≡ started start p.journal) → IfOk result (λ l. l.adds ≡ start_entries ls tolds) → IfOk result (λ l. l.worker ≡ worker) → IfOk result (λ l. IsLeaseOf (viewed tenant job q) i start worker l)
    lease-is tenant job worker (Ok l) ht a b c = record { journal = a ∙ lease-journal tenant job ht; adds = b ∙ adds-by ls e; worker = c }
    lease-is tenant job worker (Err x) ht a b c = tt

-- what a job is made ready with: a startable node that has its place
module _ (tenant job : List ℕ) (before : JobView) (q : Parts) (i : ℕ) (t : TreeView) (l : LogView) (g : HasGrown q t l) (k : JobInvariant q) (is : viewed tenant job q ≡ before) (may : startable before.titled.state i ≡ true) (low : i < length t.places) where
  kept-grown : JobInvariant (grown q t l g)
  kept-grown = grown-kept q t l g k

  may-grown : startable (state_of (grown q t l g)) i ≡ true
  may-grown = subst (λ (s : SoloMachine). startable s i ≡ true) (sym (grown-state q t l g)) (subst (λ (v : JobView). startable v.titled.state i ≡ true) (sym is) may)

  pub ready-early : loads_in (placed t i).journal.entries ≤ length q.asked.answers + 1
  ready-early = early (grown q t l g) i kept-grown may-grown low

  pub ready-home : (placed t i).out ≡ None
  ready-home = home (grown q t l g) i kept-grown may-grown low

  pub ready-replays : (ls : List (Posted × ℕ)) → ls ≡ lacking (loads_in (placed t i).journal.entries) q.asked → MayAllReplay (replayed (placed t i).journal) (start_entries ls (drop (imports_in (placed t i).journal.entries) t.broadcasts))
  ready-replays ls loads = replays (grown q t l g) i kept-grown may-grown low ls loads

  -- the start is handed out, or refused
  pub start-sent : {E : Type 0} (start worker : ℕ) (ls : List (Posted × ℕ)) (answered : ℕ) (new : TreeView) (result : Result Leased E) → ls ≡ lacking (loads_in (placed t i).journal.entries) q.asked → answered ≡ length q.asked.answers → starts_out (places_of t.places) + 1 ≤ l.chunk_room → OnOk result (new ≡ with_placed t i (sent answered (start_entries ls (drop (imports_in (placed t i).journal.entries) t.broadcasts)) start (placed t i))) → OnErr result (new ≡ t) → IsTree new → IfOk result (λ x. x.journal ≡ started start (placed t i).journal) → IfOk result (λ x. x.adds ≡ start_entries ls (drop (imports_in (placed t i).journal.entries) t.broadcasts)) → IfOk result (λ x. x.worker ≡ worker) → HasSent tenant job before i start worker (record (grown q t l g) { tree = new }) result
  start-sent start worker ls answered new result loads current room done none tree journal adds own_worker =
      let p : Parts = grown q t l g in
      let same : viewed tenant job p ≡ before = grown-view q t l g tenant job ∙ is in
      let away : TreeView = gone p i kept-grown may-grown low start ls loads in
      let ok : OnOk result (new ≡ away) = then-ok result done (λ e. e ∙ ap (λ (n : ℕ). with_placed t i (sent n (start_entries ls (drop (imports_in (placed t i).journal.entries) t.broadcasts)) start (placed t i))) current) in
      record {
        kept = on-both result (λ (x : TreeView). IsTree x → JobInvariant (record p { tree = x })) new away t ok none (λ h. start-kept p i kept-grown may-grown low start ls loads h room) (λ h. kept-grown) tree;
        ok = then-ok result ok (λ e. ap (λ (x : TreeView). viewed tenant job (record p { tree = x })) e ∙ (start-view p i kept-grown may-grown low start ls loads tenant job ∙ ap (λ (v : JobView). and_start v i start) same));
        lease = subst (λ (v : JobView). IfOk result (λ x. IsLeaseOf v i start worker x)) same (lease-of (λ x. IsLeaseOf (viewed tenant job p) i start worker x) result away new ok tree (λ h. lease-is p i kept-grown may-grown low start ls loads tenant job worker result h journal adds own_worker));
        err = then-err result none (λ e. ap (λ (x : TreeView). viewed tenant job (record p { tree = x })) e ∙ same);
      }

-- an exchange
module _ (q : Parts) (k : JobInvariant q) (wide : q.tree.volume ≤ length q.tree.places) where
  abbrev pub told : TreeView
  told = record q.tree { broadcasts = q.tree.broadcasts ++ broadcast (exports_from q.tree.volume q.log.lines 0 (places_of q.tree.places)) ∷ []; places = marked q.tree.volume (length q.log.lines) q.tree.places; ran = 0 }

  exchange-places : marked_from q.tree.volume (length q.log.lines) 0 (places_of q.tree.places) ≡ places_of told.places
  exchange-places = places-marked q.tree.volume (length q.log.lines) q.tree.places wide

  exchange-step : solo_step (state_of q) own.Exchanged ≡ state_of (record q { tree = told })
  exchange-step = ap (λ (ps : List NodeSlot). let t : SoloMachine = record (state_of q) { broadcasts = told.broadcasts; places = ps; ran = 0 } in t) exchange-places

  pub exchange-view : (tenant job : List ℕ) → viewed tenant job (record q { tree = told }) ≡ and_own (viewed tenant job q) own.Exchanged
  exchange-view tenant job = view-same tenant job q.tree.number q.tree.number (state_of (record q { tree = told })) (solo_step (state_of q) own.Exchanged) (starts_of told.places) (starts_of q.tree.places) refl (sym exchange-step) (starts-marked q.tree.volume (length q.log.lines) q.tree.places)

  pub exchange-kept : IsTree told → JobInvariant (record q { tree = told })
  exchange-kept ht =
      let runs : runs_of (places_of told.places) ≡ runs_of (places_of q.tree.places) = ap (λ (ps : List NodeSlot). runs_of ps) (sym exchange-places) ∙ runs-marked q.tree.volume (length q.log.lines) 0 (places_of q.tree.places) in
      let outs : starts_out (places_of told.places) ≡ starts_out (places_of q.tree.places) = ap (λ (ps : List NodeSlot). starts_out ps) (sym exchange-places) ∙ outs-marked q.tree.volume (length q.log.lines) 0 (places_of q.tree.places) in
      record {
        own = own-next (state_of q) (state_of (record q { tree = told })) own.Exchanged k.own tt refl exchange-step;
        asked = k.asked;
        tree = ht;
        solvers = k.solvers;
        ran = omega arith;
        few_lines = omega (arith, runs, k.few_lines);
        chunks = omega (arith, outs, k.chunks);
      }
