-- A start that is out ends.
use Rattle.std.proofs.Common.{◌≡◌, ℕ, ◌+◌, ◌<◌, ◌≤◌, ◌^◌, true, List, [], ◌∷◌, ◌++◌, length, Option, Some, None, Bool, false, cond, not, ◌&&◌, refl, sym, ◌∙◌, ap, subst, arith, length-append}
use Rattle.std.specs.Prelude.{is_some, slice_set}
use Rattle.mal_base.specs.declared.profile.Profile.{Profile}
use Rattle.mal_base.specs.declared.profile.Profile.TheVariants.{Plain}
use Rattle.mal_base.specs.Asks.{Terms}
use Rattle.mal_base.specs.NumberedClause.{Line}
use Rattle.mal_base.specs.declared.answer.Answer.{Answer}
use Rattle.mal_base.specs.declared.verdict.Outcome.{Outcome}
use Rattle.mal_base.specs.declared.verdict.Outcome.TheVariants.{Ran, Starved, Lost}
use Rattle.mal_base.specs.declared.verdict.Verdict.{Verdict}
use Rattle.mal_suspend.specs.declared.kept.Kept.{Kept}
use Rattle.spec_search.specs.Slice.{Sliced}
use Rattle.spec_search.proofs.CountLemmas.{slice-fits}
use Rattle.spec_proof.specs.Log.{IsLog, IsOrderly}
use Rattle.spec_proof.proofs.LogLemmas.{log-orderly}
use Rattle.spec_job.specs.Counts.{runs_in, runs_of, starts_out}
use Rattle.spec_job.specs.Journal.{JournalEntry, Run, replay}
use Rattle.spec_job.specs.Journaled.{Journaled, replayed, node_of, and_entries}
use Rattle.spec_job.specs.Leased.{Finished, HasRun, model_with}
use Rattle.spec_job.specs.Models.{clauses_of}
use Rattle.spec_job.specs.SoloMachine.{Opened, NodeSlot, Lease, Slice, SoloMachine, solo, solo_step, place_at, vacant, is_late, remembered, first_empty}
use Rattle.spec_job.specs.SoloMachine as own
use Rattle.spec_job.proofs.StepLemmas.{finish-keeps}
use Rattle.spec_job.specs.Viewed.{IsBack, IsGrownBy, and_own}
use Rattle.spec_job.proofs.CountLemmas.{runs_in-append, runs-set, runs-same}
use Rattle.spec_job.proofs.DerivingLemmas.{IsRunning}
use Rattle.spec_job.proofs.RefutingLemmas.{runnable-logs_derived}
use Rattle.spec_job.proofs.SolvingLemmas.{IsLeased, out-leased}
use Rattle.mal_job.specs.Asking.{IsAsked, answer_with, concluded, concluded_by, ends_by, starved_by, settled_with}
use Rattle.mal_job.specs.Finishing.{MayFollow, MayStarve, slice_out, answer_of}
use Rattle.mal_job.specs.JobInvariant.{IsOwn, JobInvariant}
use Rattle.mal_job.specs.Placing.{HasJournal, IsBackAt, IsTree, placed, with_placed, ran_home, came_home, one_more_ran, fresh_place, revision_of, adds_of}
use Rattle.mal_job.specs.Viewed.{PlaceView, TreeView, LogView, QuestionsView, Parts, place_of, places_of, starts_of, state_of, viewed}
use Rattle.mal_job.proofs.KeptLemmas.{own-next, own-kept, few-runs, outs-less}
use Rattle.mal_job.proofs.PartLemmas.{starts-same, journal-same, view-same}
use Rattle.mal_job.proofs.PlaceLemmas.{placed-at, out-within, out-same, own-at, set-placed, length-filled}
use Rattle.mal_job.proofs.StateLemmas.{settled-state, with_run, ran-state, starved-state, lost-state}

pub some-is : (o : Option Lease) → is_some o ≡ true → (l : Lease) × (o ≡ Some l)
some-is (Some l) e = (l, refl)
some-is None e = absurd (cc)

-- what came back, seen from the place
pub back-place : (tenant job : List ℕ) (q : Parts) (i : ℕ) (d : Finished) → IsTree q.tree → q.tree.profile ≡ q.asked.ask.profile → IsBack (viewed tenant job q) i d → IsBackAt (placed q.tree i) d
back-place tenant job q i d k solvers b =
    let out : (placed q.tree i).out ≡ Some b.lease = sym (out-same q.tree.places i 0 0) ∙ b.out in
    let low : i < length q.tree.places = out-within q.tree.places i 0 0 (ap (λ (o : Option Lease). is_some o) out) in
    record { lease = b.lease; out = out; journal = subst (λ (j : Journaled). IsGrownBy d.outcome b.lease.adds j d.journal) (journal-same tenant job q i low k solvers) b.journal }

pub place-back : (tenant job : List ℕ) (q : Parts) (i : ℕ) (d : Finished) → IsTree q.tree → q.tree.profile ≡ q.asked.ask.profile → IsBackAt (placed q.tree i) d → IsBack (viewed tenant job q) i d
place-back tenant job q i d k solvers b =
    let low : i < length q.tree.places = out-within q.tree.places i 0 0 (ap (λ (o : Option Lease). is_some o) b.out) in
    record { lease = b.lease; out = out-same q.tree.places i 0 0 ∙ b.out; journal = subst (λ (j : Journaled). IsGrownBy d.outcome b.lease.adds j d.journal) (sym (journal-same tenant job q i low k solvers)) b.journal }

-- a start is out of which this came back
pub back-out : (p : PlaceView) (d : Finished) → IsBackAt p d → is_some p.out ≡ true
back-out p d b = ap (λ (o : Option Lease). is_some o) b.out

-- how what came back ended
pub back-ran : (p : PlaceView) (d : Finished) → d.outcome ≡ Ran → IsBackAt p d → d.journal ≡ and_entries p.journal (adds_of p.out)
back-ran p d o b = subst (λ (x : Outcome). IsGrownBy x b.lease.adds p.journal d.journal) o b.journal ∙ ap (λ (x : Option Lease). and_entries p.journal (adds_of x)) (sym b.out)

pub back-starved : (p : PlaceView) (d : Finished) → d.outcome ≡ Starved → IsBackAt p d → d.journal ≡ p.journal
back-starved p d o b = subst (λ (x : Outcome). IsGrownBy x b.lease.adds p.journal d.journal) o b.journal

-- a start is out that may end as one that ran out of memory, and what is kept of its node is of its place
pub starve-out : (tenant job : List ℕ) (q : Parts) (i : ℕ) (kept : Option Kept) → MayStarve (viewed tenant job q) i kept → is_some (placed q.tree i).out ≡ true
starve-out tenant job q i kept m = ap (λ (o : Option Lease). is_some o) (sym (out-same q.tree.places i 0 0)) ∙ m.out

pub starve-own : (tenant job : List ℕ) (q : Parts) (i : ℕ) (kept : Option Kept) → IsTree q.tree → q.tree.profile ≡ q.asked.ask.profile → MayStarve (viewed tenant job q) i kept → HasJournal kept (placed q.tree i).journal
starve-own tenant job q i kept k solvers m =
    let low : i < length q.tree.places = out-within q.tree.places i 0 0 (starve-out tenant job q i kept m) in
    subst (λ (j : Journaled). HasJournal kept j) (journal-same tenant job q i low k solvers) m.own

-- a start of a job ended so: this is the job afterwards, and it keeps what a job has to
pub record Ended (tenant job : List ℕ) (q r : Parts) (i : ℕ) (o : Outcome) : Type 0 where
  pub view : viewed tenant job r ≡ and_own (viewed tenant job q) (own.Finished i o)
  pub kept : JobInvariant r

-- a start is out that a job may follow
pub follow-out : (tenant job : List ℕ) (q : Parts) (i : ℕ) (lines : List Line) (answer : Option Answer) → MayFollow (viewed tenant job q) i lines answer → is_some (placed q.tree i).out ≡ true
follow-out tenant job q i lines answer m = ap (λ (o : Option Lease). is_some o) (sym (out-same q.tree.places i 0 0) ∙ m.out)

-- the lease of a start that is out
abbrev lease_in : Option Lease → Lease
lease_in None = record { revision = 0; adds = [] }
lease_in (Some l) = l

-- a slice answers where it has a verdict
some-answer : (v : Option Verdict) (model : List Bool) → is_some (answer_with v model) ≡ is_some v
some-answer None model = refl
some-answer (Some v) model = refl

module _ (q : Parts) (i : ℕ) (k : JobInvariant q) (is_out : is_some (placed q.tree i).out ≡ true) where
  abbrev p : PlaceView
  p = placed q.tree i

  abbrev s : SoloMachine
  s = state_of q

  abbrev l : Lease
  l = (some-is p.out is_out).0

  out : p.out ≡ Some l
  out = (some-is p.out is_out).1

  pub low : i < length q.tree.places
  low = out-within q.tree.places i 0 0 is_out

  there : i < length (places_of q.tree.places)
  there = omega (arith, low, k.tree.few, length-filled q.tree.places k.tree.few)

  few : i ≤ 63
  few = omega (arith, low, k.tree.few)

  machine-out : (place_at s i).out ≡ Some l
  machine-out = out-same q.tree.places i 0 0 ∙ out

  pub here : place_at s i ≡ place_of p
  here = placed-at q.tree.places i (fresh_place 0 Plain 0) low

  -- the revision of the start is posted
  pub live : length q.asked.answers ≤ revision_of p.out → length q.asked.answers < length q.asked.revisions
  live reached =
      let leased : IsLeased s.ask.profile q.asked.revisions (length q.asked.answers) i (place_at s i).entries l = out-leased s i l machine-out (own-kept s k.own).solving in
      let same : revision_of p.out ≡ l.revision = ap (λ (o : Option Lease). revision_of o) out in
      omega (arith, same, reached, leased.posted)

  -- few slices were run
  pub few-ran : q.tree.ran < 2 ^ 31
  few-ran = omega (arith, k.ran, few-runs q k.own k.asked)

  pub chunk : 1 ≤ q.log.chunk_room
  chunk =
      let less : starts_out (slice_set (places_of q.tree.places) i vacant) + 1 ≡ starts_out (places_of q.tree.places) = outs-less (places_of q.tree.places) i vacant there (ap (λ (o : Option Lease). is_some o) machine-out) refl in
      omega (arith, less, k.chunks)

  running : IsRunning s.ask.profile q.asked.revisions q.log.lines i p.journal.entries l
  running = subst (λ (x : NodeSlot). IsRunning s.ask.profile q.asked.revisions q.log.lines i x.entries l) here (((own-kept s k.own).derives.tracked i few).running l machine-out)

  abbrev pub x : Sliced
  x = replay s.ask.profile i (p.journal.entries ++ l.adds)

  few-new : length x.lines ≤ 1000
  few-new = subst (λ (y : Sliced). length y.lines ≤ 1000) (sym running.runs) (slice-fits running.node).few

  -- what came back is the replay
  pub replay-is : (d : Finished) → d.journal ≡ and_entries p.journal (adds_of p.out) → replayed d.journal ≡ x
  replay-is d e =
      let mine = own-at q.tree.number q.tree.profile q.tree.places 0 i (fresh_place 0 Plain 0) low k.tree.own in
      let own-index : p.journal.index ≡ i = mine.1 ∙ omega arith in
      let own-profile : p.journal.profile ≡ s.ask.profile = mine.2 ∙ k.solvers in
      ap (λ (j : Journaled). replayed j) (e ∙ ap (λ (o : Option Lease). and_entries p.journal (adds_of o)) out)
      ∙ (ap (λ (m : Profile). replay m p.journal.index (p.journal.entries ++ l.adds)) own-profile ∙ ap (λ (n : ℕ). replay s.ask.profile n (p.journal.entries ++ l.adds)) own-index)

  pub lines-is : (d : Finished) → d.journal ≡ and_entries p.journal (adds_of p.out) → HasRun d → d.lines ≡ x.lines
  lines-is d e h = h.lines ∙ ap (λ (y : Sliced). y.lines) (replay-is d e)

  pub countable : (lines : List Line) → lines ≡ x.lines → length q.log.lines + length lines < 2 ^ 64
  countable lines told =
      let same : length lines ≡ length x.lines = ap (λ (ls : List Line). length ls) told in
      omega (arith, same, few-new, k.few_lines, few-runs q k.own k.asked)

  -- the job after a start that ran
  abbrev pub after_run : ℕ → Parts
  after_run room = let r : Parts = with_run q i l x room in record r { asked = settled_with (first_empty (q.log.lines ++ x.lines)) r.asked }

  run-step : (room : ℕ) → solo_step s (own.Finished i Ran) ≡ state_of (after_run room)
  run-step room = ran-state q i l low out room ∙ settled-state (with_run q i l x room)

  run-own : (room : ℕ) → IsOwn (state_of (after_run room))
  run-own room = own-next s (state_of (after_run room)) (own.Finished i Ran) k.own tt refl (run-step room)

  pub orderly : (lines : List Line) → lines ≡ x.lines → IsOrderly (q.log.lines ++ lines)
  orderly lines told =
      let o : IsOwn (state_of (after_run 0)) = run-own 0 in
      let derived : IsLog (clauses_of (solo (Opened o.ask ∷ o.own)).revisions) (solo (Opened o.ask ∷ o.own)).log = runnable-logs_derived (Opened o.ask ∷ o.own) o.once.runnable in
      let all : IsLog (clauses_of (state_of (after_run 0)).revisions) (q.log.lines ++ x.lines) = subst (λ (y : SoloMachine). IsLog (clauses_of y.revisions) y.log) (sym o.is) derived in
      subst (λ (ls : List Line). IsOrderly (q.log.lines ++ ls)) (sym told) (log-orderly (clauses_of (state_of (after_run 0)).revisions) (q.log.lines ++ x.lines) all)

  more-runs : runs_of (places_of (slice_set q.tree.places i (ran_home p))) ≡ runs_of (places_of q.tree.places) + runs_in l.adds
  more-runs =
      let entries : p.journal.entries ++ adds_of p.out ≡ p.journal.entries ++ l.adds = ap (λ (o : Option Lease). p.journal.entries ++ adds_of o) out in
      let sum : runs_in (place_of (ran_home p)).entries ≡ runs_in (place_at s i).entries + runs_in l.adds = ap (λ (es : List JournalEntry). runs_in es) entries ∙ (runs_in-append p.journal.entries l.adds ∙ ap (λ (y : NodeSlot). runs_in y.entries + runs_in l.adds) (sym here)) in
      ap (λ (ps : List NodeSlot). runs_of ps) (sym (set-placed q.tree.places i (ran_home p) low)) ∙ runs-set (places_of q.tree.places) i (runs_in l.adds) (place_of (ran_home p)) there sum

  some-runs : 1 ≤ runs_in l.adds
  some-runs =
      let all : runs_in l.adds ≡ runs_in running.before + 1 = ap (λ (es : List JournalEntry). runs_in es) running.adds ∙ runs_in-append running.before (Run ∷ []) in
      omega (arith, all)

  -- one start less is out
  outs : (y : PlaceView) → y.out ≡ None → starts_out (places_of (slice_set q.tree.places i y)) + 1 ≡ starts_out (places_of q.tree.places)
  outs y none = ap (λ (ps : List NodeSlot). starts_out ps + 1) (sym (set-placed q.tree.places i y low)) ∙ outs-less (places_of q.tree.places) i (place_of y) there (ap (λ (o : Option Lease). is_some o) machine-out) none

  -- what came back of a start that ran answers as the replay does
  pub answer-is : (d : Finished) → d.journal ≡ and_entries p.journal (adds_of p.out) → HasRun d → answer_with d.verdict d.model ≡ answer_with x.node.verdict (model_with x.node.verdict x.node)
  answer-is d e h =
      let verdict-is : d.verdict ≡ x.node.verdict = h.verdict ∙ ap (λ (y : Sliced). y.node.verdict) (replay-is d e) in
      let model-is : d.model ≡ model_with x.node.verdict x.node = h.model ∙ (ap (λ (v : Option Verdict). model_with v (node_of d.journal)) verdict-is ∙ ap (λ (y : Sliced). model_with x.node.verdict y.node) (replay-is d e)) in
      ap (λ (v : Option Verdict). answer_with v d.model) verdict-is ∙ ap (λ (m : List Bool). answer_with x.node.verdict m) model-is

  -- the slice that a job may follow is that of the replay
  pub slice-is : (tenant job : List ℕ) (lines : List Line) (answer : Option Answer) (m : MayFollow (viewed tenant job q) i lines answer) → slice_out s i m.lease ≡ x
  slice-is tenant job lines answer m =
      let same : m.lease ≡ l = ap (λ (o : Option Lease). lease_in o) (sym m.out ∙ machine-out) in
      ap (λ (y : Lease). slice_out s i y) same ∙ ap (λ (y : NodeSlot). replay s.ask.profile i (y.entries ++ l.adds)) here

  pub follow-told : (tenant job : List ℕ) (lines : List Line) (answer : Option Answer) → MayFollow (viewed tenant job q) i lines answer → lines ≡ x.lines
  follow-told tenant job lines answer m = m.told ∙ ap (λ (y : Sliced). y.lines) (slice-is tenant job lines answer m)

  pub follow-fits : (tenant job : List ℕ) (lines : List Line) (answer : Option Answer) → MayFollow (viewed tenant job q) i lines answer → is_late s l ≡ false → answer ≡ answer_of x.node
  follow-fits tenant job lines answer m now =
      let same : l ≡ m.lease = ap (λ (o : Option Lease). lease_in o) (sym machine-out ∙ m.out) in
      m.fits (ap (λ (y : Lease). is_late s y) (sym same) ∙ now) ∙ ap (λ (y : Sliced). answer_of y.node) (slice-is tenant job lines answer m)

  -- what is kept after a start that ran, with these lines and, unless it is late, this answer
  module _ (lines : List Line) (answer : Option Answer) (told : lines ≡ x.lines) (fits : is_late s l ≡ false → answer ≡ answer_with x.node.verdict (model_with x.node.verdict x.node)) (asked : QuestionsView) (tree : TreeView) (log : LogView) (a : asked ≡ settled_with (first_empty log.lines) (concluded_by (revision_of p.out) answer q.asked)) (t : tree ≡ one_more_ran (with_placed q.tree i (ran_home p))) (ls : log.lines ≡ q.log.lines ++ lines) (cs : log.slices ≡ q.log.slices ++ record { lines = lines; ends = ends_by (revision_of p.out) answer q.asked } ∷ []) (room : log.chunk_room + 1 ≡ q.log.chunk_room) where
    lines-all : log.lines ≡ q.log.lines ++ x.lines
    lines-all = ls ∙ ap (λ (ys : List Line). q.log.lines ++ ys) told

    -- late or not, the answer is as good as that of the replay
    by-late : {X : Type 0} (f : Bool → Option Answer → X) → ((o : Option Answer) → f true o ≡ f true answer) → f (is_late s l) answer ≡ f (is_late s l) (answer_with x.node.verdict (model_with x.node.verdict x.node))
    by-late f late = by_test (is_late s l) refl
      where
        by_test : (b : Bool) → is_late s l ≡ b → f b answer ≡ f b (answer_with x.node.verdict (model_with x.node.verdict x.node))
        by_test true e = sym (late (answer_with x.node.verdict (model_with x.node.verdict x.node)))
        by_test false e = ap (f false) (fits e)

    ends-is : ends_by (revision_of p.out) answer q.asked ≡ (not (is_late s l) && is_some x.node.verdict)
    ends-is = ap (λ (o : Option Lease). ends_by (revision_of o) answer q.asked) out ∙ (by-late (λ b o. not b && is_some o) (λ o. refl) ∙ ap (λ (b : Bool). not (is_late s l) && b) (some-answer x.node.verdict (model_with x.node.verdict x.node)))

    slices-all : log.slices ≡ q.log.slices ++ remembered s l x ∷ []
    slices-all = cs ∙ (ap (λ (ys : List Line). q.log.slices ++ record { lines = ys; ends = ends_by (revision_of p.out) answer q.asked } ∷ []) told ∙ ap (λ (b : Bool). q.log.slices ++ record { lines = x.lines; ends = b } ∷ []) ends-is)

    log-is : log ≡ record { lines = q.log.lines ++ x.lines; slices = q.log.slices ++ remembered s l x ∷ []; chunk_room = log.chunk_room }
    log-is = ap (λ (ys : List Line). let y : LogView = record { lines = ys; slices = log.slices; chunk_room = log.chunk_room } in y) lines-all ∙ ap (λ (ys : List Slice). let y : LogView = record { lines = q.log.lines ++ x.lines; slices = ys; chunk_room = log.chunk_room } in y) slices-all

    asked-is : asked ≡ (after_run log.chunk_room).asked
    asked-is =
        a
        ∙ (ap (λ (ys : List Line). settled_with (first_empty ys) (concluded_by (revision_of p.out) answer q.asked)) lines-all
        ∙ (ap (λ (o : Option Lease). settled_with (first_empty (q.log.lines ++ x.lines)) (concluded_by (revision_of o) answer q.asked)) out
        ∙ by-late (λ b o. settled_with (first_empty (q.log.lines ++ x.lines)) (cond b q.asked (concluded o q.asked))) (λ o. refl)))

    abbrev r : Parts
    r = record { asked = asked; tree = tree; log = log }

    same : r ≡ after_run log.chunk_room
    same = ap (λ (y : QuestionsView). let z : Parts = record { asked = y; tree = tree; log = log } in z) asked-is ∙ (ap (λ (y : TreeView). let z : Parts = record { asked = (after_run log.chunk_room).asked; tree = y; log = log } in z) t ∙ ap (λ (y : LogView). let z : Parts = record { asked = (after_run log.chunk_room).asked; tree = one_more_ran (with_placed q.tree i (ran_home p)); log = y } in z) log-is)

    ran-view : (tenant job : List ℕ) → viewed tenant job r ≡ and_own (viewed tenant job q) (own.Finished i Ran)
    ran-view tenant job = ap (λ (y : Parts). viewed tenant job y) same ∙ view-same tenant job q.tree.number q.tree.number (state_of (after_run log.chunk_room)) (solo_step s (own.Finished i Ran)) (starts_of (slice_set q.tree.places i (ran_home p))) (starts_of q.tree.places) refl (sym (run-step log.chunk_room)) (starts-same q.tree.places i (fresh_place 0 Plain 0) (ran_home p) low refl)

    ran-kept : IsAsked asked → IsTree tree → JobInvariant r
    ran-kept ha ht =
        let places : places_of tree.places ≡ places_of (slice_set q.tree.places i (ran_home p)) = ap (λ (y : TreeView). places_of y.places) t in
        let runs : runs_of (places_of tree.places) ≡ runs_of (places_of q.tree.places) + runs_in l.adds = ap (λ (ps : List NodeSlot). runs_of ps) places ∙ more-runs in
        let less : starts_out (places_of tree.places) + 1 ≡ starts_out (places_of q.tree.places) = ap (λ (ps : List NodeSlot). starts_out ps + 1) places ∙ outs (ran_home p) refl in
        let long : length log.lines ≡ length q.log.lines + length x.lines = ap (λ (ys : List Line). length ys) lines-all ∙ length-append q.log.lines x.lines in
        let count : tree.ran ≡ q.tree.ran + 1 = ap (λ (y : TreeView). y.ran) t in
        record {
          own = subst (λ (y : Parts). IsOwn (state_of y)) (sym same) (run-own log.chunk_room);
          asked = ha;
          tree = ht;
          solvers = ap (λ (y : TreeView). y.profile) t ∙ (k.solvers ∙ sym (ap (λ (a : Terms). a.profile) (ap (λ (y : Parts). y.asked.ask) same ∙ (sym (ap (λ (y : SoloMachine). y.ask) (run-step log.chunk_room)) ∙ (finish-keeps s i Ran).ask))));
          ran = omega (arith, count, runs, some-runs, k.ran);
          few_lines = omega (arith, long, runs, some-runs, few-new, k.few_lines);
          chunks = omega (arith, less, room, k.chunks);
        }

    pub ran-ended : (tenant job : List ℕ) → IsAsked asked → IsTree tree → Ended tenant job q r i Ran
    ran-ended tenant job ha ht = record { view = ran-view tenant job; kept = ran-kept ha ht }

  -- the job after a start that came to nothing
  module _ (o : Outcome) (asked : QuestionsView) (tree : TreeView) (t : tree ≡ with_placed q.tree i (came_home p)) (step : solo_step s (own.Finished i o) ≡ state_of (record { asked = asked; tree = with_placed q.tree i (came_home p); log = q.log })) where
    abbrev home : Parts
    home = record { asked = asked; tree = tree; log = q.log }

    home-state : solo_step s (own.Finished i o) ≡ state_of home
    home-state = step ∙ ap (λ (y : TreeView). state_of (record { asked = asked; tree = y; log = q.log })) (sym t)

    home-view : (tenant job : List ℕ) → viewed tenant job home ≡ and_own (viewed tenant job q) (own.Finished i o)
    home-view tenant job = view-same tenant job tree.number q.tree.number (state_of home) (solo_step s (own.Finished i o)) (starts_of tree.places) (starts_of q.tree.places) (ap (λ (y : TreeView). y.number) t) (sym home-state) (ap (λ (y : TreeView). starts_of y.places) t ∙ starts-same q.tree.places i (fresh_place 0 Plain 0) (came_home p) low refl)

    home-kept : IsAsked asked → IsTree tree → JobInvariant home
    home-kept ha ht =
        let places : places_of tree.places ≡ places_of (slice_set q.tree.places i (came_home p)) = ap (λ (y : TreeView). places_of y.places) t in
        let runs : runs_of (places_of tree.places) ≡ runs_of (places_of q.tree.places) = ap (λ (ps : List NodeSlot). runs_of ps) (places ∙ sym (set-placed q.tree.places i (came_home p) low)) ∙ runs-same (places_of q.tree.places) i (place_of (came_home p)) (ap (λ (y : NodeSlot). y.entries) (sym here)) in
        let less : starts_out (places_of tree.places) + 1 ≡ starts_out (places_of q.tree.places) = ap (λ (ps : List NodeSlot). starts_out ps + 1) places ∙ outs (came_home p) refl in
        let count : tree.ran ≡ q.tree.ran = ap (λ (y : TreeView). y.ran) t in
        record {
          own = own-next s (state_of home) (own.Finished i o) k.own tt refl home-state;
          asked = ha;
          tree = ht;
          solvers = ap (λ (y : TreeView). y.profile) t ∙ (k.solvers ∙ sym (ap (λ (a : Terms). a.profile) (sym (ap (λ (y : SoloMachine). y.ask) home-state) ∙ (finish-keeps s i o).ask)));
          ran = omega (arith, count, runs, k.ran);
          few_lines = omega (arith, runs, k.few_lines);
          chunks = omega (arith, less, k.chunks);
        }

    pub home-ended : (tenant job : List ℕ) → IsAsked asked → IsTree tree → Ended tenant job q home i o
    home-ended tenant job ha ht = record { view = home-view tenant job; kept = home-kept ha ht }

  pub starved-step : (asked : QuestionsView) → asked ≡ settled_with (first_empty q.log.lines) (starved_by (revision_of p.out) q.asked) → solo_step s (own.Finished i Starved) ≡ state_of (record { asked = asked; tree = with_placed q.tree i (came_home p); log = q.log })
  starved-step asked a =
      starved-state q i l low out
      ∙ (settled-state (record q { asked = starved_by l.revision q.asked; tree = with_placed q.tree i (came_home p) })
      ∙ ap (λ (y : QuestionsView). state_of (record { asked = y; tree = with_placed q.tree i (came_home p); log = q.log })) (ap (λ (z : Option Lease). settled_with (first_empty q.log.lines) (starved_by (revision_of z) q.asked)) (sym out) ∙ sym a))

  pub lost-step : (asked : QuestionsView) → asked ≡ settled_with (first_empty q.log.lines) q.asked → solo_step s (own.Finished i Lost) ≡ state_of (record { asked = asked; tree = with_placed q.tree i (came_home p); log = q.log })
  lost-step asked a =
      lost-state q i l low out
      ∙ (settled-state (record q { tree = with_placed q.tree i (came_home p) })
      ∙ ap (λ (y : QuestionsView). state_of (record { asked = y; tree = with_placed q.tree i (came_home p); log = q.log })) (sym a))
