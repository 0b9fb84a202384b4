-- Finishes of a machine that solves, and each of its events: its satisfiable answers carry models.
use Rattle.std.proofs.Common.{◌≡◌, ℕ, suc, ◌+◌, ◌<◌, ◌≤◌, Bool, true, false, cond, ◌==◌, List, [], ◌++◌, length, take, Option, Some, None, refl, sym, ◌∙◌, ap, subst, arith}
use Rattle.std.specs.List.{list_all}
use Rattle.std.proofs.lemmas.Bool.{and_parts, ltb-false}
use Rattle.std.proofs.lemmas.List.Elements.{All-nil}
use Rattle.std.proofs.lemmas.Option.{slice_get_within}
use Rattle.mal_base.specs.declared.profile.Profile.{Profile}
use Rattle.mal_base.specs.Asks.{Terms}
use Rattle.mal_base.specs.declared.answer.Answer.TheVariants.{Satisfied, Refuted, Spent, OutOfStarts}
use Rattle.mal_base.specs.declared.verdict.Verdict.{Verdict}
use Rattle.mal_base.specs.declared.verdict.Verdict.TheVariants.{Satisfiable, Unsatisfiable}
use Rattle.mal_base.specs.declared.verdict.Outcome.{Outcome}
use Rattle.mal_base.specs.declared.verdict.Outcome.TheVariants.{Starved}
use Rattle.mal_revision.specs.Posted.{Posted}
use Rattle.spec_logic.specs.Logic.{satisfies, is_true_in}
use Rattle.spec_node.specs.State.{Node}
use Rattle.spec_node.specs.Model.{model_of}
use Rattle.spec_job.specs.Journal.{replay, loads_in}
use Rattle.spec_job.specs.SoloMachine.{Own, Opened, Revised, Reasked, Closed, Volume, Started, Finished, Exchanged, Lease, NodeSlot, SoloMachine, unopened, solo_step, place_at, answered, spend, starve, conclude, first_empty, is_late, finished_ran, finished_home, finished_lease, finished}
use Rattle.spec_job.specs.Models.{clauses_of, AnswersSolve}
use Rattle.spec_job.specs.Runnable.{MayHappen}
use Rattle.spec_job.proofs.LoadedLemmas.{IsLoadable, last_assumed, Solves, HasLoaded, fresh-loaded, loaded-solves, last-at}
use Rattle.spec_job.proofs.FinishLemmas.{with_entries, slice_of, ran_home, ran_now, by-ran, by-starved, by-outcome, by-lease}
use Rattle.spec_job.proofs.PlacesLemmas.{get-vacant}
use Rattle.spec_job.proofs.SolvingLemmas.{IsLeased, IsReady, IsSolvingSolo, placed-solving, MayLease, out-leased}
use Rattle.spec_job.proofs.PostingLemmas.{answered-solving, settled-solving, revised-solving, started-solving, exchanged-solving}

-- the last slice of a budget answers unknown
spend-solving : (s : SoloMachine) → length s.answers < length s.revisions → IsSolvingSolo s → IsSolvingSolo (spend s)
spend-solving s live h = by_test (s.spent + 1 == s.ask.slices)
  where
    by_test : (b : Bool) → IsSolvingSolo (cond b (answered s (Spent s.ask.slices)) (record s { spent = s.spent + 1 }))
    by_test true = answered-solving s.ask.profile s.revisions s.answers s.places (Spent s.ask.slices) live (λ model e. absurd (cc)) h
    by_test false = h

-- so does the third start that reported out of memory
starve-solving : (s : SoloMachine) → length s.answers < length s.revisions → IsSolvingSolo s → IsSolvingSolo (starve s)
starve-solving s live h = by_test (s.starved + 1 == 3)
  where
    by_test : (b : Bool) → IsSolvingSolo (cond b (answered s OutOfStarts) (record s { starved = s.starved + 1 }))
    by_test true = answered-solving s.ask.profile s.revisions s.answers s.places OutOfStarts live (λ model e. absurd (cc)) h
    by_test false = h

-- a verdict answers the current revision, a satisfiable one with the node's model
conclude-solving : (v : Option Verdict) (n : Node) (s : SoloMachine) → length s.answers < length s.revisions → (v ≡ Some Satisfiable → Solves (take (length s.answers + 1) s.revisions) (model_of n)) → IsSolvingSolo s → IsSolvingSolo (conclude v n s)
conclude-solving None n s live good h = spend-solving s live h
conclude-solving (Some Satisfiable) n s live good h = answered-solving s.ask.profile s.revisions s.answers s.places (Satisfied (model_of n)) live (λ model e. let same : model_of n ≡ model = cc in subst (λ (m : List Bool). Solves (take (length s.answers + 1) s.revisions) m) same (good refl)) h
conclude-solving (Some (Unsatisfiable goal)) n s live good h = answered-solving s.ask.profile s.revisions s.answers s.places (Refuted goal) live (λ model e. absurd (cc)) h

-- a place at home with the entries that its start added
pub home-ready : (profile : Profile) (revisions : List Posted) (c i : ℕ) (p : NodeSlot) (l : Lease) → IsLeased profile revisions c i p.entries l → IsReady profile revisions c i (record p { entries = p.entries ++ l.adds; out = None })
home-ready profile revisions c i p l k =
    let reached : l.revision ≤ c = k.reached in
    let posted : l.revision < length revisions = k.posted in
    let loads : loads_in (p.entries ++ l.adds) ≡ l.revision + 1 = k.loads in
    record {
      early = omega arith;
      posted = omega arith;
      node = subst (λ (m : ℕ). HasLoaded (take m revisions) (replay profile i (p.entries ++ l.adds)).node) (sym loads) k.node;
      leased = λ x e. absurd (cc);
    }

-- a start that is not late is for the current revision
pub in-time : (s : SoloMachine) (l : Lease) → l.revision ≤ length s.answers → is_late s l ≡ false → l.revision ≡ length s.answers
in-time s l reached e = let b : length s.answers ≤ l.revision = ltb-false l.revision (length s.answers) e in omega arith

-- a slice that was run
ran-solving : (s : SoloMachine) (i : ℕ) (l : Lease) → (place_at s i).out ≡ Some l → IsSolvingSolo s → IsSolvingSolo (finished_ran s i (place_at s i) l)
ran-solving s i l out h = by-ran IsSolvingSolo s i p l (λ late. at_home) now
  where
    p : NodeSlot
    p = place_at s i

    leased : IsLeased s.ask.profile s.revisions (length s.answers) i p.entries l
    leased = out-leased s i l out h

    node : Node
    node = (slice_of s i p l).node

    at_home : IsSolvingSolo (ran_home s i p l)
    at_home = placed-solving s.ask.profile s.revisions s.answers s.places i (with_entries p l) (λ low. home-ready s.ask.profile s.revisions (length s.answers) i p l leased) h

    now : is_late s l ≡ false → IsSolvingSolo (ran_now s i p l)
    now e =
        let now : l.revision ≡ length s.answers = in-time s l leased.reached e in
        let posted : l.revision < length s.revisions = leased.posted in
        conclude-solving node.verdict node (ran_home s i p l) (omega arith) (λ v. subst (λ (r : ℕ). Solves (take (r + 1) s.revisions) (model_of node)) now (loaded-solves (take (l.revision + 1) s.revisions) node leased.node v)) at_home

-- a start that comes to nothing
pub idle-solving : (s : SoloMachine) (i : ℕ) → IsSolvingSolo s → IsSolvingSolo (finished_home s i (place_at s i))
idle-solving s i h =
    let p : NodeSlot = place_at s i in
    placed-solving s.ask.profile s.revisions s.answers s.places i (record p { out = None }) (λ low.
    let ready : IsReady s.ask.profile s.revisions (length s.answers) i p = h.ready i low in
    record { early = ready.early; posted = ready.posted; node = ready.node; leased = λ l e. absurd (cc) }) h

starved-solving : (s : SoloMachine) (i : ℕ) (l : Lease) → (place_at s i).out ≡ Some l → IsSolvingSolo s → IsSolvingSolo (finished_lease s i (place_at s i) l Starved)
starved-solving s i l out h = by-starved IsSolvingSolo s i (place_at s i) l (λ late. idle-solving s i h) now
  where
    leased : IsLeased s.ask.profile s.revisions (length s.answers) i (place_at s i).entries l
    leased = out-leased s i l out h

    now : is_late s l ≡ false → IsSolvingSolo (starve (finished_home s i (place_at s i)))
    now e =
        let now : l.revision ≡ length s.answers = in-time s l leased.reached e in
        let posted : l.revision < length s.revisions = leased.posted in
        starve-solving (finished_home s i (place_at s i)) (omega arith) (idle-solving s i h)

-- a start that ended, by its outcome
pub lease-solving : (s : SoloMachine) (i : ℕ) (l : Lease) (o : Outcome) → (place_at s i).out ≡ Some l → IsSolvingSolo s → IsSolvingSolo (finished_lease s i (place_at s i) l o)
lease-solving s i l o e h = by-outcome IsSolvingSolo s i (place_at s i) l o (ran-solving s i l e h) (starved-solving s i l e h) (idle-solving s i h)

-- a finish, whether a start was out or not
finished-solving : (s : SoloMachine) (i : ℕ) (out : Option Lease) (o : Outcome) → (place_at s i).out ≡ out → IsSolvingSolo s → IsSolvingSolo (finished s i (place_at s i) out o)
finished-solving s i out o e h = by-lease IsSolvingSolo s i (place_at s i) out o h (λ l f. let ended : SoloMachine = finished_lease s i (place_at s i) l o in settled-solving (first_empty ended.log) ended (lease-solving s i l o (e ∙ f) h))

-- the machine that is opened
pub opened-solving : (ask : Terms) → IsSolvingSolo (record unopened { ask = ask })
opened-solving ask = record {
  loadable = All-nil IsLoadable;
  room = omega arith;
  order = omega arith;
  count = omega arith;
  ready = λ i low. subst (λ (p : NodeSlot). IsReady ask.profile [] 0 i p) (sym (get-vacant 64 i)) (record { early = omega arith; posted = omega arith; node = fresh-loaded ask.profile i low; leased = λ l e. absurd (cc) });
  solved = λ r model e. absurd (cc);
}

-- each event that may happen
pub step-solving : (s : SoloMachine) (o : Own) → MayHappen s o → MayLease s → IsSolvingSolo s → IsSolvingSolo (solo_step s o)
step-solving s (Opened ask) may leases h = subst (λ (x : SoloMachine). IsSolvingSolo (record x { ask = ask })) (sym may) (opened-solving ask)
step-solving s (Revised r) may leases h = revised-solving s r may h
step-solving s (Reasked w) may leases h = h
step-solving s Closed may leases h = h
step-solving s (Volume v) may leases h = h
step-solving s (Started i) may leases h = started-solving s i may leases h
step-solving s (Finished i o) may leases h = finished-solving s i (place_at s i).out o refl h
step-solving s Exchanged may leases h = exchanged-solving s h

-- the satisfiable answers of a machine that solves carry models of their revisions
pub solving-answers : (s : SoloMachine) → IsSolvingSolo s → AnswersSolve s
solving-answers s h r model e =
    let parts = and_parts (satisfies model (clauses_of (take (r + 1) s.revisions))) (list_all (is_true_in model) (last_assumed (take (r + 1) s.revisions))) (h.solved r model e).solves in
    let next : r + 1 ≡ suc r = omega arith in
    let within : r < length s.answers = slice_get_within s.answers r (Satisfied model) e in
    let order : length s.answers ≤ length s.revisions = h.order in
    record {
      posted = omega arith;
      satisfied = parts.0;
      assumed = λ p at. subst (λ (xs : List ℕ). list_all (is_true_in model) xs ≡ true) (ap (λ (k : ℕ). last_assumed (take k s.revisions)) next ∙ last-at s.revisions r p [] at) parts.1;
      whole = (h.solved r model e).whole;
    }
