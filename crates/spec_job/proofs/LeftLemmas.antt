-- What a job may still run falls with each start that ends.
use Rattle.std.proofs.Common.{◌≡◌, ◌&&◌, is_none, nat_lt, ◌≢◌, ℕ, ◌+◌, ◌-◌, ◌*◌, ◌<◌, ◌≤◌, Bool, true, false, cond, ◌==◌, List, [], ◌∷◌, ◌++◌, length, replicate, Option, Some, None, refl, sym, ◌∙◌, ap, subst, arith, length-append}
use Rattle.std.proofs.lemmas.Bool.{and_parts, eqb-false, ltb-true, le-ltb}
use Rattle.std.proofs.lemmas.List.{length-set, length-replicate}
use Rattle.mal_base.specs.declared.answer.Answer.{Answer}
use Rattle.mal_base.specs.declared.answer.Answer.TheVariants.{Satisfied, Refuted, Spent, OutOfStarts}
use Rattle.mal_base.specs.declared.verdict.Verdict.{Verdict}
use Rattle.mal_base.specs.declared.verdict.Verdict.TheVariants.{Satisfiable, Unsatisfiable}
use Rattle.mal_base.specs.declared.verdict.Outcome.{Outcome}
use Rattle.mal_base.specs.declared.verdict.Outcome.TheVariants.{Ran, Starved, Lost}
use Rattle.spec_node.specs.State.{Node}
use Rattle.spec_node.specs.Model.{model_of}
use Rattle.spec_search.specs.Slice.{Sliced}
use Rattle.spec_job.specs.Journal.{replay}
use Rattle.spec_job.specs.Left.{left_of, after_start, StartsLeaveLess, LeftFalls}
use Rattle.spec_job.specs.SoloMachine.{Own, Opened, Revised, Reasked, Closed, Volume, Started, Finished, Exchanged, Lease, NodeSlot, SoloMachine, solo, solo_step, place_at, with_place, answered, spend, starve, conclude, first_empty, settled_by, settled, is_late, remembered, finished_ran, finished_home, finished_lease, finished, startable, vacant, out_count, is_live}
use Rattle.spec_job.proofs.PushLemmas.{events-keep}
use Rattle.spec_job.proofs.FinishLemmas.{with_entries, slice_of, ran_home, by-ran, by-starved, by-outcome}
use Rattle.spec_job.proofs.FewLemmas.{next-budget}
use Rattle.spec_job.proofs.PlacesLemmas.{marked-length, set-here}
use Rattle.spec_job.proofs.SolvingLemmas.{live-parts, lease_of}

-- a machine has its 64 places, and fewer than three starts of the current revision ran out of memory
pub record HasPlaces (s : SoloMachine) : Type 0 where
  pub count : length s.places ≡ 64
  pub starved : s.starved < 3

-- and where its log has an empty clause, each revision has an answer
pub record IsTidy (s : SoloMachine) : Type 0 where
  pub places : HasPlaces s
  pub settled : (goal : ℕ) → first_empty s.log ≡ Some goal → length s.revisions ≤ length s.answers

all-answered : (s : SoloMachine) (goal : ℕ) → length s.revisions ≤ length (s.answers ++ replicate (length s.revisions - length s.answers) (Refuted goal))
all-answered s goal =
    let long : length (s.answers ++ replicate (length s.revisions - length s.answers) (Refuted goal)) ≡ length s.answers + length (replicate (length s.revisions - length s.answers) (Refuted goal)) = length-append s.answers (replicate (length s.revisions - length s.answers) (Refuted goal)) in
    let count : length (replicate (length s.revisions - length s.answers) (Refuted goal)) ≡ length s.revisions - length s.answers = length-replicate (length s.revisions - length s.answers) (Refuted goal) in
    omega arith

settled-tidy : (s : SoloMachine) → HasPlaces s → IsTidy (settled s)
settled-tidy s h = by_first (first_empty s.log) refl
  where
    by_first : (o : Option ℕ) → first_empty s.log ≡ o → IsTidy (settled_by o s)
    by_first None e = record { places = h; settled = λ goal f. absurd (cc) }
    by_first (Some found) e = record { places = record { count = h.count; starved = omega arith }; settled = λ goal f. all-answered s found }

answered-places : (s : SoloMachine) (a : Answer) → HasPlaces s → HasPlaces (answered s a)
answered-places s a h = record { count = h.count; starved = omega arith }

spend-places : (s : SoloMachine) → HasPlaces s → HasPlaces (spend s)
spend-places s h = by_test (s.spent + 1 == s.ask.slices)
  where
    by_test : (b : Bool) → HasPlaces (cond b (answered s (Spent s.ask.slices)) (record s { spent = s.spent + 1 }))
    by_test true = answered-places s (Spent s.ask.slices) h
    by_test false = record { count = h.count; starved = h.starved }

third-out : (n : ℕ) → n < 3 → (n + 1 == 3) ≡ false → n + 1 < 3
third-out n low e = let other : n + 1 ≢ 3 = eqb-false (n + 1) 3 e in omega arith

starve-places : (s : SoloMachine) → HasPlaces s → HasPlaces (starve s)
starve-places s h = by_test (s.starved + 1 == 3) refl
  where
    by_test : (b : Bool) → (s.starved + 1 == 3) ≡ b → HasPlaces (cond b (answered s OutOfStarts) (record s { starved = s.starved + 1 }))
    by_test true e = answered-places s OutOfStarts h
    by_test false e = record { count = h.count; starved = third-out s.starved h.starved e }

conclude-places : (v : Option Verdict) (n : Node) (s : SoloMachine) → HasPlaces s → HasPlaces (conclude v n s)
conclude-places None n s h = spend-places s h
conclude-places (Some Satisfiable) n s h = answered-places s (Satisfied (model_of n)) h
conclude-places (Some (Unsatisfiable goal)) n s h = answered-places s (Refuted goal) h

placed : (s : SoloMachine) (i : ℕ) (p : NodeSlot) → HasPlaces s → HasPlaces (with_place s i p)
placed s i p h = record { count = length-set s.places i p ∙ h.count; starved = h.starved }

lease-places : (s : SoloMachine) (i : ℕ) (p : NodeSlot) (l : Lease) (o : Outcome) → HasPlaces s → HasPlaces (finished_lease s i p l o)
lease-places s i p l o h = by-outcome HasPlaces s i p l o ran starved home
  where
    back : HasPlaces (ran_home s i p l)
    back = record { count = length-set s.places i (with_entries p l) ∙ h.count; starved = h.starved }

    ran : HasPlaces (finished_ran s i p l)
    ran = by-ran HasPlaces s i p l (λ late. back) (λ now. conclude-places (slice_of s i p l).node.verdict (slice_of s i p l).node (ran_home s i p l) back)

    home : HasPlaces (finished_home s i p)
    home = placed s i (record p { out = None }) h

    starved : HasPlaces (finished_lease s i p l Starved)
    starved = by-starved HasPlaces s i p l (λ late. home) (λ now. starve-places (finished_home s i p) home)

finished-tidy : (s : SoloMachine) (i : ℕ) (p : NodeSlot) (out : Option Lease) (o : Outcome) → IsTidy s → IsTidy (finished s i p out o)
finished-tidy s i p None o h = h
finished-tidy s i p (Some l) o h = settled-tidy (finished_lease s i p l o) (lease-places s i p l o h.places)

pub step-tidy : (s : SoloMachine) (o : Own) → IsTidy s → IsTidy (solo_step s o)
step-tidy s (Opened ask) h = record { places = record { count = h.places.count; starved = h.places.starved }; settled = h.settled }
step-tidy s (Revised r) h = settled-tidy (record s { revisions = s.revisions ++ r ∷ [] }) (record { count = h.places.count; starved = h.places.starved })
step-tidy s (Reasked w) h = record { places = record { count = h.places.count; starved = h.places.starved }; settled = h.settled }
step-tidy s Closed h = record { places = record { count = h.places.count; starved = h.places.starved }; settled = h.settled }
step-tidy s (Volume v) h = record { places = record { count = h.places.count; starved = h.places.starved }; settled = h.settled }
step-tidy s (Started i) h = record { places = placed s i (record (place_at s i) { out = Some (lease_of s i); starts = (place_at s i).starts + 1 }) h.places; settled = h.settled }
step-tidy s (Finished i o) h = finished-tidy s i (place_at s i) (place_at s i).out o h
step-tidy s Exchanged h = record { places = record { count = marked-length s.volume (length s.log) 0 s.places ∙ h.places.count; starved = h.places.starved }; settled = h.settled }

events-tidy : (past events : List Own) → IsTidy (solo past) → IsTidy (solo (past ++ events))
events-tidy past events h = events-keep IsTidy (λ before os. Unit {0}) (λ before o os q k. (step-tidy (solo before) o k, tt)) past events tt h

-- so it is of every machine
pub solo-tidy : (events : List Own) → IsTidy (solo events)
solo-tidy events = events-tidy [] events (record { places = record { count = length-replicate 64 vacant; starved = omega arith }; settled = λ goal e. absurd (cc) })

-- a budget of one more revision, where the current one has spent less than its own
room-more : (r a slices spent starved : ℕ) → a < r → spent < slices → starved < 3 → (r - (a + 1)) * (slices + 3) + spent + starved + 1 ≤ (r - a) * (slices + 3)
room-more r a slices spent starved low less few =
    let one : (r - (a + 1)) + 1 ≡ r - a = omega arith in
    let product : ((r - (a + 1)) + 1) * (slices + 3) ≡ (r - (a + 1)) * (slices + 3) + (slices + 3) = next-budget (r - (a + 1)) (slices + 3) in
    let same : ((r - (a + 1)) + 1) * (slices + 3) ≡ (r - a) * (slices + 3) = ap (λ (n : ℕ). n * (slices + 3)) one in
    omega (arith, product, same, less, few)

-- a machine that may start a node
record MayEnd (s : SoloMachine) : Type 0 where
  pub live : length s.answers < length s.revisions
  pub spent : s.spent < s.ask.slices
  pub starved : s.starved < 3

room-of : (s : SoloMachine) → MayEnd s → (length s.revisions - (length s.answers + 1)) * (s.ask.slices + 3) + s.spent + s.starved + 1 ≤ (length s.revisions - length s.answers) * (s.ask.slices + 3)
room-of s h = room-more (length s.revisions) (length s.answers) s.ask.slices s.spent s.starved h.live h.spent h.starved

answered-less : (s : SoloMachine) (a : Answer) → MayEnd s → left_of (answered s a) < left_of s
answered-less s a h =
    let long : length (s.answers ++ a ∷ []) ≡ length s.answers + 1 = length-append s.answers (a ∷ []) in
    let product : (length s.revisions - length (s.answers ++ a ∷ [])) * (s.ask.slices + 3) ≡ (length s.revisions - (length s.answers + 1)) * (s.ask.slices + 3) = ap (λ (n : ℕ). (length s.revisions - n) * (s.ask.slices + 3)) long in
    omega (arith, product, room-of s h)

spend-less : (s : SoloMachine) → MayEnd s → left_of (spend s) < left_of s
spend-less s h = by_test (s.spent + 1 == s.ask.slices)
  where
    by_test : (b : Bool) → left_of (cond b (answered s (Spent s.ask.slices)) (record s { spent = s.spent + 1 })) < left_of s
    by_test true = answered-less s (Spent s.ask.slices) h
    by_test false = omega (arith, room-of s h)

starve-less : (s : SoloMachine) → MayEnd s → left_of (starve s) < left_of s
starve-less s h = by_test (s.starved + 1 == 3)
  where
    by_test : (b : Bool) → left_of (cond b (answered s OutOfStarts) (record s { starved = s.starved + 1 })) < left_of s
    by_test true = answered-less s OutOfStarts h
    by_test false = omega (arith, room-of s h)

conclude-less : (v : Option Verdict) (n : Node) (s : SoloMachine) → MayEnd s → left_of (conclude v n s) < left_of s
conclude-less None n s h = spend-less s h
conclude-less (Some Satisfiable) n s h = answered-less s (Satisfied (model_of n)) h
conclude-less (Some (Unsatisfiable goal)) n s h = answered-less s (Refuted goal) h

settled-left : (o : Option ℕ) (s : SoloMachine) → left_of (settled_by o s) ≤ left_of s
settled-left None s = omega arith
settled-left (Some goal) s =
    let none : length s.revisions - length (s.answers ++ replicate (length s.revisions - length s.answers) (Refuted goal)) ≡ 0 = omega (arith, all-answered s goal) in
    let product : (length s.revisions - length (s.answers ++ replicate (length s.revisions - length s.answers) (Refuted goal))) * (s.ask.slices + 3) ≡ 0 * (s.ask.slices + 3) = ap (λ (n : ℕ). n * (s.ask.slices + 3)) none in
    omega (arith, product)

-- a finish of a start of the current revision
not-late : (b : Bool) (x y : SoloMachine) → b ≡ false → cond b x y ≡ y
not-late true x y e = absurd (cc)
not-late false x y e = refl

module _ (s : SoloMachine) (i : ℕ) (h : IsTidy s) (low : i ≤ 63) (may : startable s i ≡ true) where
  abbrev q : NodeSlot
  q = record (place_at s i) { out = Some (lease_of s i); starts = (place_at s i).starts + 1 }

  abbrev begun : SoloMachine
  begun = with_place s i q

  here : place_at begun i ≡ q
  here = let inside : i < length s.places = omega (arith, h.places.count, low) in set-here s.places i q inside

  ends : (o : Outcome) → after_start s i o ≡ settled (finished_lease begun i q (lease_of s i) o)
  ends o = ap (λ (p : NodeSlot). finished begun i p p.out o) here

  in-time : is_late begun (lease_of s i) ≡ false
  in-time = le-ltb (length s.answers) (length s.answers) (omega arith)

  ending : MayEnd s
  ending =
      let less : s.spent + out_count s < s.ask.slices = ltb-true (s.spent + out_count s) s.ask.slices (and_parts (is_none (place_at s i).out) (nat_lt (s.spent + out_count s) s.ask.slices) (and_parts (is_live s && nat_lt i s.volume) (is_none (place_at s i).out && nat_lt (s.spent + out_count s) s.ask.slices) may).1).1 in
      record { live = live-parts s i may; spent = omega (arith, less); starved = h.places.starved }

  ran : left_of (after_start s i Ran) < left_of s
  ran = subst (λ (t : SoloMachine). left_of t < left_of s) (sym (ends Ran)) (let most : left_of (settled_by (first_empty ended.log) ended) ≤ left_of ended = settled-left (first_empty ended.log) ended in omega (arith, most, less))
    where
      slice : Sliced
      slice = replay s.ask.profile i (q.entries ++ (lease_of s i).adds)

      home : SoloMachine
      home = record (with_place begun i (record q { entries = q.entries ++ (lease_of s i).adds; out = None })) { log = s.log ++ slice.lines; slices = s.slices ++ remembered begun (lease_of s i) slice ∷ []; ran = s.ran + 1 }

      ended : SoloMachine
      ended = finished_lease begun i q (lease_of s i) Ran

      less : left_of ended < left_of s
      less = subst (λ (t : SoloMachine). left_of t < left_of s) (sym (not-late (is_late begun (lease_of s i)) home (conclude slice.node.verdict slice.node home) in-time)) (conclude-less slice.node.verdict slice.node home (record { live = ending.live; spent = ending.spent; starved = ending.starved }))

  starved : left_of (after_start s i Starved) < left_of s
  starved = subst (λ (t : SoloMachine). left_of t < left_of s) (sym (ends Starved)) (let most : left_of (settled_by (first_empty ended.log) ended) ≤ left_of ended = settled-left (first_empty ended.log) ended in omega (arith, most, less))
    where
      home : SoloMachine
      home = finished_home begun i q

      ended : SoloMachine
      ended = finished_lease begun i q (lease_of s i) Starved

      less : left_of ended < left_of s
      less = subst (λ (t : SoloMachine). left_of t < left_of s) (sym (not-late (is_late begun (lease_of s i)) home (starve home) in-time)) (starve-less home (record { live = ending.live; spent = ending.spent; starved = ending.starved }))

  lost : left_of (after_start s i Lost) ≡ left_of s
  lost = ap left_of (ends Lost) ∙ by_first (first_empty s.log) refl
    where
      by_first : (o : Option ℕ) → first_empty s.log ≡ o → left_of (settled_by o (finished_home begun i q)) ≡ left_of s
      by_first None e = refl
      by_first (Some goal) e = absurd (let all : length s.revisions ≤ length s.answers = h.settled goal e in let live : length s.answers < length s.revisions = ending.live in omega arith)

  pub starts-less : StartsLeaveLess s i
  starts-less = record { begun = refl; ran = ran; starved = starved; lost = lost }

pub left-falls : LeftFalls
left-falls events i low may = starts-less (solo events) i (solo-tidy events) low may
