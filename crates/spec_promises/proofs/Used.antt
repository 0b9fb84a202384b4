-- The starts of a job, against what its revisions may use.
use Rattle.std.proofs.Common.{◌≡◌, ◌≢◌, ℕ, ◌+◌, ◌-◌, ◌*◌, ◌<◌, ◌≤◌, Bool, true, false, cond, ◌==◌, ◌&&◌, List, [], ◌∷◌, ◌++◌, length, replicate, Option, Some, None, inl, inr, ◌⊎◌, refl, ◌∙◌, ap, arith, length-append}
use Rattle.std.specs.Prelude.{nat_lt, is_none, count_by, slice_set}
use Rattle.std.proofs.lemmas.Bool.{and_parts, cases_lt, eq-eqb, eqb-false, lt-ltb, ltb-true, ne_eqb, both_ways}
use Rattle.std.proofs.lemmas.List.{length-replicate}
use Rattle.std.proofs.lemmas.Nat.{mul-le}
use Rattle.mal_base.specs.Asks.{Terms}
use Rattle.mal_base.specs.NumberedClause.{Line}
use Rattle.mal_base.specs.declared.answer.Answer.{Answer}
use Rattle.mal_base.specs.declared.answer.Answer.TheVariants.{Satisfied, Refuted, Spent, OutOfStarts}
use Rattle.mal_base.specs.declared.verdict.Outcome.{Outcome}
use Rattle.mal_base.specs.declared.verdict.Outcome.TheVariants.{Ran, Starved, Lost}
use Rattle.mal_base.specs.declared.verdict.Verdict.{Verdict}
use Rattle.mal_base.specs.declared.verdict.Verdict.TheVariants.{Satisfiable, Unsatisfiable}
use Rattle.mal_revision.specs.Posted.{Posted}
use Rattle.spec_node.specs.Model.{model_of}
use Rattle.spec_node.specs.State.{Node}
use Rattle.spec_job.specs.SoloMachine.{Own, Opened, Revised, Reasked, Closed, Volume, Started, Finished, Exchanged, Lease, NodeSlot, Slice, SoloMachine, solo, solo_step, place_at, is_for, out_count, is_live, startable, answered, spend, starve, conclude, settled_by, first_empty, is_late, finished_home, finished_lease, exchanged, marked_from}
use Rattle.spec_job.proofs.FinishLemmas.{with_entries, slice_of, ran_home, by-ran, by-starved, by-lease}
use Rattle.spec_job.proofs.PlacesLemmas.{out-within}
use Rattle.spec_job.proofs.SolvingLemmas.{lease_of, live-parts}
use Rattle.spec_job.proofs.SumLemmas.{sum-set, sum-marked}

-- how many starts are out for a revision
abbrev pub one_if : Bool → ℕ
one_if b = cond b 1 0

abbrev outs : ℕ → List NodeSlot → ℕ
outs r places = count_by (λ p. is_for r p.out) places

-- so many starts were made of a job of which none was lost: no more than the budgets of the revisions with answers, and
-- what the current one has used; and none is out for a revision after that, or for one that was not posted
pub record IsUsed (n : ℕ) (s : SoloMachine) : Type 0 where
  pub shared : s.spent + outs (length s.answers) s.places ≤ s.ask.slices
  pub few : s.starved ≤ 2
  pub used : n ≤ length s.answers * (s.ask.slices + 2) + (s.spent + s.starved + outs (length s.answers) s.places)
  pub idle : length s.answers ≡ length s.revisions → (s.spent ≡ 0) × (s.starved ≡ 0)
  pub order : length s.answers ≤ length s.revisions
  pub ahead : (r : ℕ) → (length s.answers < r) ⊎ (length s.revisions ≤ r) → outs r s.places ≡ 0

-- one of them has come back for the current revision, and is not counted yet
record IsBack (n : ℕ) (s : SoloMachine) : Type 0 where
  shared : s.spent + outs (length s.answers) s.places + 1 ≤ s.ask.slices
  few : s.starved ≤ 2
  used : n ≤ length s.answers * (s.ask.slices + 2) + (s.spent + s.starved + outs (length s.answers) s.places + 1)
  live : length s.answers < length s.revisions
  ahead : (r : ℕ) → (length s.answers < r) ⊎ (length s.revisions ≤ r) → outs r s.places ≡ 0

next-budget : (n b : ℕ) → (n + 1) * b ≡ n * b + b
next-budget n b = grind arith

budgets-more : (n m b : ℕ) → n < m → n * b + b ≤ m * b
budgets-more n m b low =
    let most : (n + 1) * b ≤ m * b = mul-le (n + 1) b m b (omega arith) (omega arith) in
    let next : (n + 1) * b ≡ n * b + b = next-budget n b in
    omega arith

-- the current revision is answered
answered-used : (n : ℕ) (s : SoloMachine) (a : Answer) → IsBack n s → IsUsed n (answered s a)
answered-used n s a h =
    let long : length (s.answers ++ a ∷ []) ≡ length s.answers + 1 = length-append s.answers (a ∷ []) in
    let none : outs (length (s.answers ++ a ∷ [])) s.places ≡ 0 = ap (λ (r : ℕ). outs r s.places) long ∙ h.ahead (length s.answers + 1) (inl (omega arith)) in
    let product : length (s.answers ++ a ∷ []) * (s.ask.slices + 2) ≡ length s.answers * (s.ask.slices + 2) + (s.ask.slices + 2) = ap (λ (m : ℕ). m * (s.ask.slices + 2)) long ∙ next-budget (length s.answers) (s.ask.slices + 2) in
    record {
      shared = omega (arith, none);
      few = omega arith;
      used = omega (arith, none, product, h.used, h.shared, h.few);
      idle = λ e. (refl, refl);
      order = omega (arith, long, h.live);
      ahead = λ r side. by_side r long side;
    }
  where
    by_side : (r : ℕ) → length (s.answers ++ a ∷ []) ≡ length s.answers + 1 → (length (s.answers ++ a ∷ []) < r) ⊎ (length s.revisions ≤ r) → outs r s.places ≡ 0
    by_side r long (inl low) = h.ahead r (inl (omega (arith, long, low)))
    by_side r long (inr high) = h.ahead r (inr high)

spend-used : (n : ℕ) (s : SoloMachine) → IsBack n s → IsUsed n (spend s)
spend-used n s h = by_test (s.spent + 1 == s.ask.slices)
  where
    by_test : (b : Bool) → IsUsed n (cond b (answered s (Spent s.ask.slices)) (record s { spent = s.spent + 1 }))
    by_test true = answered-used n s (Spent s.ask.slices) h
    by_test false = record { shared = omega (arith, h.shared); few = h.few; used = omega (arith, h.used); idle = λ e. absurd (omega (arith, e, h.live)); order = omega (arith, h.live); ahead = h.ahead }

conclude-used : (n : ℕ) (v : Option Verdict) (node : Node) (s : SoloMachine) → IsBack n s → IsUsed n (conclude v node s)
conclude-used n None node s h = spend-used n s h
conclude-used n (Some Satisfiable) node s h = answered-used n s (Satisfied (model_of node)) h
conclude-used n (Some (Unsatisfiable goal)) node s h = answered-used n s (Refuted goal) h

third-out : (m : ℕ) → m ≤ 2 → (m + 1 == 3) ≡ false → m + 1 ≤ 2
third-out m low e = let other : m + 1 ≢ 3 = eqb-false (m + 1) 3 e in omega arith

starve-used : (n : ℕ) (s : SoloMachine) → IsBack n s → IsUsed n (starve s)
starve-used n s h = by_test (s.starved + 1 == 3) refl
  where
    by_test : (b : Bool) → (s.starved + 1 == 3) ≡ b → IsUsed n (cond b (answered s OutOfStarts) (record s { starved = s.starved + 1 }))
    by_test true e = answered-used n s OutOfStarts h
    by_test false e = record { shared = omega (arith, h.shared); few = third-out s.starved h.few e; used = omega (arith, h.used); idle = λ q. absurd (omega (arith, q, h.live)); order = omega (arith, h.live); ahead = h.ahead }

-- an empty clause answers all
settled-used : (n : ℕ) (o : Option ℕ) (s : SoloMachine) → IsUsed n s → IsUsed n (settled_by o s)
settled-used n None s h = h
settled-used n (Some goal) s h = record {
  shared = omega (arith, none);
  few = omega arith;
  used = by_order (cases_lt (length s.answers) (length s.revisions));
  idle = λ e. (refl, refl);
  order = omega (arith, all);
  ahead = λ r side. h.ahead r (inr (by_side r side));
}
  where
    answers : List Answer
    answers = s.answers ++ replicate (length s.revisions - length s.answers) (Refuted goal)

    all : length answers ≡ length s.revisions
    all =
        let long : length answers ≡ length s.answers + length (replicate (length s.revisions - length s.answers) (Refuted goal)) = length-append s.answers (replicate (length s.revisions - length s.answers) (Refuted goal)) in
        let count : length (replicate (length s.revisions - length s.answers) (Refuted goal)) ≡ length s.revisions - length s.answers = length-replicate (length s.revisions - length s.answers) (Refuted goal) in
        omega (arith, long, count, h.order)

    none : outs (length answers) s.places ≡ 0
    none = ap (λ (r : ℕ). outs r s.places) all ∙ h.ahead (length s.revisions) (inr (omega arith))

    by_side : (r : ℕ) → (length answers < r) ⊎ (length s.revisions ≤ r) → length s.revisions ≤ r
    by_side r (inl low) = omega (arith, all, low)
    by_side r (inr high) = high

    product : length answers * (s.ask.slices + 2) ≡ length s.revisions * (s.ask.slices + 2)
    product = ap (λ (m : ℕ). m * (s.ask.slices + 2)) all

    by_order : (length s.answers < length s.revisions) ⊎ (length s.revisions ≤ length s.answers) → n ≤ length answers * (s.ask.slices + 2) + (0 + 0 + outs (length answers) s.places)
    by_order (inl low) =
        let most : length s.answers * (s.ask.slices + 2) + (s.ask.slices + 2) ≤ length s.revisions * (s.ask.slices + 2) = budgets-more (length s.answers) (length s.revisions) (s.ask.slices + 2) low in
        omega (arith, most, product, none, h.used, h.shared, h.few)
    by_order (inr high) =
        let same : length s.answers ≡ length s.revisions = omega (arith, high, h.order) in
        let zero = h.idle same in
        let here : outs (length s.answers) s.places ≡ 0 = ap (λ (r : ℕ). outs r s.places) same ∙ h.ahead (length s.revisions) (inr (omega arith)) in
        let equal : length s.answers * (s.ask.slices + 2) ≡ length s.revisions * (s.ask.slices + 2) = ap (λ (m : ℕ). m * (s.ask.slices + 2)) same in
        omega (arith, equal, product, none, zero.0, zero.1, here, h.used)

-- a start that has come back
module _ (n i : ℕ) (s : SoloMachine) (l : Lease) (q : NodeSlot) (log : List Line) (kept : List Slice) (ran : ℕ) (out : (place_at s i).out ≡ Some l) (none : q.out ≡ None) (h : IsUsed n s) where
  abbrev back : SoloMachine
  back = record s { places = slice_set s.places i q; log = log; slices = kept; ran = ran }

  outs-set : (c : ℕ) → outs c (slice_set s.places i q) + one_if (l.revision == c) ≡ outs c s.places
  outs-set c =
      let set : outs c (slice_set s.places i q) + one_if (is_for c (place_at s i).out) ≡ outs c s.places + one_if (is_for c q.out) = sum-set (λ p. one_if (is_for c p.out)) s.places i q (out-within s.places i l out) in
      let old : one_if (is_for c (place_at s i).out) ≡ one_if (l.revision == c) = ap (λ (o : Option Lease). one_if (is_for c o)) out in
      let new : one_if (is_for c q.out) ≡ 0 = ap (λ (o : Option Lease). one_if (is_for c o)) none in
      omega (arith, set, old, new)

  back-ahead : (r : ℕ) → (length s.answers < r) ⊎ (length s.revisions ≤ r) → outs r (slice_set s.places i q) ≡ 0
  back-ahead r side = omega (arith, outs-set r, h.ahead r side)

  late-used : l.revision < length s.answers → IsUsed n back
  late-used late =
      let other : one_if (l.revision == length s.answers) ≡ 0 = ap one_if (ne_eqb l.revision (length s.answers) (omega (arith, late))) in
      let same : outs (length s.answers) (slice_set s.places i q) ≡ outs (length s.answers) s.places = omega (arith, outs-set (length s.answers), other) in
      record { shared = omega (arith, same, h.shared); few = h.few; used = omega (arith, same, h.used); idle = h.idle; order = h.order; ahead = back-ahead }

  -- no start is out for a later revision
  current : (late : is_late s l ≡ false) → l.revision ≡ length s.answers
  current late = by_order (cases_lt (length s.answers) l.revision)
    where
      not-less : l.revision < length s.answers → ⊥
      not-less low = both_ways (is_late s l) late (lt-ltb l.revision (length s.answers) low)

      by_order : (length s.answers < l.revision) ⊎ (l.revision ≤ length s.answers) → l.revision ≡ length s.answers
      by_order (inl more) =
          let one : one_if (l.revision == l.revision) ≡ 1 = ap one_if (eq-eqb l.revision l.revision refl) in
          absurd (omega (arith, outs-set l.revision, one, h.ahead l.revision (inl more)))
      by_order (inr less) = by_less (cases_lt l.revision (length s.answers)) less
        where
          by_less : (l.revision < length s.answers) ⊎ (length s.answers ≤ l.revision) → l.revision ≤ length s.answers → l.revision ≡ length s.answers
          by_less (inl low) p = absurd (not-less low)
          by_less (inr high) p = omega (arith, high, p)

  now-back : is_late s l ≡ false → IsBack n back
  now-back late =
      let mine : one_if (l.revision == length s.answers) ≡ 1 = ap one_if (eq-eqb l.revision (length s.answers) (current late)) in
      let one : outs (length s.answers) (slice_set s.places i q) + 1 ≡ outs (length s.answers) s.places = omega (arith, outs-set (length s.answers), mine) in
      record { shared = omega (arith, one, h.shared); few = h.few; used = omega (arith, one, h.used); live = by_order one (cases_lt (length s.answers) (length s.revisions)); ahead = back-ahead }
    where
      by_order : outs (length s.answers) (slice_set s.places i q) + 1 ≡ outs (length s.answers) s.places → (length s.answers < length s.revisions) ⊎ (length s.revisions ≤ length s.answers) → length s.answers < length s.revisions
      by_order one (inl low) = low
      by_order one (inr high) = absurd (omega (arith, one, h.ahead (length s.answers) (inr high)))

late-now : (s : SoloMachine) (l : Lease) → is_late s l ≡ true → l.revision < length s.answers
late-now s l e = ltb-true l.revision (length s.answers) e

lease-used : (n i : ℕ) (s : SoloMachine) (l : Lease) (o : Outcome) → o ≢ Lost → (place_at s i).out ≡ Some l → IsUsed n s → IsUsed n (finished_lease s i (place_at s i) l o)
lease-used n i s l Ran kept out h = by-ran (IsUsed n) s i (place_at s i) l
    (λ e. late-used n i s l (with_entries (place_at s i) l) (ran_home s i (place_at s i) l).log (ran_home s i (place_at s i) l).slices (s.ran + 1) out refl h (late-now s l e))
    (λ e. conclude-used n (slice_of s i (place_at s i) l).node.verdict (slice_of s i (place_at s i) l).node (ran_home s i (place_at s i) l) (now-back n i s l (with_entries (place_at s i) l) (ran_home s i (place_at s i) l).log (ran_home s i (place_at s i) l).slices (s.ran + 1) out refl h e))
lease-used n i s l Starved kept out h = by-starved (IsUsed n) s i (place_at s i) l
    (λ e. late-used n i s l (record (place_at s i) { out = None }) s.log s.slices s.ran out refl h (late-now s l e))
    (λ e. starve-used n (finished_home s i (place_at s i)) (now-back n i s l (record (place_at s i) { out = None }) s.log s.slices s.ran out refl h e))
lease-used n i s l Lost kept out h = absurd (kept refl)

-- a start
none-of : (o : Option Lease) → is_none o ≡ true → o ≡ None
none-of None e = refl
none-of (Some l) e = absurd (cc)

pub started-used : (n i : ℕ) (s : SoloMachine) → i < length s.places → startable s i ≡ true → IsUsed n s → IsUsed (n + 1) (solo_step s (Started i))
started-used n i s low may h =
    let p : NodeSlot = place_at s i in
    let c : ℕ = length s.answers in
    let parts = and_parts (is_none p.out) (nat_lt (s.spent + out_count s) s.ask.slices) (and_parts (is_live s && nat_lt i s.volume) (is_none p.out && nat_lt (s.spent + out_count s) s.ask.slices) may).1 in
    let free : p.out ≡ None = none-of p.out parts.0 in
    let room : s.spent + outs c s.places < s.ask.slices = ltb-true (s.spent + out_count s) s.ask.slices parts.1 in
    let one : outs c (slice_set s.places i q) ≡ outs c s.places + 1 = more c free (ap one_if (eq-eqb c c refl)) in
    let live : length s.answers < length s.revisions = live-parts s i may in
    record {
      shared = omega (arith, one, room);
      few = h.few;
      used = omega (arith, one, h.used);
      idle = λ e. absurd (omega (arith, e, live));
      order = h.order;
      ahead = λ r side. more r free (ap one_if (ne_eqb c r (apart r live side))) ∙ (plus (outs r s.places) ∙ h.ahead r side);
    }
  where
    plus : (m : ℕ) → m + 0 ≡ m
    plus m = omega arith

    q : NodeSlot
    q = record (place_at s i) { out = Some (lease_of s i); starts = (place_at s i).starts + 1 }

    more : {m : ℕ} (r : ℕ) → (place_at s i).out ≡ None → one_if (length s.answers == r) ≡ m → outs r (slice_set s.places i q) ≡ outs r s.places + m
    more {m} r free e =
        let set : outs r (slice_set s.places i q) + one_if (is_for r (place_at s i).out) ≡ outs r s.places + one_if (is_for r q.out) = sum-set (λ p. one_if (is_for r p.out)) s.places i q low in
        let before : one_if (is_for r (place_at s i).out) ≡ 0 = ap (λ (o : Option Lease). one_if (is_for r o)) free in
        let after : one_if (is_for r q.out) ≡ m = e in
        omega (arith, set, before, after)

    apart : (r : ℕ) → length s.answers < length s.revisions → (length s.answers < r) ⊎ (length s.revisions ≤ r) → length s.answers ≢ r
    apart r live (inl low) e = omega (arith, low, e)
    apart r live (inr high) e = omega (arith, live, high, e)

-- a revision
posted-used : (n : ℕ) (s : SoloMachine) (r : Posted) → IsUsed n s → IsUsed n (record s { revisions = s.revisions ++ r ∷ [] })
posted-used n s r h =
    let long : length (s.revisions ++ r ∷ []) ≡ length s.revisions + 1 = length-append s.revisions (r ∷ []) in
    record { shared = h.shared; few = h.few; used = h.used; idle = λ e. absurd (omega (arith, e, long, h.order)); order = omega (arith, long, h.order); ahead = λ c side. by_side c long side }
  where
    by_side : (c : ℕ) → length (s.revisions ++ r ∷ []) ≡ length s.revisions + 1 → (length s.answers < c) ⊎ (length (s.revisions ++ r ∷ []) ≤ c) → outs c s.places ≡ 0
    by_side c long (inl low) = h.ahead c (inl low)
    by_side c long (inr high) = h.ahead c (inr (omega (arith, long, high)))

exchanged-used : (n : ℕ) (s : SoloMachine) → IsUsed n s → IsUsed n (exchanged s)
exchanged-used n s h = record {
  shared = omega (arith, same (length s.answers), h.shared);
  few = h.few;
  used = omega (arith, same (length s.answers), h.used);
  idle = h.idle;
  order = h.order;
  ahead = λ r side. same r ∙ h.ahead r side;
}
  where
    same : (r : ℕ) → outs r (marked_from s.volume (length s.log) 0 s.places) ≡ outs r s.places
    same r = sum-marked (λ p. one_if (is_for r p.out)) (λ m p. refl) s.volume (length s.log) 0 s.places

-- every other event after the opening, but a loss
abbrev pub IsOther : Own → Type 0
IsOther (Opened ask) = ⊥
IsOther (Revised r) = Unit {0}
IsOther (Reasked w) = Unit {0}
IsOther Closed = Unit {0}
IsOther (Volume v) = Unit {0}
IsOther (Started i) = ⊥
IsOther (Finished i outcome) = outcome ≢ Lost
IsOther Exchanged = Unit {0}

pub other-used : (n : ℕ) (s : SoloMachine) (o : Own) → IsOther o → IsUsed n s → IsUsed n (solo_step s o)
other-used n s (Opened ask) is h = absurd is
other-used n s (Revised r) is h = settled-used n (first_empty s.log) (record s { revisions = s.revisions ++ r ∷ [] }) (posted-used n s r h)
other-used n s (Reasked w) is h = record { shared = h.shared; few = h.few; used = h.used; idle = h.idle; order = h.order; ahead = h.ahead }
other-used n s Closed is h = record { shared = h.shared; few = h.few; used = h.used; idle = h.idle; order = h.order; ahead = h.ahead }
other-used n s (Volume v) is h = record { shared = h.shared; few = h.few; used = h.used; idle = h.idle; order = h.order; ahead = h.ahead }
other-used n s (Started i) is h = absurd is
other-used n s (Finished i o) is h = by-lease (IsUsed n) s i (place_at s i) (place_at s i).out o h (λ l out. settled-used n (first_empty (finished_lease s i (place_at s i) l o).log) (finished_lease s i (place_at s i) l o) (lease-used n i s l o is out h))
other-used n s Exchanged is h = exchanged-used n s h

pub opened-used : (ask : Terms) → IsUsed 0 (solo (Opened ask ∷ []))
opened-used ask = record { shared = omega arith; few = omega arith; used = omega arith; idle = λ e. (refl, refl); order = omega arith; ahead = λ r side. refl }

pub empty-used : IsUsed 0 (solo [])
empty-used = record { shared = omega arith; few = omega arith; used = omega arith; idle = λ e. (refl, refl); order = omega arith; ahead = λ r side. refl }

-- a job with all its answers has used no more than its budgets
pub done-used : (n : ℕ) (s : SoloMachine) → IsUsed n s → length s.answers ≡ length s.revisions → n ≤ length s.answers * (s.ask.slices + 2)
done-used n s h same =
    let zero = h.idle same in
    let none : outs (length s.answers) s.places ≡ 0 = h.ahead (length s.answers) (inr (omega (arith, same))) in
    omega (arith, h.used, zero.0, zero.1, none)
