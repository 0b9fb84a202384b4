-- The slices of a machine: the log has their lines, no more of them answered than there are answers, and they stay.
use Rattle.std.proofs.Common.{◌≡◌, ℕ, ◌+◌, ◌≤◌, Bool, true, false, cond, not, ◌&&◌, List, [], ◌∷◌, ◌++◌, length, Option, Some, None, refl, sym, ◌∙◌, ap, subst, append_assoc, append-nil, length-append, arith}
use Rattle.std.specs.Prelude.{filter, flat_map, is_some}
use Rattle.std.proofs.lemmas.List.Concat.{flat_map-append}
use Rattle.std.proofs.lemmas.List.Elements.{filter-append}
use Rattle.mal_base.specs.NumberedClause.{Line}
use Rattle.mal_base.specs.declared.answer.Answer.{Answer}
use Rattle.mal_base.specs.declared.answer.Answer.TheVariants.{Satisfied, Refuted}
use Rattle.mal_base.specs.declared.verdict.Verdict.{Verdict}
use Rattle.mal_base.specs.declared.verdict.Verdict.TheVariants.{Satisfiable, Unsatisfiable}
use Rattle.mal_base.specs.declared.verdict.Outcome.{Outcome}
use Rattle.spec_node.specs.Model.{model_of}
use Rattle.spec_search.specs.Slice.{Sliced}
use Rattle.spec_job.specs.SoloMachine.{Own, Opened, Revised, Reasked, Closed, Volume, Started, Finished, Exchanged, Lease, NodeSlot, Slice, SoloMachine, unopened, solo, solo_step, place_at, conclude, first_empty, settled_by, is_late, remembered, finished_ran, finished_home, finished_lease}
use Rattle.spec_job.specs.Slices.{ends_in, LogsAreSlices, EndsAreFew, KeepsSlices, SlicesStay}
use Rattle.spec_job.proofs.FinishLemmas.{slice_of, ran_home, by-ran, by-starved, by-outcome, by-lease, starve-leaves, conclude-leaves, settled-leaves, finished-leaves}
use Rattle.spec_job.proofs.PushLemmas.{solo-push, events-keep}

-- what holds of a machine and is kept by each event holds of each machine that was run
module _ (P : SoloMachine → Type 0) (step : (s : SoloMachine) (o : Own) → P s → P (solo_step s o)) where
  pub each-keeps : P unopened → (events : List Own) → P (solo events)
  each-keeps first events = events-keep P (λ past os. Unit {0}) (λ past o os q h. (step (solo past) o h, tt)) [] events tt first

-- the log has the lines of the slices
abbrev pub IsSliced : SoloMachine → Type 0
IsSliced s = s.log ≡ flat_map (λ c. c.lines) s.slices

lines-more : (ls : List Line) (cs : List Slice) (c : Slice) → ls ≡ flat_map (λ c. c.lines) cs → ls ++ c.lines ≡ flat_map (λ c. c.lines) (cs ++ c ∷ [])
lines-more ls cs c h = ap (λ (xs : List Line). xs ++ c.lines) h ∙ sym (flat_map-append (λ (c : Slice). c.lines) cs (c ∷ []) ∙ ap (λ (xs : List Line). flat_map (λ c. c.lines) cs ++ xs) (append-nil c.lines))

settled-sliced : (o : Option ℕ) (s : SoloMachine) → IsSliced s → IsSliced (settled_by o s)
settled-sliced o s h = settled-leaves IsSliced (λ m answers k. k) (λ m spent starved k. k) o s h

pub step-sliced : (s : SoloMachine) (o : Own) → IsSliced s → IsSliced (solo_step s o)
step-sliced s (Opened ask) h = h
step-sliced s (Revised r) h = settled-sliced (first_empty s.log) (record s { revisions = s.revisions ++ r ∷ [] }) h
step-sliced s (Reasked w) h = h
step-sliced s Closed h = h
step-sliced s (Volume v) h = h
step-sliced s (Started i) h = h
step-sliced s (Finished i o) h =
    finished-leaves IsSliced (λ m answers k. k) (λ m spent starved k. k) s i (place_at s i) (place_at s i).out o h
    (λ l e. lines-more s.log s.slices (remembered s l (slice_of s i (place_at s i) l)) h)
    h
step-sliced s Exchanged h = h

pub logs-are-slices : LogsAreSlices
logs-are-slices events = each-keeps IsSliced step-sliced refl events

-- no more slices answered than there are answers
abbrev pub AreFew : SoloMachine → Type 0
AreFew s = ends_in s.slices ≤ length s.answers

more-few : (s : SoloMachine) (answers : List Answer) → AreFew s → AreFew (record s { answers = s.answers ++ answers; spent = 0; starved = 0 })
more-few s answers h = let long : length (s.answers ++ answers) ≡ length s.answers + length answers = length-append s.answers answers in omega (arith, long, h)

-- with one slice more
ends-more : (cs : List Slice) (c : Slice) → ends_in (cs ++ c ∷ []) ≡ ends_in cs + cond c.ends 1 0
ends-more cs c = ap (λ (xs : List Slice). length xs) (filter-append (λ (c : Slice). c.ends) cs (c ∷ [])) ∙ (length-append (filter (λ (c : Slice). c.ends) cs) (filter (λ (c : Slice). c.ends) (c ∷ [])) ∙ ap (λ (n : ℕ). ends_in cs + n) (by_test c.ends))
  where
    by_test : (b : Bool) → length (cond b (c ∷ []) []) ≡ cond b 1 0
    by_test true = refl
    by_test false = refl

-- where it answered nothing there are no more
same-few : (s home : SoloMachine) (c : Slice) → c.ends ≡ false → home.slices ≡ s.slices ++ c ∷ [] → home.answers ≡ s.answers → AreFew s → AreFew home
same-few s home c none is same h =
    let count : ends_in home.slices ≡ ends_in s.slices + 0 = ap ends_in is ∙ (ends-more s.slices c ∙ ap (λ (b : Bool). ends_in s.slices + cond b 1 0) none) in
    let answers : length home.answers ≡ length s.answers = ap (λ (xs : List Answer). length xs) same in
    omega (arith, count, answers, h)

-- where its verdict answers, as many as with that answer
answered-few : (s home : SoloMachine) (c : Slice) (a : Answer) → home.slices ≡ s.slices ++ c ∷ [] → home.answers ≡ s.answers → AreFew s → AreFew (record home { answers = home.answers ++ a ∷ []; spent = 0; starved = 0 })
answered-few s home c a is same h =
    let count : ends_in home.slices ≡ ends_in s.slices + cond c.ends 1 0 = ap ends_in is ∙ ends-more s.slices c in
    let answers : length (home.answers ++ a ∷ []) ≡ length s.answers + 1 = length-append home.answers (a ∷ []) ∙ ap (λ (xs : List Answer). length xs + 1) same in
    let one : cond c.ends 1 0 ≤ 1 = by_test c.ends in
    omega (arith, count, answers, one, h)
  where
    by_test : (b : Bool) → cond b 1 0 ≤ 1
    by_test true = omega arith
    by_test false = omega arith

ran-few : (s : SoloMachine) (i : ℕ) (p : NodeSlot) (l : Lease) → AreFew s → AreFew (finished_ran s i p l)
ran-few s i p l h = by-ran AreFew s i p l (λ late. same-few s home c (ap (λ (b : Bool). not b && is_some x.node.verdict) late) refl refl h) (λ now. by_verdict x.node.verdict refl)
  where
    x : Sliced
    x = slice_of s i p l

    c : Slice
    c = remembered s l x

    home : SoloMachine
    home = ran_home s i p l

    by_verdict : (v : Option Verdict) → x.node.verdict ≡ v → AreFew (conclude v x.node home)
    by_verdict None e = conclude-leaves AreFew more-few (λ m spent starved k. k) None x.node home (same-few s home c (none (is_late s l) x.node.verdict e) refl refl h)
      where
        none : (late : Bool) (v : Option Verdict) → v ≡ None → (not late && is_some v) ≡ false
        none true v n = refl
        none false v n = ap (λ (o : Option Verdict). is_some o) n
    by_verdict (Some Satisfiable) e = answered-few s home c (Satisfied (model_of x.node)) refl refl h
    by_verdict (Some (Unsatisfiable goal)) e = answered-few s home c (Refuted goal) refl refl h

settled-few : (o : Option ℕ) (s : SoloMachine) → AreFew s → AreFew (settled_by o s)
settled-few o s h = settled-leaves AreFew more-few (λ m spent starved k. k) o s h

lease-few : (s : SoloMachine) (i : ℕ) (p : NodeSlot) (l : Lease) (o : Outcome) → AreFew s → AreFew (finished_lease s i p l o)
lease-few s i p l o h = by-outcome AreFew s i p l o (ran-few s i p l h) (by-starved AreFew s i p l (λ late. h) (λ now. starve-leaves AreFew more-few (λ m spent starved k. k) (finished_home s i p) h)) h

pub step-few : (s : SoloMachine) (o : Own) → AreFew s → AreFew (solo_step s o)
step-few s (Opened ask) h = h
step-few s (Revised r) h = settled-few (first_empty s.log) (record s { revisions = s.revisions ++ r ∷ [] }) h
step-few s (Reasked w) h = h
step-few s Closed h = h
step-few s (Volume v) h = h
step-few s (Started i) h = h
step-few s (Finished i o) h = by-lease AreFew s i (place_at s i) (place_at s i).out o h (λ l e. settled-few (first_empty (finished_lease s i (place_at s i) l o).log) (finished_lease s i (place_at s i) l o) (lease-few s i (place_at s i) l o h))
step-few s Exchanged h = h

pub ends-are-few : EndsAreFew
ends-are-few events = each-keeps AreFew step-few (omega arith) events

-- the slices stay
pub slices-on : (s t u : SoloMachine) → KeepsSlices s t → KeepsSlices t u → KeepsSlices s u
slices-on s t u h k = record { more = h.more ++ k.more; kept = k.kept ∙ (ap (λ (xs : List Slice). xs ++ k.more) h.kept ∙ append_assoc s.slices h.more k.more) }

pub same-slices : (s t : SoloMachine) → t.slices ≡ s.slices → KeepsSlices s t
same-slices s t e = record { more = []; kept = e ∙ sym (append-nil s.slices) }

told-slices : (s h : SoloMachine) (answers : List Answer) → KeepsSlices s h → KeepsSlices s (record h { answers = h.answers ++ answers; spent = 0; starved = 0 })
told-slices s h answers k = record { more = k.more; kept = k.kept }

counted-slices : (s h : SoloMachine) (spent starved : ℕ) → KeepsSlices s h → KeepsSlices s (record h { spent = spent; starved = starved })
counted-slices s h spent starved k = record { more = k.more; kept = k.kept }

pub step-slices : (s : SoloMachine) (o : Own) → KeepsSlices s (solo_step s o)
step-slices s (Opened ask) = same-slices s (solo_step s (Opened ask)) refl
step-slices s (Revised r) = let longer : SoloMachine = record s { revisions = s.revisions ++ r ∷ [] } in settled-leaves (KeepsSlices s) (told-slices s) (counted-slices s) (first_empty s.log) longer (same-slices s longer refl)
step-slices s (Reasked w) = same-slices s (solo_step s (Reasked w)) refl
step-slices s Closed = same-slices s (solo_step s Closed) refl
step-slices s (Volume v) = same-slices s (solo_step s (Volume v)) refl
step-slices s (Started i) = same-slices s (solo_step s (Started i)) refl
step-slices s (Finished i o) =
    finished-leaves (KeepsSlices s) (told-slices s) (counted-slices s) s i (place_at s i) (place_at s i).out o (same-slices s s refl)
    (λ l e. record { more = remembered s l (slice_of s i (place_at s i) l) ∷ []; kept = refl })
    (same-slices s (finished_home s i (place_at s i)) refl)
step-slices s Exchanged = same-slices s (solo_step s Exchanged) refl

pub push-slices : (past : List Own) (o : Own) → KeepsSlices (solo past) (solo (past ++ o ∷ []))
push-slices past o = subst (λ (s : SoloMachine). KeepsSlices (solo past) s) (sym (solo-push past o)) (step-slices (solo past) o)

pub slices-stay : SlicesStay
slices-stay past [] = subst (λ (es : List Own). KeepsSlices (solo past) (solo es)) (sym (append-nil past)) (same-slices (solo past) (solo past) refl)
slices-stay past (o ∷ os) =
    let rest : KeepsSlices (solo (past ++ o ∷ [])) (solo ((past ++ o ∷ []) ++ os)) = slices-stay (past ++ o ∷ []) os in
    let here : KeepsSlices (solo past) (solo (past ++ o ∷ [])) = push-slices past o in
    subst (λ (es : List Own). KeepsSlices (solo past) (solo es)) (append_assoc past (o ∷ []) os) (slices-on (solo past) (solo (past ++ o ∷ [])) (solo ((past ++ o ∷ []) ++ os)) here rest)
