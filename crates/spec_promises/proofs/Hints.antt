-- The hints of the lines of a job's log count from 1, as the numbers of clauses do.
use Rattle.std.proofs.Common.{◌≡◌, ℕ, ◌+◌, ◌*◌, ◌^◌, ◌<◌, ◌≤◌, List, [], ◌∷◌, ◌++◌, length, Some, inl, inr, ◌⊎◌, sym, subst, arith}
use Rattle.std.specs.Prelude.{All, Contains}
use Rattle.std.proofs.lemmas.List.Elements.{All-nil, All-cons, All-contains}
use Rattle.mal_base.specs.NumberedClause.{Line, NumberedClause}
use Rattle.spec_node.specs.Sound.{IsSound, NumbersRise}
use Rattle.spec_node.specs.State.{Node}
use Rattle.spec_node.proofs.ImportLemmas.{All-with_clause}
use Rattle.spec_search.specs.Derived.{AreDerivedFrom, IsHeld, with_line}
use Rattle.spec_search.specs.Laws.{AreNumbered}
use Rattle.spec_search.specs.Slice.{Sliced, slice}
use Rattle.spec_search.proofs.LineLemmas.{lines-counted, lines-derived}
use Rattle.spec_proof.specs.Among.{Among}
use Rattle.spec_proof.proofs.Among.{among-append}
use Rattle.spec_job.specs.Runnable.{IsRunnable}
use Rattle.spec_job.specs.SoloMachine.{Own, Opened, Revised, Reasked, Closed, Volume, Started, Finished, Exchanged, Lease, SoloMachine, first_empty, place_at, solo, solo_step}
use Rattle.spec_job.proofs.DerivingLemmas.{IsRunning}
use Rattle.spec_job.proofs.FinishLemmas.{finished-leaves, settled-leaves, slice_of}
use Rattle.spec_job.proofs.KeptLemmas.{MachineInvariant, step-kept, unopened-kept}
use Rattle.spec_job.proofs.PlacesLemmas.{out-within}
use Rattle.spec_job.proofs.PushLemmas.{events-keep}

-- a clause whose number counts from 1
abbrev IsSome : NumberedClause → Type 0
IsSome c = 1 ≤ c.id

-- lines whose hints do
abbrev pub HaveHints : List Line → Type 0
HaveHints log = (line : Line) (hint : ℕ) → Among line log → Contains line.hints hint → 1 ≤ hint

rise-some : (low : ℕ) (cs : List NumberedClause) → 1 ≤ low → NumbersRise low cs → All IsSome cs
rise-some low [] some h = All-nil IsSome
rise-some low (c ∷ cs) some h = let first : low ≤ c.id = h.0 in All-cons IsSome c cs (omega arith) (rise-some (c.id + 1) cs (omega arith) h.1)

-- lines that are derived from such clauses
derived-hints : (clauses : List NumberedClause) (serial index : ℕ) (ls : List Line) → All IsSome clauses → AreDerivedFrom clauses ls → AreNumbered serial index ls → HaveHints ls
derived-hints clauses serial index [] some from numbers line hint m k = absurd m
derived-hints clauses serial index (l ∷ ls) some from numbers line hint (inl same) k =
    let held : IsHeld clauses hint = All-contains (IsHeld clauses) l.hints hint from.0.hints (subst (λ (x : Line). Contains x.hints hint) (sym same) k) in
    subst (λ (n : ℕ). 1 ≤ n) held.2 (All-contains IsSome clauses held.0 some held.1)
derived-hints clauses serial index (l ∷ ls) some from numbers line hint (inr m) k =
    let number : l.id ≡ 2 ^ 32 + serial * 64 + index = numbers.0 in
    derived-hints (with_line clauses l) (serial + 1) index ls (All-with_clause IsSome (record { id = l.id; lits = l.lits }) clauses (omega arith) some) from.1 numbers.1 line hint m k

slice-hints : (n : Node) → IsSound n → HaveHints (slice n).lines
slice-hints n h = derived-hints n.clauses n.serial n.index (slice n).lines (rise-some 1 n.clauses (omega arith) h.ranged.numbers) (lines-derived n h) (lines-counted n).numbered

append-hints : (xs ys : List Line) → HaveHints xs → HaveHints ys → HaveHints (xs ++ ys)
append-hints xs ys h k line hint m c = by_side (among-append xs ys line m)
  where
    by_side : Among line xs ⊎ Among line ys → 1 ≤ hint
    by_side (inl a) = h line hint a c
    by_side (inr a) = k line hint a c

-- ---- the log of a machine

abbrev LogHasHints : SoloMachine → Type 0
LogHasHints s = HaveHints s.log

ran-hints : (s : SoloMachine) (i : ℕ) (l : Lease) → (place_at s i).out ≡ Some l → MachineInvariant s → HaveHints s.log → HaveHints (s.log ++ (slice_of s i (place_at s i) l).lines)
ran-hints s i l out kept h =
    let inside : i < length s.places = out-within s.places i l out in
    let few : length s.places ≤ 64 = kept.solving.count in
    let run : IsRunning s.ask.profile s.revisions s.log i (place_at s i).entries l = (kept.derives.tracked i (omega arith)).running l out in
    append-hints s.log (slice_of s i (place_at s i) l).lines h (subst (λ (x : Sliced). HaveHints x.lines) (sym run.runs) (slice-hints run.node run.ready.sound))

step-hints : (s : SoloMachine) (o : Own) → MachineInvariant s → HaveHints s.log → HaveHints (solo_step s o).log
step-hints s (Opened ask) kept h = h
step-hints s (Revised r) kept h = settled-leaves LogHasHints (λ m answers k. k) (λ m spent starved k. k) (first_empty s.log) (record s { revisions = s.revisions ++ r ∷ [] }) h
step-hints s (Reasked w) kept h = h
step-hints s Closed kept h = h
step-hints s (Volume v) kept h = h
step-hints s (Started i) kept h = h
step-hints s (Finished i o) kept h = finished-leaves LogHasHints (λ m answers k. k) (λ m spent starved k. k) s i (place_at s i) (place_at s i).out o h (λ l e. ran-hints s i l e kept h) h
step-hints s Exchanged kept h = h

-- a machine, and its log
record KeepsHints (s : SoloMachine) : Type 0 where
  kept : MachineInvariant s
  hints : HaveHints s.log

pub log-hints : (events : List Own) → IsRunnable [] events → HaveHints (solo events).log
log-hints events may = all.hints
  where
    step : (past : List Own) (o : Own) (os : List Own) → IsRunnable past (o ∷ os) → KeepsHints (solo past) → KeepsHints (solo_step (solo past) o) × IsRunnable (past ++ o ∷ []) os
    step past o os q k = (record { kept = step-kept (solo past) o q.0 k.kept; hints = step-hints (solo past) o k.kept k.hints }, q.1)

    all : KeepsHints (solo events)
    all = events-keep KeepsHints IsRunnable step [] events may (record { kept = unopened-kept; hints = λ line hint m c. absurd m })
