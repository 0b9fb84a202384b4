-- What a guided step does to its node keeps it sound.
use Rattle.std.proofs.Common.{◌≡◌, ℕ, ◌+◌, ◌<◌, ◌≤◌, min, true, false, List, [], ◌∷◌, ◌++◌, length, Option, None, sym, ap, ◌∙◌, subst, arith}
use Rattle.std.specs.Prelude.{◌==◌, ◌||◌}
use Rattle.std.specs.List.{list_any, list_all}
use Rattle.std.proofs.lemmas.List.{length_push, take_all}
use Rattle.std.proofs.lemmas.List.Sorted.{IsPermutation-refl}
use Rattle.mal_base.specs.Literals.{var_of}
use Rattle.mal_base.specs.declared.trail_entry.TrailEntry.{TrailEntry}
use Rattle.mal_base.specs.declared.verdict.Verdict.{Verdict}
use Rattle.spec_node.specs.State.{Node}
use Rattle.spec_node.specs.Value.{is_true, has_value, level_of}
use Rattle.spec_node.specs.Cut.{kept, removed, cut}
use Rattle.spec_node.specs.Load.{counted}
use Rattle.spec_node.specs.Sound.{EachAfter, IsForced, IsChosen, IsPassed, IsLiteralOf, IsRanged, IsConsistent, IsSound}
use Rattle.spec_node.proofs.TrailLemmas.{each-front}
use Rattle.spec_node.proofs.CutLemmas.{kept-front}
use Rattle.spec_node.proofs.SoundLemmas.{kept-short, length-saved}
use Rattle.spec_search.specs.Step.{decided}
use Rattle.spec_search.proofs.StepLemmas.{IsIdle}
use Rattle.spec_search.proofs.ConsistentLemmas.{decided-consistent, cut-consistent}
use Rattle.spec_search.proofs.SoundLemmas.{decided-sound as decided-sound-by}
use Rattle.spec_guided.specs.State.{unordered}

-- a node without an order of its own is as sound as it was, whatever its verdict
pub unordered-sound : (n : Node) → IsSound n → IsSound (unordered n)
unordered-sound n h =
    let r : IsRanged n = h.ranged in
    let c : IsConsistent n = h.consistent in
    record {
      ranged = record { index = r.index; variables = r.variables; restart_number = omega arith; phases = r.phases; numbers = r.numbers; serial = r.serial };
      consistent = record { order = IsPermutation-refl (counted 1 n.variables); clauses = c.clauses; assumptions = c.assumptions; placed = c.placed; levels = c.levels; closed = c.closed; handled = c.handled; settled = c.settled };
      reasons = h.reasons;
      chosen = h.chosen;
      passed = h.passed;
      reached = h.reached;
      waiting = h.waiting;
    }

-- a verdict is no part of what makes a node sound
pub verdict-sound : (n : Node) (verdict : Option Verdict) → IsSound n → IsSound (record n { verdict = verdict })
verdict-sound n verdict h =
    let r : IsRanged n = h.ranged in
    let c : IsConsistent n = h.consistent in
    record {
      ranged = record { index = r.index; variables = r.variables; restart_number = r.restart_number; phases = r.phases; numbers = r.numbers; serial = r.serial };
      consistent = record { order = c.order; clauses = c.clauses; assumptions = c.assumptions; placed = c.placed; levels = c.levels; closed = c.closed; handled = c.handled; settled = c.settled };
      reasons = h.reasons;
      chosen = h.chosen;
      passed = h.passed;
      reached = h.reached;
      waiting = h.waiting;
    }

-- a literal that may be decided at a new level
pub record MayDecide (n : Node) (l : ℕ) : Type 0 where
  pub range : IsLiteralOf n.variables l
  pub free : has_value n.trail (var_of l) ≡ false
  pub chosen : (list_any (λ a. a == l) n.assumptions || list_all (is_true n.trail) n.assumptions) ≡ true

pub decided-sound : (n : Node) (l : ℕ) → IsSound n → IsIdle n → MayDecide n l → IsSound (decided n l)
decided-sound n l h idle may = decided-sound-by n h idle l (decided-consistent n h.consistent idle l (record { range = may.range; free = may.free })) may.chosen

-- a cut to any level keeps an idle node sound
pub cut-sound : (level : ℕ) (n : Node) → IsSound n → IsIdle n → IsSound (cut level n)
cut-sound level n h idle =
    let r : IsRanged n = h.ranged in
    let t : List TrailEntry = kept level n.trail in
    let front : t ++ removed level n.trail ≡ n.trail = kept-front level n.trail in
    let whole : (P : List TrailEntry → TrailEntry → Type 0) → EachAfter P [] n.trail → EachAfter P [] t = (λ P k. each-front P t (removed level n.trail) [] (rw front k)) in
    let short : length t ≤ length n.trail = kept-short level n.trail in
    let past : length n.trail < n.processed = idle.handled in
    let all : min n.processed (length t + 1) ≡ length t + 1 = omega arith in
    let phases : length n.phases ≡ n.variables = r.phases in
    record {
      ranged = record { index = r.index; variables = r.variables; restart_number = r.restart_number; phases = length-saved n.phases (removed level n.trail) ∙ phases; numbers = r.numbers; serial = r.serial };
      consistent = cut-consistent level n idle.calm h.consistent;
      reasons = whole (IsForced n.clauses) h.reasons;
      chosen = whole (IsChosen n.assumptions) h.chosen;
      passed = subst (λ (m : ℕ). EachAfter (IsPassed m) [] t) (sym all) (passed-below (length t + 1) t [] (omega arith));
      reached = ap level_of (take_all (min n.processed (length t + 1)) t (omega arith));
      waiting = λ id q. let none : n.conflict ≡ None = idle.calm in absurd (cc);
    }
  where
    passed-below : (m : ℕ) (es before : List TrailEntry) → length before + length es < m + 1 → EachAfter (IsPassed m) before es
    passed-below m [] before l = tt
    passed-below m (e ∷ es) before l = ((λ q. omega arith), passed-below m es (before ++ e ∷ []) (let one : length (before ++ e ∷ []) ≡ length before + 1 = length_push before e in omega arith))
