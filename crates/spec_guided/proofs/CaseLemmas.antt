-- What holds case by case holds of the case of a guided node.
use Rattle.std.proofs.Common.{◌≡◌, ℕ, ◌<◌, ◌≤◌, Bool, true, false, cond, length, Some, None, Option, refl, arith}
use Rattle.std.specs.Prelude.{nat_le, ◌==◌}
use Rattle.std.proofs.lemmas.Bool.{leb-true, leb-false, eqb-true, eqb-false}
use Rattle.mal_base.specs.declared.trail_entry.TrailEntry.{TrailEntry}
use Rattle.spec_node.specs.Value.{is_false, level_of, next_assumption}
use Rattle.spec_search.specs.Step.{is_false_some}
use Rattle.spec_search.proofs.StepLemmas.{IsIdle}
use Rattle.spec_activity.specs.Pace.{is_restart_due}
use Rattle.spec_guided.specs.State.{Guided}
use Rattle.spec_guided.specs.Unit.{next_unit}
use Rattle.spec_guided.specs.Reducing.{is_reduction_due}
use Rattle.spec_guided.specs.Deciding.{first_free}
use Rattle.spec_guided.specs.Step.{Case, Learns, Refutes, Propagates, Unites, Reduces, Restarts, Contradicts, Assumes, Decides, Ends, deciding, assuming, branching, restarting, maintaining, uniting, case_by, case_of}

pub record HasCases (P : Case → Type 0) (s : Guided) : Type 0 where
  pub learns : (id : ℕ) → s.node.conflict ≡ Some id → 0 < level_of s.node.trail → P (Learns id)
  pub refutes : (id : ℕ) → s.node.conflict ≡ Some id → level_of s.node.trail ≡ 0 → P (Refutes id)
  pub propagates : s.node.conflict ≡ None → s.node.processed ≤ length s.node.trail → P Propagates
  pub unites : IsIdle s.node → (e : TrailEntry) → next_unit s.node ≡ Some e → P (Unites e)
  pub reduces : IsIdle s.node → P Reduces
  pub restarts : IsIdle s.node → (v : ℕ) → P (Restarts v)
  pub contradicts : IsIdle s.node → (a : ℕ) → next_assumption s.node.trail s.node.assumptions ≡ Some a → is_false s.node.trail a ≡ true → P (Contradicts a)
  pub assumes : IsIdle s.node → (a : ℕ) → next_assumption s.node.trail s.node.assumptions ≡ Some a → is_false s.node.trail a ≡ false → P (Assumes a)
  pub decides : IsIdle s.node → (v : ℕ) → next_assumption s.node.trail s.node.assumptions ≡ None → first_free s ≡ Some v → P (Decides v)
  pub ends : IsIdle s.node → next_assumption s.node.trail s.node.assumptions ≡ None → first_free s ≡ None → P Ends

pub by_cases : (P : Case → Type 0) (s : Guided) → HasCases P s → P (case_of s)
by_cases P s h = by_conflict s.node.conflict refl
  where
    by_free : IsIdle s.node → next_assumption s.node.trail s.node.assumptions ≡ None → (o : Option ℕ) → first_free s ≡ o → P (deciding o)
    by_free idle e None f = h.ends idle e f
    by_free idle e (Some v) f = h.decides idle v e f

    by_false : IsIdle s.node → (a : ℕ) → next_assumption s.node.trail s.node.assumptions ≡ Some a → (b : Bool) → is_false s.node.trail a ≡ b → P (assuming (Some a) b (deciding (first_free s)))
    by_false idle a e true f = h.contradicts idle a e f
    by_false idle a e false f = h.assumes idle a e f

    by_open : IsIdle s.node → (o : Option ℕ) → next_assumption s.node.trail s.node.assumptions ≡ o → P (assuming o (is_false_some s.node.trail o) (deciding (first_free s)))
    by_open idle None e = by_free idle e (first_free s) refl
    by_open idle (Some a) e = by_false idle a e (is_false s.node.trail a) refl

    by_restart : IsIdle s.node → (b : Bool) (o : Option ℕ) → P (branching s) → P (restarting b o (branching s))
    by_restart idle true (Some v) p = h.restarts idle v
    by_restart idle true None p = p
    by_restart idle false o p = p

    by_due : IsIdle s.node → (b : Bool) → P (cond {A = Case} b Reduces (restarting (is_restart_due s.guide.pace) (first_free s) (branching s)))
    by_due idle true = h.reduces idle
    by_due idle false = by_restart idle (is_restart_due s.guide.pace) (first_free s) (by_open idle (next_assumption s.node.trail s.node.assumptions) refl)

    by_unit : IsIdle s.node → (o : Option TrailEntry) → next_unit s.node ≡ o → P (uniting o (maintaining s))
    by_unit idle (Some e) q = h.unites idle e q
    by_unit idle None q = by_due idle (is_reduction_due s)

    by_batch : s.node.conflict ≡ None → (b : Bool) → nat_le s.node.processed (length s.node.trail) ≡ b → P (cond {A = Case} b Propagates (uniting (next_unit s.node) (maintaining s)))
    by_batch calm true e = h.propagates calm (leb-true s.node.processed (length s.node.trail) e)
    by_batch calm false e = by_unit (record { calm = calm; handled = leb-false s.node.processed (length s.node.trail) e }) (next_unit s.node) refl

    by_level : (id : ℕ) → s.node.conflict ≡ Some id → (b : Bool) → (level_of s.node.trail == 0) ≡ b → P (cond {A = Case} b (Refutes id) (Learns id))
    by_level id q true e = h.refutes id q (eqb-true (level_of s.node.trail) 0 e)
    by_level id q false e = h.learns id q (let other = eqb-false (level_of s.node.trail) 0 e in omega arith)

    by_conflict : (o : Option ℕ) → s.node.conflict ≡ o → P (case_by o s)
    by_conflict (Some id) q = by_level id q (level_of s.node.trail == 0) refl
    by_conflict None q = by_batch q (nat_le s.node.processed (length s.node.trail)) refl
