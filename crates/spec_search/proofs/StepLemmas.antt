use Rattle.std.proofs.Common.{◌≡◌, ℕ, ◌+◌, ◌-◌, ◌*◌, ◌<◌, ◌≤◌, Bool, true, false, cond, length, get_or, Some, None, Option, refl, arith}
use Rattle.std.specs.Prelude.{nat_le, ◌==◌}
use Rattle.std.proofs.lemmas.Bool.{leb-true, leb-false, eqb-true, eqb-false}
use Rattle.mal_base.specs.Literals.{literal}
use Rattle.mal_base.specs.declared.verdict.Verdict.TheVariants.{Satisfiable}
use Rattle.spec_node.specs.State.{Node}
use Rattle.spec_node.specs.Value.{is_false, level_of, next_assumption, first_free}
use Rattle.spec_node.specs.Cut.{cut}
use Rattle.spec_seq.specs.Luby.{luby}
use Rattle.spec_search.specs.Step.{Case, Learns, Refutes, Propagates, Drops, Restarts, Contradicts, Assumes, Decides, Ends, deciding, assuming, is_false_some, branching, restarting, case_by, case_of}
use Rattle.spec_search.specs.Dropping.{is_dropping_due}

-- a node where no conflict waits and no batch is left
pub record IsIdle (n : Node) : Type 0 where
  pub calm : n.conflict ≡ None
  pub handled : length n.trail < n.processed

-- a node that restarts
abbrev pub restarted : Node → Node
restarted n = record (cut 0 n) { conflicts_since_restart = 0; restart_number = n.restart_number + 1 }

-- a node that ends with a model
abbrev pub ended : Node → Node
ended n = record n { verdict = Some Satisfiable }

-- the literal that a decision of this variable takes
abbrev pub phased : Node → ℕ → ℕ
phased n v = literal v (get_or n.phases (v - 1) false)

-- what holds of the case of a node, case by case
pub record HasCases (P : Case → Type 0) (n : Node) : Type 0 where
  pub learns : (id : ℕ) → n.conflict ≡ Some id → 0 < level_of n.trail → P (Learns id)
  pub refutes : (id : ℕ) → n.conflict ≡ Some id → level_of n.trail ≡ 0 → P (Refutes id)
  pub propagates : n.conflict ≡ None → n.processed ≤ length n.trail → P Propagates
  pub drops : IsIdle n → P Drops
  pub restarts : IsIdle n → P Restarts
  pub contradicts : IsIdle n → (a : ℕ) → next_assumption n.trail n.assumptions ≡ Some a → is_false n.trail a ≡ true → P (Contradicts a)
  pub assumes : IsIdle n → (a : ℕ) → next_assumption n.trail n.assumptions ≡ Some a → is_false n.trail a ≡ false → P (Assumes a)
  pub decides : IsIdle n → (v : ℕ) → next_assumption n.trail n.assumptions ≡ None → first_free n.trail n.order ≡ Some v → P (Decides v)
  pub ends : IsIdle n → next_assumption n.trail n.assumptions ≡ None → first_free n.trail n.order ≡ None → P Ends

pub by_cases : (P : Case → Type 0) (n : Node) → HasCases P n → P (case_of n)
by_cases P n h = by_conflict n.conflict refl
  where
    by_free : IsIdle n → next_assumption n.trail n.assumptions ≡ None → (o : Option ℕ) → first_free n.trail n.order ≡ o → P (deciding o)
    by_free idle e None f = h.ends idle e f
    by_free idle e (Some v) f = h.decides idle v e f

    by_false : IsIdle n → (a : ℕ) → next_assumption n.trail n.assumptions ≡ Some a → (b : Bool) → is_false n.trail a ≡ b → P (assuming (Some a) b (deciding (first_free n.trail n.order)))
    by_false idle a e true f = h.contradicts idle a e f
    by_false idle a e false f = h.assumes idle a e f

    by_open : IsIdle n → (o : Option ℕ) → next_assumption n.trail n.assumptions ≡ o → P (assuming o (is_false_some n.trail o) (deciding (first_free n.trail n.order)))
    by_open idle None e = by_free idle e (first_free n.trail n.order) refl
    by_open idle (Some a) e = by_false idle a e (is_false n.trail a) refl

    by_restart : IsIdle n → (b : Bool) → P (cond {A = Case} b Restarts (branching n))
    by_restart idle true = h.restarts idle
    by_restart idle false = by_open idle (next_assumption n.trail n.assumptions) refl

    by_due : IsIdle n → (b : Bool) → P (cond {A = Case} b Drops (restarting n))
    by_due idle true = h.drops idle
    by_due idle false = by_restart idle (nat_le (64 * luby n.restart_number) n.conflicts_since_restart)

    by_batch : n.conflict ≡ None → (b : Bool) → nat_le n.processed (length n.trail) ≡ b → P (cond {A = Case} b Propagates (cond {A = Case} (is_dropping_due n) Drops (restarting n)))
    by_batch calm true e = h.propagates calm (leb-true n.processed (length n.trail) e)
    by_batch calm false e = by_due (record { calm = calm; handled = leb-false n.processed (length n.trail) e }) (is_dropping_due n)

    by_level : (id : ℕ) → n.conflict ≡ Some id → (b : Bool) → (level_of n.trail == 0) ≡ b → P (cond {A = Case} b (Refutes id) (Learns id))
    by_level id q true e = h.refutes id q (eqb-true (level_of n.trail) 0 e)
    by_level id q false e = h.learns id q (let other = eqb-false (level_of n.trail) 0 e in omega arith)

    by_conflict : (o : Option ℕ) → n.conflict ≡ o → P (case_by o n)
    by_conflict (Some id) q = by_level id q (level_of n.trail == 0) refl
    by_conflict None q = by_batch q (nat_le n.processed (length n.trail)) refl
