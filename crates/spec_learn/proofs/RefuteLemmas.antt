use Rattle.std.proofs.Common.{◌≡◌, ℕ, ◌+◌, ◌-◌, ◌*◌, ◌/◌, ◌^◌, ◌<◌, ◌≤◌, true, List, [], ◌∷◌, ◌++◌, Some, None, refl, sym, ap, ◌∙◌, subst, append_assoc, arith}
use Rattle.std.specs.Prelude.{All}
use Rattle.std.proofs.lemmas.List.Elements.{All-nil, All-cons, All-head, All-tail, All-weaker, Contains-append_left}
use Rattle.mal_base.specs.NumberedClause.{NumberedClause}
use Rattle.mal_base.specs.declared.trail_entry.TrailEntry.{TrailEntry}
use Rattle.mal_base.specs.declared.verdict.Verdict.TheVariants.{Unsatisfiable}
use Rattle.spec_node.specs.State.{Node}
use Rattle.spec_node.specs.Value.{level_of}
use Rattle.spec_node.specs.Load.{is_derived}
use Rattle.spec_node.specs.Sound.{EachAfter, IsLevelled, IsClosed, IsForced, AreSettled, IsLiteralOf, AreLiteralsOf, own_level, serial_of, IsRanged, IsConsistent, IsSound}
use Rattle.spec_node.proofs.TrailLemmas.{each-weaker}
use Rattle.spec_node.proofs.CutLemmas.{level_of-push}
use Rattle.spec_node.proofs.LevelLemmas.{levels-rise}
use Rattle.spec_learn.specs.Learning.{derived_id, analysis}
use Rattle.spec_learn.specs.Refuting.{refuted, emptied}
use Rattle.spec_learn.proofs.ProfileLemmas.{sound-empty}
use Rattle.spec_learn.proofs.SoundParts.{with-last, numbers-last, below-derived, derived-serial}

all-last : (P : NumberedClause → Type 0) (xs : List NumberedClause) (y : NumberedClause) → All P xs → P y → All P (xs ++ y ∷ [])
all-last P [] y h p = All-cons P y [] p h
all-last P (x ∷ xs) y h p = All-cons P x (xs ++ y ∷ []) (All-head P x xs h) (all-last P xs y (All-tail P x xs h) p)

-- a node with a derived clause after the others
abbrev shaped : Node → List ℕ → List NumberedClause → Node
shaped n lits clauses = record n { clauses = clauses; serial = n.serial + 1; verdict = Some (Unsatisfiable (derived_id n)) }

-- a clause of the node's literals, with which decisions and handled batches are as they are to be, keeps it sound
pub refuted-sound : (n : Node) (lits : List ℕ) → IsSound n → AreLiteralsOf n.variables lits → EachAfter (IsClosed (n.clauses ++ record { id = derived_id n; lits = lits } ∷ [])) [] n.trail → (n.conflict ≡ None → AreSettled n.processed n.trail (n.clauses ++ record { id = derived_id n; lits = lits } ∷ [])) → IsSound (refuted lits n)
refuted-sound n lits h own closed settled =
    subst (λ (cs : List NumberedClause). IsSound (shaped n lits cs)) (sym (with-last new n.clauses below)) (record {
      ranged = record {
        index = r.index;
        variables = r.variables;
        restart_number = r.restart_number;
        phases = r.phases;
        numbers = numbers-last 1 new n.clauses (omega arith) r.numbers below;
        serial = all-last (λ c. is_derived c ≡ true → serial_of c < n.serial + 1) n.clauses new (All-weaker (λ c. is_derived c ≡ true → serial_of c < n.serial) (λ c. is_derived c ≡ true → serial_of c < n.serial + 1) (λ c f q. let u : serial_of c < n.serial = f q in omega arith) n.clauses r.serial) (λ q. let s : (2 ^ 32 + n.serial * 64 + n.index - 2 ^ 32) / 64 ≡ n.serial = derived-serial n.serial n.index r.index in omega arith);
      };
      consistent = record {
        order = c.order;
        clauses = all-last (λ x. AreLiteralsOf n.variables x.lits) n.clauses new c.clauses own;
        assumptions = c.assumptions;
        placed = c.placed;
        levels = c.levels;
        closed = closed;
        handled = c.handled;
        settled = settled;
      };
      reasons = each-weaker (IsForced n.clauses) (IsForced (n.clauses ++ new ∷ [])) (λ b e f id q. let y = f id q in (y.0, Contains-append_left n.clauses (new ∷ []) y.0 y.1, y.2, y.3)) n.trail [] h.reasons;
      chosen = h.chosen;
      passed = h.passed;
      reached = h.reached;
      waiting = λ id q. let y = h.waiting id q in (y.0, Contains-append_left n.clauses (new ∷ []) y.0 y.1, y.2, y.3);
    })
  where
    r : IsRanged n
    r = h.ranged

    c : IsConsistent n
    c = h.consistent

    new : NumberedClause
    new = record { id = derived_id n; lits = lits }

    below : All (λ (y : NumberedClause). y.id < derived_id n) n.clauses
    below = below-derived n.serial n.index n.clauses r.serial

-- a trail of level 0 has no decision
closed-zero : (clauses : List NumberedClause) (es before : List TrailEntry) → EachAfter IsLevelled before es → level_of (before ++ es) ≡ 0 → EachAfter (IsClosed clauses) before es
closed-zero clauses [] before h z = tt
closed-zero clauses (e ∷ es) before h z =
    let whole : level_of ((before ++ e ∷ []) ++ es) ≡ 0 = subst (λ (t : List TrailEntry). level_of t ≡ 0) (sym (append_assoc before (e ∷ []) es)) z in
    let here : level_of (before ++ e ∷ []) ≡ e.level = level_of-push before e in
    let rise : level_of (before ++ e ∷ []) ≤ level_of ((before ++ e ∷ []) ++ es) = levels-rise es (before ++ e ∷ []) h.1 in
    ((λ q. let own : e.level ≡ level_of before + 1 = h.0 ∙ ap (own_level before) q in absurd (omega arith)), closed-zero clauses es (before ++ e ∷ []) h.1 whole)

-- deriving the empty clause keeps a node sound
pub emptied-sound : (n : Node) (id : ℕ) → IsSound n → n.conflict ≡ Some id → level_of n.trail ≡ 0 → IsSound (emptied id n)
emptied-sound n id h q z =
    let none : (analysis id n).lits ≡ [] = sound-empty n id h q z in
    subst (λ (lits : List ℕ). IsSound (refuted lits n)) (sym none) (refuted-sound n [] h (record { rising = refl; within = All-nil (IsLiteralOf n.variables) }) (closed-zero (n.clauses ++ record { id = derived_id n; lits = [] } ∷ []) n.trail [] h.consistent.levels z) (λ m. absurd (waits m q)))
  where
    waits : n.conflict ≡ None → n.conflict ≡ Some id → ⊥
    waits m k = let both : Some id ≡ None = sym k ∙ m in absurd (cc)
