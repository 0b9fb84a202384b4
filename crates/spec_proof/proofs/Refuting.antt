-- The trimmed and renumbered lines of a log are a proof.
use Rattle.std.proofs.Common.{◌≡◌, ◌≢◌, ℕ, ◌<◌, ◌≤◌, ◌^◌, true, List, [], ◌∷◌, map, Contains, length, Option, Some, None, refl, sym, ◌∙◌, subst, ap, inl, inr, ◌⊎◌, arith}
use Rattle.std.specs.List.{list_any}
use Rattle.std.proofs.lemmas.Bool.{or_left, or_right, cases_lt}
use Rattle.std.proofs.lemmas.List.Elements.{All-contains}
use Rattle.mal_base.specs.NumberedClause.{Line}
use Rattle.spec_logic.specs.Derivation.{Holding, derivation}
use Rattle.spec_logic.specs.Derivation.Derivation.{Derived}
use Rattle.spec_logic.specs.Refutation.{numbered, with_clause, IsProof, added_by, contradicts}
use Rattle.spec_proof.specs.Log.{proof_of, IsAbove, holding, IsLog}
use Rattle.spec_proof.specs.Trimmed.{by_id, AreRising, reached, ids_of, new_id, renamed, renumbered}
use Rattle.spec_proof.specs.Laws.{TrimmedRefutes}
use Rattle.spec_proof.specs.Among.{Among}
use Rattle.spec_proof.proofs.Among.{among-from_contains, of-all}
use Rattle.spec_proof.proofs.Deriving.{derived-renamed}
use Rattle.spec_proof.proofs.LogLemmas.{HeldBy, with-new, with-keeps, with-other, held-cases, derived-in-end, log-orderly}
use Rattle.spec_proof.proofs.Growing.{numbered-past, numbered-within, accepted-from}
use Rattle.spec_proof.proofs.Reaching.{sorted-among, among-sorted, sorted-rising, reached-among, reached-rising, reached-goal, reached-hints}
use Rattle.spec_proof.proofs.Renumbering.{new-above, new-apart, new-other}

-- a clause held under a hint of a line is held under the hint's new name, or is that of a line to come with a lesser
-- number
abbrev pub IsReady : (Holding) → (Holding) → (ℕ → ℕ) → List Line → Line → Type 0
IsReady all held name xs line =
    (h : ℕ) → Contains line.hints h → (c : Option (List ℕ)) → all h ≡ Some c
    → (held (name h) ≡ Some c) ⊎ ((x : Line) × Among x xs × (x.id ≡ h) × (c ≡ Some x.lits) × (x.id < line.id))

-- lines by rising number that are derived from what is held in all are a proof under new names
pub rebuilt : (all held : Holding) (name : ℕ → ℕ) (xs : List Line) → AreRising xs
    → ((y z : Line) → Among y xs → Among z xs → name y.id ≡ name z.id → y.id ≡ z.id)
    → ((y : Line) → Among y xs → derivation all (Some y.lits) y.hints ≡ Derived)
    → ((y : Line) → Among y xs → held (name y.id) ≡ None)
    → ((y : Line) → Among y xs → IsReady all held name xs y)
    → IsProof held (proof_of (map (renamed name) xs))
rebuilt all held name [] up apart derived fresh ready = tt
rebuilt all held name (x ∷ xs) up apart derived fresh ready =
    let here : derivation held (Some x.lits) (map name x.hints) ≡ Derived = derived-renamed all held name (Some x.lits) x.hints follows (derived x (inl refl)) in (
      accepted-from held (renamed name x) (fresh x (inl refl)) here,
      rebuilt all (with_clause held (name x.id) (Some x.lits)) name xs up.1 (λ y z h k. apart y z (inr h) (inr k)) (λ y h. derived y (inr h)) fresh-next ready-next,
    )
  where
    follows : (h : ℕ) → Contains x.hints h → (c : Option (List ℕ)) → all h ≡ Some c → held (name h) ≡ Some c
    follows h m c q = by_ready (ready x (inl refl) h m c q)
      where
        by_ready : (held (name h) ≡ Some c) ⊎ ((y : Line) × Among y (x ∷ xs) × (y.id ≡ h) × (c ≡ Some y.lits) × (y.id < x.id)) → held (name h) ≡ Some c
        by_ready (inl r) = r
        by_ready (inr (y, inl e, i, j, low)) = let same : x.id ≡ y.id = ap (λ (l : Line). l.id) e in absurd (omega arith)
        by_ready (inr (y, inr k, i, j, low)) = let over : x.id < y.id = of-all (λ later. x.id < later.id) xs y up.0 k in absurd (omega arith)

    fresh-next : (y : Line) → Among y xs → with_clause held (name x.id) (Some x.lits) (name y.id) ≡ None
    fresh-next y h =
        let over : x.id < y.id = of-all (λ later. x.id < later.id) xs y up.0 h in
        let other : name y.id ≢ name x.id = λ e. let same : y.id ≡ x.id = apart y x (inr h) (inl refl) e in omega arith in
        with-other held (name x.id) (Some x.lits) (name y.id) other ∙ fresh y (inr h)

    ready-next : (y : Line) → Among y xs → IsReady all (with_clause held (name x.id) (Some x.lits)) name xs y
    ready-next y k h m c q = by_ready (ready y (inr k) h m c q)
      where
        by_ready : (held (name h) ≡ Some c) ⊎ ((z : Line) × Among z (x ∷ xs) × (z.id ≡ h) × (c ≡ Some z.lits) × (z.id < y.id))
            → (with_clause held (name x.id) (Some x.lits) (name h) ≡ Some c) ⊎ ((z : Line) × Among z xs × (z.id ≡ h) × (c ≡ Some z.lits) × (z.id < y.id))
        by_ready (inl r) = inl (with-keeps held (name x.id) (Some x.lits) (name h) c (fresh x (inl refl)) r)
        by_ready (inr (z, inl e, i, j, low)) =
            let at : x.id ≡ h = ap (λ (l : Line). l.id) e ∙ i in
            let is : Some x.lits ≡ c = ap (λ (l : Line). Some l.lits) e ∙ sym j in
            let there : with_clause held (name x.id) (Some x.lits) (name x.id) ≡ Some (Some x.lits) = with-new held (name x.id) (Some x.lits) in
            inl (subst (λ (n : ℕ). with_clause held (name x.id) (Some x.lits) (name n) ≡ Some c) at (there ∙ ap (λ (d : Option (List ℕ)). Some d) is))
        by_ready (inr (z, inr l, i, j, low)) = inr (z, l, i, j, low)

-- a line's clause is among those that the renamed lines add
pub goal-among : (assumptions : List ℕ) (name : ℕ → ℕ) (xs : List Line) (y : Line) → Among y xs → contradicts assumptions (Some y.lits) ≡ true → list_any (contradicts assumptions) (added_by (proof_of (map (renamed name) xs))) ≡ true
goal-among assumptions name [] y h g = absurd h
goal-among assumptions name (x ∷ xs) y (inl e) g =
    or_left (contradicts assumptions (Some x.lits)) _ (subst (λ (l : Line). contradicts assumptions (Some l.lits) ≡ true) (sym e) g)
goal-among assumptions name (x ∷ xs) y (inr h) g = or_right (contradicts assumptions (Some x.lits)) _ (goal-among assumptions name xs y h g)

module _ (originals : List (Option (List ℕ))) (lines : List Line) (is : IsLog originals lines) (goal : ℕ) where
  line-above : (y : Line) → Among y lines → IsAbove y
  line-above y h = of-all IsAbove lines y is.above h

  in-log : (y : Line) → Among y (reached goal lines) → Among y lines
  in-log y h = among-sorted lines y (reached-among goal (by_id lines) y h)

  by-rising : AreRising (by_id lines)
  by-rising = sorted-rising lines (log-orderly originals lines is).apart

  ready-first : (y : Line) → Among y (reached goal lines) → IsReady (holding originals lines) (numbered originals) (new_id (length originals) (ids_of (reached goal lines))) (reached goal lines) y
  ready-first y h hint m c q = by_source (held-cases (numbered originals) lines hint c q)
    where
      stays : numbered originals hint ≡ Some c → new_id (length originals) (ids_of (reached goal lines)) hint ≡ hint
      stays r = new-other (length originals) (reached goal lines) hint (λ z k e. by_size z k e (cases_lt (length originals) hint))
        where
          by_size : (z : Line) → Among z (reached goal lines) → z.id ≡ hint → (length originals < hint) ⊎ (hint ≤ length originals) → ⊥
          by_size z k e (inl high) = numbered-within originals hint c r high
          by_size z k e (inr low) =
              let a : length originals < 2 ^ 32 = is.originals_below in
              let b : 2 ^ 32 ≤ z.id = (line-above z (in-log z k)).derived in
              omega arith

      by_source : (numbered originals hint ≡ Some c) ⊎ HeldBy lines hint c
          → (numbered originals (new_id (length originals) (ids_of (reached goal lines)) hint) ≡ Some c) ⊎ ((x : Line) × Among x (reached goal lines) × (x.id ≡ hint) × (c ≡ Some x.lits) × (x.id < y.id))
      by_source (inl r) = inl (subst (λ (n : ℕ). numbered originals n ≡ Some c) (sym (stays r)) r)
      by_source (inr (x, k, i, j)) =
          let low : hint < y.id = All-contains (λ n. n < y.id) y.hints hint (line-above y (in-log y h)).above m in
          let less : x.id < y.id = omega arith in
          let used : Contains y.hints x.id = subst (λ (n : ℕ). Contains y.hints n) (sym i) m in
          inr (x, reached-hints goal (by_id lines) by-rising y x h (sorted-among lines x k) used less, i, j, less)

  trimmed-proof : IsProof (numbered originals) (proof_of (renumbered (length originals) (reached goal lines)))
  trimmed-proof =
      rebuilt (holding originals lines) (numbered originals) (new_id (length originals) (ids_of (reached goal lines))) (reached goal lines)
      (reached-rising goal (by_id lines) by-rising)
      (λ y z h k e. new-apart (length originals) (reached goal lines) y z h k e)
      (λ y h. derived-in-end (numbered originals) lines is.proof y (in-log y h))
      (λ y h. numbered-past originals (new_id (length originals) (ids_of (reached goal lines)) y.id) (new-above (length originals) (reached goal lines) y h))
      ready-first

pub trimmed-refutes : TrimmedRefutes
trimmed-refutes originals assumptions goal lines line is h e k = record {
  proof = trimmed-proof originals lines is goal;
  goal = goal-among assumptions (new_id (length originals) (ids_of (reached goal lines))) (reached goal lines) line (reached-goal goal (by_id lines) line (sorted-among lines line (among-from_contains lines line h)) e) k;
}
