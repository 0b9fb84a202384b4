use Rattle.std.proofs.Common.{◌≡◌, ℕ, ◌∷◌, ◌+◌, ◌<◌, true, false, List, get_or, drop, length, arith, subst}
use Rattle.std.proofs.lemmas.List.{drop_more}
use Rattle.spec_logic.specs.Derivation.{is_true}
use Rattle.mal_check.proofs.TrueLemmas.{unmarked, unmarked_past}
use Rattle.mal_check.proofs.trues.unmark.Goals as goal
use Rattle.mal_check.proofs.trues.unmark.Goals.{then-code-marks, else-code-marks}

pub loop-lit-preserved : goal.loop-lit-preserved
loop-lit-preserved c =
    let low : c.loop-lit.lit-index < length c.args.lits.now = omega arith in
    let next = drop_more c.args.lits.now c.loop-lit.lit-index c.lit-item.result low in
    let first : get_or c.args.lits.now c.loop-lit.lit-index c.lit-item.result ≡ c.code-code.result = omega (arith, c.lit-item.is, c.code-code.ensures.value) in
    let so_far : (code : ℕ) → get_or c.loop-lit.marks code false ≡ true → is_true (c.code-code.result ∷ drop (c.loop-lit.lit-index + 1) c.args.lits.now) code ≡ true = subst (λ (n : ℕ). (code : ℕ) → get_or c.loop-lit.marks code false ≡ true → is_true (n ∷ drop (c.loop-lit.lit-index + 1) c.args.lits.now) code ≡ true) first (subst (λ (xs : List ℕ). (code : ℕ) → get_or c.loop-lit.marks code false ≡ true → is_true xs code ≡ true) next c.loop-lit.invariant) in
    elim c.if-code-marks.branch [
      | then-code-marks w ↦ λ code e. unmarked c.loop-lit.marks c.code-code.result (drop (c.loop-lit.lit-index + 1) c.args.lits.now) (omega arith) so_far code (rw (← w.marks-is) e)
      | else-code-marks w ↦ λ code e. unmarked_past c.loop-lit.marks c.code-code.result (drop (c.loop-lit.lit-index + 1) c.args.lits.now) (omega arith) so_far code (rw (← w.marks-is) e)
    ]
