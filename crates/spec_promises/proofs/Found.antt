-- Optima and minimal cores are told by their text.
use Rattle.std.proofs.Common.{◌≡◌, ℕ, ◌≤◌, Bool, List, [], ◌∷◌, ◌++◌, length, codes, refl, sym, ap, ap₂, ◌∙◌, arith, append-nil}
use Rattle.std.specs.Prelude.{Option, Some, None}
use Rattle.std.specs.List.{AllByRecursion}
use Rattle.std.proofs.lemmas.List.{append_cancel_right}
use Rattle.mal_base.specs.Limits.{greatest_variable}
use Rattle.mal_base.specs.NumberedClause.{Line}
use Rattle.mal_report.specs.Rows.{model_row, proof_rows}
use Rattle.spec_text.specs.Lines.{IsRow, AreRows}
use Rattle.spec_text.specs.Numbers.{decimal_word}
use Rattle.spec_text.proofs.Again.{texts_differ}
use Rattle.spec_text.proofs.Clean.{decimals_are_clean, decimals_differ, literals_are_clean}
use Rattle.spec_report.specs.Replies.{ReplyBody, Model, Proof, model_words, told_rows}
use Rattle.spec_course.specs.Course.{Cause, Spent, Starved, unknown}
use Rattle.spec_max.specs.Optimum.{Solution, Optimum, Best, NoModel, Unknown}
use Rattle.mal_max.specs.Texts.{solution_rows, best_rows, optimum_rows, optimum_text}
use Rattle.spec_core.specs.Core as core
use Rattle.mal_core.specs.Texts.{witness_rows, core_rows, minimal_rows}
use Rattle.spec_promises.specs.Found.{IsSolution, IsBest, IsOptimum, OptimumIsTold, IsCore, IsMinimal, MinimalIsTold}
use Rattle.spec_promises.proofs.Lines.{NoLine, first_byte, second_length, head_length, lines-same, line-rows, model-clean, model-same, proofs-same, told-same, told-are_rows, tested}
use Rattle.spec_promises.proofs.Tells.{rows-both}
use Rattle.spec_promises.proofs.Words.{zero-clean}

-- no lines are after these
no-rows : NoLine []
unfolding first_byte
no-rows q = omega (arith, q)

-- a cause is told by what tells it
cause-same : (c d : Cause) → unknown c ≡ unknown d → c ≡ d
cause-same (Spent m) (Spent n) e = cc
cause-same (Spent m) Starved e = absurd (cc)
cause-same Starved (Spent n) e = absurd (cc)
cause-same Starved Starved e = refl

-- a model is told by its line
model-row : (model : List Bool) → IsRow (model_row model)
model-row model = (omega arith, (tested (codes "v") refl, model-clean 1 model (codes "0" ∷ []) (zero-clean, tt)))

rows-model : (x y : List Bool) → length x ≤ greatest_variable → length y ≤ greatest_variable → model_row x ≡ model_row y → x ≡ y
rows-model x y h k e =
    let words : model_words 1 x ++ codes "0" ∷ [] ≡ model_words 1 y ++ codes "0" ∷ [] = cc in
    model-same 1 x y (omega arith) (omega (arith, h)) (omega (arith, k)) (append_cancel_right _ _ _ words)

-- a solution is told by its lines, and so is the best so far
solution-are_rows : (found : Solution) → AreRows (solution_rows found)
solution-are_rows found = ((omega arith, (tested (codes "o") refl, (decimals_are_clean found.cost, tt))), (model-row found.model, tt))

solution-same : (x y : Solution) (rest others : List (List (List ℕ))) → IsSolution x → IsSolution y → solution_rows x ++ rest ≡ solution_rows y ++ others → (x ≡ y) × (rest ≡ others)
solution-same x y rest others h k e =
    let cost : decimal_word x.cost ≡ decimal_word y.cost = cc in
    let row : model_row x.model ≡ model_row y.model = cc in
    let same : rest ≡ others = cc in
    (ap₂ (λ (m : List Bool) (c : ℕ). solution m c) (rows-model x.model y.model h.model k.model row) (decimals_differ x.cost y.cost h.cost k.cost cost), same)
  where
    solution : List Bool → ℕ → Solution
    solution model cost = record { model = model; cost = cost }

best-are_rows : (best : Option Solution) → AreRows (best_rows best)
best-are_rows None = tt
best-are_rows (Some found) = solution-are_rows found

best-no_line : (best : Option Solution) → NoLine (best_rows best)
unfolding first_byte
best-no_line None q = omega (arith, q)
best-no_line (Some found) q = omega (arith, q)

best-same : (x y : Option Solution) → IsBest x → IsBest y → best_rows x ≡ best_rows y → x ≡ y
best-same None None h k e = refl
best-same None (Some y) h k e = absurd (cc)
best-same (Some x) None h k e = absurd (cc)
best-same (Some x) (Some y) h k e = ap (λ (s : Solution). Some s) (solution-same x y [] [] h k e).0

-- an optimum is told by its lines
optimum-are_rows : (o : Optimum) → AreRows (optimum_rows o)
optimum-are_rows (Best found lines) = ((omega arith, (tested (codes "s") refl, (tested (codes "OPTIMUM") refl, (tested (codes "FOUND") refl, tt)))), rows-both (solution_rows found) (proof_rows lines) (solution-are_rows found) (line-rows lines))
optimum-are_rows (NoModel lines) = ((omega arith, (tested (codes "s") refl, (tested (codes "UNSATISFIABLE") refl, tt))), line-rows lines)
optimum-are_rows (Unknown best cause) = rows-both (told_rows (unknown cause)) (best_rows best) (told-are_rows (unknown cause)) (best-are_rows best)

bests-same : (x y : Solution) (ls ms : List Line) → IsOptimum (Best x ls) → IsOptimum (Best y ms) → optimum_rows (Best x ls) ≡ optimum_rows (Best y ms) → Best x ls ≡ Best y ms
bests-same x y ls ms h k e =
    let rows : solution_rows x ++ proof_rows ls ≡ solution_rows y ++ proof_rows ms = cc in
    let found = solution-same x y (proof_rows ls) (proof_rows ms) h.0 k.0 rows in
    let lines = lines-same ls ms [] [] h.1 k.1 no-rows no-rows (append-nil (proof_rows ls) ∙ (found.1 ∙ sym (append-nil (proof_rows ms)))) in
    ap₂ (λ (s : Solution) (xs : List Line). Best s xs) found.0 lines.0

models-none : (ls ms : List Line) → IsOptimum (NoModel ls) → IsOptimum (NoModel ms) → optimum_rows (NoModel ls) ≡ optimum_rows (NoModel ms) → NoModel ls ≡ NoModel ms
models-none ls ms h k e =
    let rows : proof_rows ls ≡ proof_rows ms = cc in
    ap NoModel (lines-same ls ms [] [] h k no-rows no-rows (append-nil (proof_rows ls) ∙ (rows ∙ sym (append-nil (proof_rows ms))))).0

unknowns-same : (x y : Option Solution) (c d : Cause) → IsOptimum (Unknown x c) → IsOptimum (Unknown y d) → optimum_rows (Unknown x c) ≡ optimum_rows (Unknown y d) → Unknown x c ≡ Unknown y d
unknowns-same x y c d h k e =
    let told = told-same (unknown c) (unknown d) (best_rows x) (best_rows y) h.1 k.1 (best-no_line x) (best-no_line y) e in
    ap₂ (λ (b : Option Solution) (w : Cause). Unknown b w) (best-same x y h.0 k.0 told.1) (cause-same c d told.0)

-- the lengths that tell one kind from another
unknown-head : (c : Cause) (rest : List (List (List ℕ))) → head_length (told_rows (unknown c) ++ rest) ≡ 2
unfolding head_length
unknown-head (Spent n) rest = refl
unknown-head Starved rest = refl

unknown-second : (c : Cause) (rest : List (List (List ℕ))) → second_length (told_rows (unknown c) ++ rest) ≡ 7
unfolding second_length
unknown-second (Spent n) rest = refl
unknown-second Starved rest = refl

optimum-same : (a b : Optimum) → IsOptimum a → IsOptimum b → optimum_rows a ≡ optimum_rows b → a ≡ b
unfolding head_length second_length
optimum-same (Best x ls) (Best y ms) h k e = bests-same x y ls ms h k e
optimum-same (Best x ls) (NoModel ms) h k e = let same : 7 ≡ 13 = ap second_length e in absurd (omega (arith, same))
optimum-same (Best x ls) (Unknown y d) h k e = let same : 3 ≡ 2 = ap head_length e ∙ unknown-head d (best_rows y) in absurd (omega (arith, same))
optimum-same (NoModel ls) (Best y ms) h k e = let same : 13 ≡ 7 = ap second_length e in absurd (omega (arith, same))
optimum-same (NoModel ls) (NoModel ms) h k e = models-none ls ms h k e
optimum-same (NoModel ls) (Unknown y d) h k e = let same : 13 ≡ 7 = ap second_length e ∙ unknown-second d (best_rows y) in absurd (omega (arith, same))
optimum-same (Unknown x c) (Best y ms) h k e = let same : 3 ≡ 2 = ap head_length (sym e) ∙ unknown-head c (best_rows x) in absurd (omega (arith, same))
optimum-same (Unknown x c) (NoModel ms) h k e = let same : 13 ≡ 7 = ap second_length (sym e) ∙ unknown-second c (best_rows x) in absurd (omega (arith, same))
optimum-same (Unknown x c) (Unknown y d) h k e = unknowns-same x y c d h k e

pub optimum_is_told : OptimumIsTold
unfolding optimum_text
optimum_is_told a b h k e = optimum-same a b h k (texts_differ (optimum_rows a) (optimum_rows b) (optimum-are_rows a) (optimum-are_rows b) e)

-- witnesses can be written, begin no line of a proof, and are told by their lines
witnesses-are_rows : (ls : List ℕ) (models : List (List Bool)) → AreRows (witness_rows ls models)
witnesses-are_rows [] models = tt
witnesses-are_rows (l ∷ ls) [] = tt
witnesses-are_rows (l ∷ ls) (m ∷ ms) = ((omega arith, (tested (codes "m") refl, (literals_are_clean l, tt))), (model-row m, witnesses-are_rows ls ms))

witnesses-no_line : (ls : List ℕ) (models : List (List Bool)) → NoLine (witness_rows ls models)
unfolding first_byte
witnesses-no_line [] models q = omega (arith, q)
witnesses-no_line (l ∷ ls) [] q = omega (arith, q)
witnesses-no_line (l ∷ ls) (m ∷ ms) q = omega (arith, q)

witnesses-same : (ls : List ℕ) (xs ys : List (List Bool)) → length xs ≤ length ls → length ys ≤ length ls → AllByRecursion (λ m. length m ≤ greatest_variable) xs → AllByRecursion (λ m. length m ≤ greatest_variable) ys → witness_rows ls xs ≡ witness_rows ls ys → xs ≡ ys
witnesses-same [] [] [] p q h k e = refl
witnesses-same [] [] (y ∷ ys) p q h k e = absurd (omega (arith, q))
witnesses-same [] (x ∷ xs) ys p q h k e = absurd (omega (arith, p))
witnesses-same (l ∷ ls) [] [] p q h k e = refl
witnesses-same (l ∷ ls) [] (y ∷ ys) p q h k e = absurd (cc)
witnesses-same (l ∷ ls) (x ∷ xs) [] p q h k e = absurd (cc)
witnesses-same (l ∷ ls) (x ∷ xs) (y ∷ ys) p q h k e =
    let row : model_row x ≡ model_row y = cc in
    let rest : witness_rows ls xs ≡ witness_rows ls ys = cc in
    ap₂ (λ (m : List Bool) (ms : List (List Bool)). m ∷ ms) (rows-model x y h.0 k.0 row) (witnesses-same ls xs ys (omega (arith, p)) (omega (arith, q)) h.1 k.1 rest)

-- what a search comes to is told by its lines
minimal-are_rows : (m : core.Minimal) → AreRows (minimal_rows m)
minimal-are_rows (core.Core c) = rows-both (told_rows (Proof c.core c.lines)) (witness_rows c.core c.models) (told-are_rows (Proof c.core c.lines)) (witnesses-are_rows c.core c.models)
minimal-are_rows (core.Satisfiable model) = told-are_rows (Model model)
minimal-are_rows (core.Unknown cause) = told-are_rows (unknown cause)

cores-same : (c d : core.Narrowed) → IsCore c → IsCore d → core_rows c ≡ core_rows d → c ≡ d
cores-same c d h k e =
    let told = proofs-same c.core d.core c.lines d.lines (witness_rows c.core c.models) (witness_rows d.core d.models) (h.lits, h.lines) (k.lits, k.lines) (witnesses-no_line c.core c.models) (witnesses-no_line d.core d.models) e in
    made told.0 told.1 told.2
  where
    narrowed : List ℕ → List Line → List (List Bool) → core.Narrowed
    narrowed lits lines models = record { core = lits; lines = lines; models = models }

    made : c.core ≡ d.core → c.lines ≡ d.lines → witness_rows c.core c.models ≡ witness_rows d.core d.models → c ≡ d
    made x y z =
        let same : length c.core ≡ length d.core = ap length x in
        let models : c.models ≡ d.models = witnesses-same c.core c.models d.models h.few (omega (arith, k.few, same)) h.models k.models (z ∙ ap (λ (ls : List ℕ). witness_rows ls d.models) (sym x)) in
        ap₂ (λ (ls : List ℕ) (xs : List Line). narrowed ls xs c.models) x y ∙ ap (λ (ms : List (List Bool)). narrowed d.core d.lines ms) models

nil : (told : ReplyBody) → told_rows told ++ [] ≡ told_rows told
nil told = append-nil (told_rows told)

minimal-same : (a b : core.Minimal) → IsMinimal a → IsMinimal b → minimal_rows a ≡ minimal_rows b → a ≡ b
unfolding second_length
minimal-same (core.Core c) (core.Core d) h k e = ap core.Core (cores-same c d h k e)
minimal-same (core.Core c) (core.Satisfiable n) h k e = let same : 13 ≡ 11 = ap second_length e in absurd (omega (arith, same))
minimal-same (core.Core c) (core.Unknown v) h k e = let same : 13 ≡ 7 = ap second_length e ∙ (sym (ap second_length (nil (unknown v))) ∙ unknown-second v []) in absurd (omega (arith, same))
minimal-same (core.Satisfiable m) (core.Core d) h k e = let same : 11 ≡ 13 = ap second_length e in absurd (omega (arith, same))
minimal-same (core.Satisfiable m) (core.Satisfiable n) h k e =
    let row : model_row m ≡ model_row n = cc in
    ap core.Satisfiable (rows-model m n h k row)
minimal-same (core.Satisfiable m) (core.Unknown v) h k e = let same : 11 ≡ 7 = ap second_length e ∙ (sym (ap second_length (nil (unknown v))) ∙ unknown-second v []) in absurd (omega (arith, same))
minimal-same (core.Unknown u) (core.Core d) h k e = let same : 13 ≡ 7 = ap second_length (sym e) ∙ (sym (ap second_length (nil (unknown u))) ∙ unknown-second u []) in absurd (omega (arith, same))
minimal-same (core.Unknown u) (core.Satisfiable n) h k e = let same : 11 ≡ 7 = ap second_length (sym e) ∙ (sym (ap second_length (nil (unknown u))) ∙ unknown-second u []) in absurd (omega (arith, same))
minimal-same (core.Unknown u) (core.Unknown v) h k e = ap core.Unknown (cause-same u v (told-same (unknown u) (unknown v) [] [] h k no-rows no-rows (nil (unknown u) ∙ (e ∙ sym (nil (unknown v))))).0)

pub minimal_is_told : MinimalIsTold
minimal_is_told a b h k e = minimal-same a b h k (texts_differ (minimal_rows a) (minimal_rows b) (minimal-are_rows a) (minimal-are_rows b) e)
