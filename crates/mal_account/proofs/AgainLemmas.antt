-- What is written is read again.
use Rattle.std.proofs.Common.{◌≡◌, ℕ, false, List, [], ◌∷◌, ◌++◌, map, flat_map, codes, Option, Some, None, refl, sym, ap, ◌∙◌, arith}
use Rattle.std.specs.List.{list_any, AllByRecursion}
use Rattle.std.proofs.lemmas.Bool.{or_from}
use Rattle.std.proofs.lemmas.List.Concat.{flat_map-append}
use Rattle.std.proofs.lemmas.List.Folds.{list_any-append}
use Rattle.mal_revision.specs.Posted.{Posted}
use Rattle.spec_text.specs.Lines.{line_of, text_of, IsRow, AreRows}
use Rattle.spec_dimacs.specs.Rows as dimacs
use Rattle.spec_dimacs.specs.Written.{closed_words, clause_words}
use Rattle.spec_dimacs.proofs.Again.{rows_again}
use Rattle.mal_base.specs.Limits.{limits}
use Rattle.spec_script.specs.Reading as script
use Rattle.spec_script.specs.Script.{ScriptedJob, revision_rows, step_rows, job_rows, rows_of, spelling}
use Rattle.spec_script.specs.declared.step.Step.{Step}
use Rattle.spec_script.specs.declared.step.Step.TheVariants.{Revise, Reask}
use Rattle.spec_script.proofs.Again.{written-read}
use Rattle.spec_script.proofs.Written.{Stands, jobs-stand}
use Rattle.mal_history.specs.Text.{event_words, version_of, header_words, history_text}
use Rattle.mal_history.specs.Formed.{written_read}
use Rattle.mal_history.specs.Reading as history
use Rattle.mal_history.proofs.Again as histories
use Rattle.mal_account.specs.Accounts.{is_history_line}
use Rattle.mal_account.specs.Laws.{WrittenIsRead}
use Rattle.mal_account.proofs.ReadLemmas.{rows-read}

-- no line of a script is the word `history`
any-none : (xs ys : List (List (List ℕ))) → list_any is_history_line xs ≡ false → list_any is_history_line ys ≡ false → list_any is_history_line (xs ++ ys) ≡ false
any-none xs ys h k = list_any-append is_history_line xs ys ∙ or_from (list_any is_history_line xs) (list_any is_history_line ys) h k

closed-none : (lits : List ℕ) → is_history_line (closed_words lits) ≡ false
closed-none [] = refl
closed-none (l ∷ []) = refl
closed-none (l ∷ m ∷ ms) = refl

clause-none : (c : Option (List ℕ)) → is_history_line (clause_words c) ≡ false
clause-none None = refl
clause-none (Some lits) = closed-none lits

clauses-none : (cs : List (Option (List ℕ))) → list_any is_history_line (map clause_words cs) ≡ false
clauses-none [] = refl
clauses-none (c ∷ cs) = or_from (is_history_line (clause_words c)) (list_any is_history_line (map clause_words cs)) (clause-none c) (clauses-none cs)

assumed-none : (lits : List ℕ) → is_history_line (codes "a" ∷ closed_words lits) ≡ false
assumed-none [] = refl
assumed-none (l ∷ ls) = refl

revision-none : (r : Posted) → list_any is_history_line (revision_rows r) ≡ false
revision-none r = any-none (map clause_words r.clauses) ((codes "a" ∷ closed_words r.assumptions) ∷ []) (clauses-none r.clauses) (or_from (is_history_line (codes "a" ∷ closed_words r.assumptions)) false (assumed-none r.assumptions) refl)

step-none : (step : Step) → list_any is_history_line (step_rows step) ≡ false
step-none (Revise r) = revision-none r
step-none (Reask w) = refl

steps-none : (ss : List Step) → list_any is_history_line (flat_map step_rows ss) ≡ false
steps-none [] = refl
steps-none (step ∷ ss) = any-none (step_rows step) (flat_map step_rows ss) (step-none step) (steps-none ss)

jobs-none : (js : List ScriptedJob) → list_any is_history_line (flat_map job_rows js) ≡ false
jobs-none [] = refl
jobs-none (j ∷ js) =
    any-none (job_rows j) (flat_map job_rows js) (any-none (flat_map step_rows j.steps) ((codes "e" ∷ []) ∷ []) (steps-none j.steps) refl) (jobs-none js)

-- the lines of three texts
stand-rows : (rows others : List (List (List ℕ))) → AllByRecursion Stands rows → AreRows others → AreRows (rows ++ others)
stand-rows [] others h k = k
stand-rows (row ∷ rows) others h k = (h.0.0, stand-rows rows others h.1 k)

history-row : IsRow (codes "history" ∷ [])
history-row = (omega arith, ((omega arith, (omega arith, (omega arith, (omega arith, (omega arith, (omega arith, (omega arith, (omega arith, tt)))))))), tt))

lines-again : (script told : List (List (List ℕ))) → AllByRecursion Stands script → AreRows told → dimacs.rows_of (text_of script ++ (codes "history\n" ++ text_of told)) ≡ script ++ (codes "history" ∷ []) ∷ told
lines-again script told h k =
    ap dimacs.rows_of (sym (flat_map-append line_of script ((codes "history" ∷ []) ∷ told)))
    ∙ rows_again (script ++ (codes "history" ∷ []) ∷ told) (stand-rows script ((codes "history" ∷ []) ∷ told) h (history-row, k))

pub written-is-read : WrittenIsRead
unfolding spelling history_text
written-is-read s workers events is h =
    let told : List (List (List ℕ)) = header_words (version_of events) workers ∷ map event_words events in
    let script_lines : dimacs.rows_of (spelling s) ≡ rows_of s = rows_again (rows_of s) (all (rows_of s) (jobs-stand limits [] s.jobs is)) in
    let told_lines : dimacs.rows_of (history_text workers events) ≡ told = rows_again told (histories.history-rows workers events h) in
    rows-read (spelling s ++ (codes "history\n" ++ history_text workers events)) (rows_of s) told (codes "history" ∷ []) (record { script = s; history = written_read workers events })
    (lines-again (rows_of s) told (jobs-stand limits [] s.jobs is) (histories.history-rows workers events h))
    (jobs-none s.jobs)
    refl
    (ap (λ (rs : List (List (List ℕ))). script.read_rows limits rs 0 script.unread) (sym script_lines) ∙ written-read limits s is)
    (ap history.read_rows (sym told_lines) ∙ histories.written-read workers events h)
  where
    all : (rows : List (List (List ℕ))) → AllByRecursion Stands rows → AreRows rows
    all [] k = tt
    all (row ∷ rows) k = (k.0.0, all rows k.1)
