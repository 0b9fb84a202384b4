-- What is spelled is read, and what is read is spelled.
use Rattle.std.proofs.Common.{◌≡◌, ℕ, ◌<◌, suc, max, Bool, true, false, cond, not, List, [], ◌∷◌, ◌++◌, length, filter, flat_map, codes, Option, None, Result, Ok, Err, refl, sym, ap, ◌∙◌, append_assoc}
use Rattle.std.specs.Str.{bytes_eq}
use Rattle.std.specs.List.{list_all}
use Rattle.std.proofs.lemmas.Bool.{lt-ltb}
use Rattle.mal_base.specs.Asks.{Terms, Weighed}
use Rattle.mal_base.specs.Formulas.{Formulated}
use Rattle.mal_base.specs.Names.{is_name}
use Rattle.mal_base.specs.declared.limit_kind.LimitKind.TheVariants.{Revisions}
use Rattle.mal_base.proofs.Sorting.{and-both, and-left, and-right}
use Rattle.spec_text.specs.Numbers.{number_in}
use Rattle.mal_base.specs.declared.block_fault.BlockFault.{BlockFault}
use Rattle.spec_dimacs.specs.Rows.{is_passed, rows_of, counted_rows}
use Rattle.spec_dimacs.specs.Reading as block
use Rattle.spec_dimacs.specs.Reading.{Block, ◌>>=◌, after_rows}
use Rattle.mal_base.specs.declared.line_fault.LineFault.{LineFault}
use Rattle.mal_base.specs.declared.line_fault.LineFault.TheVariants.{BadLine, Limit}
use Rattle.mal_base.specs.declared.limits.Limits.{Limits}
use Rattle.spec_script.specs.Assumptions.{assumptions_in}
use Rattle.spec_script.specs.Script.{ScriptedJob, Scripted, revisions}
use Rattle.spec_script.specs.Reading.{Reading, OpenJob, unread, in_block, named, asked, admitted, going_on, begun, with_block, with_job, revised, after_assumptions, inside_block, inside, with_weight, of_tenant, after_counted, after_row, at_end, on_line, read_rows, read_text}
use Rattle.spec_script.specs.Grammar.{RevisionLines, StepLines, Revision, Weight, JobLines, Part, Tenant, Job, revision_lines, step_lines, job_lines, part_lines, is_inside, Revises, Reasks, Steps, StepAll, Runs, MakeAll, Spells}
use Rattle.spec_script.specs.Laws.{SpelledIsRead}
use Rattle.spec_script.proofs.Inversions.{bind_ok, on_line_ok, ok_is}
use Rattle.spec_script.proofs.Assumed.{assumes-read}
use Rattle.spec_script.proofs.Words.{admits-read, asks-read, names-read, room-read, weighs-read}
use Rattle.spec_script.proofs.Parsing.{run, counted, parsed, Outside, not_true}

-- ---- lines and their numbers

passed-row : (limits : Limits) (row : List (List ℕ)) (s : Reading) → is_passed row ≡ true → after_row limits row s ≡ Ok s
passed-row limits [] s e = refl
passed-row limits (first ∷ others) s e = ap (λ (b : Bool). cond b (Ok s) (after_counted limits first others s.opened s)) e

numbers-away : (limits : Limits) (rows : List (List (List ℕ))) (line : ℕ) (s : Reading) (r : Scripted) → read_rows limits rows line s ≡ Ok r → run limits (filter (λ row. not (is_passed row)) rows) s ≡ Ok r
numbers-away limits [] line s r e = on_line_ok (max 1 line) (at_end s.opened s.jobs) r e
numbers-away limits (row ∷ rows) line s r e =
    let a = bind_ok (on_line (suc line) (after_row limits row s)) (read_rows limits rows (suc line)) r e in
    let step : after_row limits row s ≡ Ok a.0 = on_line_ok (suc line) (after_row limits row s) a.0 a.1 in
    by_test (is_passed row) refl a.0 step (numbers-away limits rows (suc line) a.0 r a.2)
  where
    by_test : (b : Bool) → is_passed row ≡ b → (t : Reading) → after_row limits row s ≡ Ok t → run limits (filter (λ row. not (is_passed row)) rows) t ≡ Ok r → run limits (cond (not b) (row ∷ filter (λ row. not (is_passed row)) rows) (filter (λ row. not (is_passed row)) rows)) s ≡ Ok r
    by_test true p t step rest = let same : s ≡ t = ok_is s t (sym (passed-row limits row s p) ∙ step) in rw same rest
    by_test false p t step rest = ap (λ (x : Result Reading LineFault). x >>= run limits (filter (λ row. not (is_passed row)) rows)) step ∙ rest

numbers-back : (limits : Limits) (rows : List (List (List ℕ))) (line : ℕ) (s : Reading) (r : Scripted) → run limits (filter (λ row. not (is_passed row)) rows) s ≡ Ok r → read_rows limits rows line s ≡ Ok r
numbers-back limits [] line s r e = ap (on_line (max 1 line)) e
numbers-back limits (row ∷ rows) line s r e = by_test (λ t h. numbers-back limits rows (suc line) t r h) (is_passed row) refl e
  where
    by_test : ((t : Reading) → run limits (filter (λ row. not (is_passed row)) rows) t ≡ Ok r → read_rows limits rows (suc line) t ≡ Ok r) → (b : Bool) → is_passed row ≡ b → run limits (cond (not b) (row ∷ filter (λ row. not (is_passed row)) rows) (filter (λ row. not (is_passed row)) rows)) s ≡ Ok r → read_rows limits (row ∷ rows) line s ≡ Ok r
    by_test ih true p h = ap (λ (x : Result Reading LineFault). on_line (suc line) x >>= read_rows limits rows (suc line)) (passed-row limits row s p) ∙ ih s h
    by_test ih false p h =
        let a = bind_ok (after_row limits row s) (run limits (filter (λ row. not (is_passed row)) rows)) r h in
        ap (λ (x : Result Reading LineFault). on_line (suc line) x >>= read_rows limits rows (suc line)) a.1 ∙ ih a.0 a.2

-- the lines that are left count
filter-counted : (rows : List (List (List ℕ))) → counted (filter (λ row. not (is_passed row)) rows) ≡ true
filter-counted [] = refl
filter-counted (row ∷ rows) = by_test (filter-counted rows) (not (is_passed row)) refl
  where
    by_test : counted (filter (λ row. not (is_passed row)) rows) ≡ true → (b : Bool) → not (is_passed row) ≡ b → counted (cond b (row ∷ filter (λ row. not (is_passed row)) rows) (filter (λ row. not (is_passed row)) rows)) ≡ true
    by_test ih true p = and-both _ _ p ih
    by_test ih false p = ih

pub read-spelled : (limits : Limits) (text : List ℕ) (s : Scripted) → read_text limits text ≡ Ok s → Spells limits text s
read-spelled limits text s e =
    let out : Outside limits (counted_rows text) unread s = parsed limits (counted_rows text) unread s (filter-counted (rows_of text)) (numbers-away limits (rows_of text) 0 unread s e) in
    record { parts = out.parts; after = out.after; lines = out.lines; made = out.made; jobs = out.jobs }

-- ---- what is spelled is read

-- the lines of a block after its header
run-body : (limits : Limits) (body rest : List (List (List ℕ))) (s : Reading) (o : OpenJob) (b e : Block) → list_all is_inside body ≡ true → after_rows body b ≡ Ok e → run limits (body ++ rest) (going_on s (with_block o b)) ≡ run limits rest (going_on s (with_block o e))
run-body limits [] rest s o b e inside h = ap (λ (x : Block). run limits rest (going_on s (with_block o x))) (ok_is b e h)
run-body limits ([] ∷ body) rest s o b e inside h = absurd (cc)
run-body limits ((first ∷ others) ∷ body) rest s o b e inside h =
    let own : is_inside (first ∷ others) ≡ true = and-left _ _ inside in
    let counts : is_passed (first ∷ others) ≡ false = not_true (is_passed (first ∷ others)) (and-left _ _ own) in
    let other : bytes_eq first (codes "a") ≡ false = not_true (bytes_eq first (codes "a")) (and-right (not (is_passed (first ∷ others))) _ own) in
    let a = bind_ok (block.after_row (first ∷ others) b) (after_rows body) e h in
    let step : after_row limits (first ∷ others) (going_on s (with_block o b)) ≡ Ok (going_on s (with_block o a.0)) = one counts other a.0 a.1 in
    ap (λ (x : Result Reading LineFault). x >>= run limits (body ++ rest)) step ∙ run-body limits body rest s o a.0 e (and-right (is_inside (first ∷ others)) _ inside) a.2
  where
    one : is_passed (first ∷ others) ≡ false → bytes_eq first (codes "a") ≡ false → (c : Block) → block.after_row (first ∷ others) b ≡ Ok c → after_row limits (first ∷ others) (going_on s (with_block o b)) ≡ Ok (going_on s (with_block o c))
    one counts other c h =
        ap (λ (x : Bool). cond x (Ok (going_on s (with_block o b))) (inside_block first others (with_block o b) b >>= λ after. Ok (going_on (going_on s (with_block o b)) after))) counts
        ∙ ap (λ (x : Bool). cond x (after_assumptions others (with_block o b) b) (in_block (block.after_row (first ∷ others) b) >>= λ after. Ok (with_block (with_block o b) after)) >>= λ after. Ok (going_on (going_on s (with_block o b)) after)) other
        ∙ ap (λ (x : Result Block BlockFault). (in_block x >>= λ after. Ok (with_block (with_block o b) after)) >>= λ after. Ok (going_on (going_on s (with_block o b)) after)) h

-- the line of assumptions
run-assumed : (limits : Limits) (words : List (List ℕ)) (s : Reading) (o next : OpenJob) (e : Block) (f : Formulated) (assumptions : List ℕ) → block.ended e ≡ Ok f → assumptions_in f.variables words ≡ Ok assumptions → revised o f assumptions ≡ Ok next
    → after_row limits (codes "a" ∷ words) (going_on s (with_block o e)) ≡ Ok (going_on s next)
run-assumed limits words s o next e f assumptions h k l =
    ap (λ (x : Result Formulated BlockFault). (in_block x >>= λ f. assumptions_in f.variables words >>= revised o f) >>= λ after. Ok (going_on s after)) h
    ∙ ap (λ (x : Result (List ℕ) LineFault). (x >>= revised o f) >>= λ after. Ok (going_on s after)) k
    ∙ ap (λ (x : Result OpenJob LineFault). x >>= λ after. Ok (going_on s after)) l

-- the line of a header
run-header : (limits : Limits) (header : List (List ℕ)) (s : Reading) (o : OpenJob) (b : Block) → o.block ≡ None → length (revisions o.job) < limits.revisions → block.opened (codes "p" ∷ header) ≡ Ok b
    → after_row limits (codes "p" ∷ header) (going_on s o) ≡ Ok (going_on s (with_block o b))
run-header limits header s o b none room h =
    ap (λ (x : Option Block). inside limits (codes "p") header o x (going_on s o)) none
    ∙ ap (λ (x : Bool). cond x (in_block (block.opened (codes "p" ∷ header)) >>= (λ b. Ok (with_block o b))) (Err (Limit Revisions)) >>= λ after. Ok (going_on s after)) (lt-ltb (length (revisions o.job)) limits.revisions room)
    ∙ ap (λ (x : Result Block BlockFault). (in_block x >>= (λ b. Ok (with_block o b))) >>= λ after. Ok (going_on s after)) h

run-revision : (limits : Limits) (r : RevisionLines) (rest : List (List (List ℕ))) (s : Reading) (o next : OpenJob) → o.block ≡ None → Revises limits o r next
    → run limits (revision_lines r ++ rest) (going_on s o) ≡ run limits rest (going_on s next)
run-revision limits r rest s o next none is =
    let a = bind_ok (block.opened (codes "p" ∷ r.header)) (λ b. after_rows r.body b >>= block.ended) is.formula is.spelled in
    let c = bind_ok (after_rows r.body a.0) block.ended is.formula a.2 in
    ap (λ (x : Result Reading LineFault). x >>= run limits ((r.body ++ (codes "a" ∷ r.assumed) ∷ []) ++ rest)) (run-header limits r.header s o a.0 none is.room a.1)
    ∙ ap (λ (x : List (List (List ℕ))). run limits x (going_on s (with_block o a.0))) (append_assoc r.body ((codes "a" ∷ r.assumed) ∷ []) rest)
    ∙ run-body limits r.body ((codes "a" ∷ r.assumed) ∷ rest) s o a.0 c.0 is.inside c.1
    ∙ ap (λ (x : Result Reading LineFault). x >>= run limits rest) (run-assumed limits r.assumed s o next c.0 is.formula is.assumptions c.2 (assumes-read is.formula.variables r.assumed is.assumptions is.assumed) (room-read o is.formula is.assumptions is.fits ∙ ap (λ (x : OpenJob). Ok x) (sym is.revised)))

-- the line of a priority and a demand
run-weight : (limits : Limits) (p d : List ℕ) (s : Reading) (o next : OpenJob) → o.block ≡ None → Reasks o p d next → after_row limits (codes "q" ∷ p ∷ d ∷ []) (going_on s o) ≡ Ok (going_on s next)
run-weight limits p d s o next none is =
    ap (λ (x : Option Block). inside limits (codes "q") (p ∷ d ∷ []) o x (going_on s o)) none
    ∙ ap (λ (x : Result Weighed LineFault). (x >>= λ w. Ok (with_weight o w)) >>= λ after. Ok (going_on s after)) (weighs-read p d is.weight is.weighs)
    ∙ ap (λ (x : OpenJob). Ok (going_on s x)) (sym is.reasked)

-- a step, after which no block has begun
run-step : (limits : Limits) (step : StepLines) (rest : List (List (List ℕ))) (s : Reading) (o next : OpenJob) → o.block ≡ None → Steps limits o step next
    → (run limits (step_lines step ++ rest) (going_on s o) ≡ run limits rest (going_on s next)) × (next.block ≡ None)
run-step limits (Revision r) rest s o next none is = (run-revision limits r rest s o next none is, ap (λ (x : OpenJob). x.block) is.revised)
run-step limits (Weight p d) rest s o next none is = (ap (λ (x : Result Reading LineFault). x >>= run limits rest) (run-weight limits p d s o next none is), ap (λ (x : OpenJob). x.block) is.reasked)

run-steps : (limits : Limits) (steps : List StepLines) (rest : List (List (List ℕ))) (s : Reading) (o ended : OpenJob) → o.block ≡ None → StepAll limits o steps ended
    → run limits (job_lines steps ++ rest) (going_on s o) ≡ run limits rest (with_job s ended.job)
run-steps limits [] rest s o ended none is =
    ap (λ (x : Option Block). inside limits (codes "e") [] o x (going_on s o) >>= run limits rest) none
    ∙ ap (λ (x : OpenJob). run limits rest (with_job s x.job)) is
run-steps limits (step ∷ steps) rest s o ended none (next, first, others) =
    let one = run-step limits step (job_lines steps ++ rest) s o next none first in
    ap (λ (x : List (List (List ℕ))). run limits x (going_on s o)) (shape (step_lines step) (flat_map step_lines steps) ((codes "e" ∷ []) ∷ []) rest)
    ∙ one.0
    ∙ run-steps limits steps rest s next ended one.1 others
  where
    shape : (a b c d : List (List (List ℕ))) → ((a ++ b) ++ c) ++ d ≡ a ++ ((b ++ c) ++ d)
    shape a b c d = simp append_assoc

-- the first line of a job
run-job : (limits : Limits) (s : Reading) (j : JobLines) (after : Reading) → s.opened ≡ None → (is : Runs limits s j after) → after_row limits (codes "j" ∷ j.name ∷ j.priority ∷ j.demand ∷ j.slices ∷ j.profile) s ≡ Ok (going_on s (begun is.tenant j.name is.ask))
run-job limits s j after none is =
    ap (λ (x : Option OpenJob). after_counted limits (codes "j") (j.name ∷ j.priority ∷ j.demand ∷ j.slices ∷ j.profile) x s) none
    ∙ ap (λ (x : Option (List ℕ)). of_tenant limits x j.name j.priority j.demand j.slices j.profile s) is.owned
    ∙ ap (λ (x : Bool). cond x (asked j.priority j.demand j.slices j.profile >>= admitted limits is.tenant j.name s) (Err BadLine)) is.name
    ∙ ap (λ (x : Result Terms LineFault). x >>= admitted limits is.tenant j.name s) (asks-read j.priority j.demand j.slices j.profile is.ask is.asks)
    ∙ admits-read limits is.tenant j.name s is.ask is.admitted

run-tenant : (limits : Limits) (s : Reading) (name : List ℕ) (after : Reading) → s.opened ≡ None → is_name name ≡ true → named limits name s ≡ Ok after → after_row limits (codes "t" ∷ name ∷ []) s ≡ Ok after
run-tenant limits s name after none h k =
    ap (λ (x : Option OpenJob). after_counted limits (codes "t") (name ∷ []) x s) none
    ∙ ap (λ (x : Bool). cond x (named limits name s) (Err BadLine)) h
    ∙ k

run-parts : (limits : Limits) (parts : List Part) (s after : Reading) (r : Scripted) → s.opened ≡ None → MakeAll limits s parts after → r.jobs ≡ after.jobs → run limits (flat_map part_lines parts) s ≡ Ok r
run-parts limits [] s after r none is jobs =
    ap (λ (x : Option OpenJob). at_end x s.jobs) none ∙ ap (λ (x : List ScriptedJob). Ok (script x)) (ap (λ (x : Reading). x.jobs) is ∙ sym jobs)
  where
    script : List ScriptedJob → Scripted
    script x = record { jobs = x }
run-parts limits (Tenant name ∷ parts) s after r none (next, h, others) jobs =
    ap (λ (x : Result Reading LineFault). x >>= run limits (flat_map part_lines parts)) (run-tenant limits s name next none h.formed (names-read limits name s next h))
    ∙ run-parts limits parts next after r (ap (λ (x : Reading). x.opened) h.left ∙ none) others jobs
run-parts limits (Job j ∷ parts) s after r none (next, is, others) jobs =
    ap (λ (x : Result Reading LineFault). x >>= run limits (job_lines j.steps ++ flat_map part_lines parts)) (run-job limits s j next none is)
    ∙ run-steps limits j.steps (flat_map part_lines parts) s (begun is.tenant j.name is.ask) is.ended refl is.stepped
    ∙ ap (λ (x : Reading). run limits (flat_map part_lines parts) x) (sym is.left)
    ∙ run-parts limits parts next after r (ap (λ (x : Reading). x.opened) is.left) others jobs

pub spelled-read : (limits : Limits) (text : List ℕ) (s : Scripted) → Spells limits text s → read_text limits text ≡ Ok s
spelled-read limits text s is =
    numbers-back limits (rows_of text) 0 unread s (ap (λ (x : List (List (List ℕ))). run limits x unread) is.lines ∙ run-parts limits is.parts unread is.after s refl is.made is.jobs)

pub spelled_is_read : SpelledIsRead
spelled_is_read limits text s = (spelled-read limits text s, read-spelled limits text s)
