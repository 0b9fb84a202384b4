-- What is read is spelled so: the lines that count are those of parts.
use Rattle.std.proofs.Common.{◌≡◌, ℕ, Bool, true, false, cond, not, List, [], ◌∷◌, ◌++◌, length, flat_map, codes, Option, Some, None, Result, Ok, Err, refl, sym, ap, subst, ◌∙◌, inl, inr, nat_lt, append_assoc}
use Rattle.std.specs.Str.{bytes_eq}
use Rattle.std.specs.List.{list_all}
use Rattle.std.proofs.lemmas.Bool.{ltb-true}
use Rattle.mal_base.specs.Names.{is_name}
use Rattle.mal_base.specs.Formulas.{Formulated}
use Rattle.mal_base.specs.declared.limit_kind.LimitKind.TheVariants.{Revisions}
use Rattle.mal_base.proofs.Sorting.{and-both, and-left, and-right}
use Rattle.spec_text.specs.Numbers.{number_in}
use Rattle.mal_base.specs.declared.block_fault.BlockFault.{BlockFault}
use Rattle.spec_dimacs.specs.Rows.{is_passed}
use Rattle.spec_dimacs.specs.Reading as block
use Rattle.spec_dimacs.specs.Reading.{Block, ◌>>=◌, after_rows}
use Rattle.mal_base.specs.declared.line_fault.LineFault.{LineFault}
use Rattle.mal_base.specs.declared.line_fault.LineFault.TheVariants.{BadLine, Limit}
use Rattle.mal_base.specs.declared.limits.Limits.{Limits}
use Rattle.spec_script.specs.Assumptions.{assumptions_in}
use Rattle.spec_script.specs.Script.{Scripted, revisions}
use Rattle.spec_script.specs.Reading.{Reading, OpenJob, in_block, named, asked, admitted, going_on, begun, with_block, with_job, with_revision, with_weight, weighed, revised, after_header, after_weight, after_assumptions, inside_block, inside_job, inside, outside, after_tenant, of_tenant, after_job, after_end, after_counted, after_row, unended, at_end}
use Rattle.spec_script.specs.Grammar.{StepLines, Revision, Weight, Part, Tenant, Job, step_lines, job_lines, part_lines, is_inside, StepAll, MakeAll}
use Rattle.spec_script.proofs.Inversions.{bind_ok, in_block_ok, chosen, passed, same_bytes, ok_is, named_opened, admitted_is, revised_is}
use Rattle.spec_script.proofs.AssumedForms.{read-assumes}
use Rattle.spec_script.proofs.Words.{read-admits, read-asks, read-names, read-room, read-weighs}

-- the lines that are left are those of parts, which make these jobs
pub record Outside (limits : Limits) (rows : List (List (List ℕ))) (s : Reading) (r : Scripted) : Type 0 where
  pub parts : List Part
  pub after : Reading
  pub lines : rows ≡ flat_map part_lines parts
  pub made : MakeAll limits s parts after
  pub jobs : r.jobs ≡ after.jobs

-- the lines that are left are those of steps of this job, of its end and of parts
pub record InJob (limits : Limits) (rows : List (List (List ℕ))) (s : Reading) (o : OpenJob) (r : Scripted) : Type 0 where
  pub steps : List StepLines
  pub ended : OpenJob
  pub rest : List (List (List ℕ))
  pub lines : rows ≡ job_lines steps ++ rest
  pub stepped : StepAll limits o steps ended
  pub outside : Outside limits rest (with_job s ended.job) r

-- the lines that are left are those of this block, of its assumptions, and of the job
pub record InBlock (limits : Limits) (rows : List (List (List ℕ))) (s : Reading) (o : OpenJob) (b : Block) (r : Scripted) : Type 0 where
  pub body : List (List (List ℕ))
  pub words : List (List ℕ)
  pub rest : List (List (List ℕ))
  pub formula : Formulated
  pub assumptions : List ℕ
  pub next : OpenJob
  pub lines : rows ≡ body ++ (codes "a" ∷ words) ∷ rest
  pub inside : list_all is_inside body ≡ true
  pub spelled : (after_rows body b >>= block.ended) ≡ Ok formula
  pub assumed : assumptions_in formula.variables words ≡ Ok assumptions
  pub revised : revised o formula assumptions ≡ Ok next
  pub job : InJob limits rest s next r

abbrev pub InOpened : Limits → List (List (List ℕ)) → Reading → OpenJob → Option Block → Scripted → Type 0
InOpened limits rows s o None r = InJob limits rows s o r
InOpened limits rows s o (Some b) r = InBlock limits rows s o b r

abbrev pub Parsed : Limits → List (List (List ℕ)) → Reading → Option OpenJob → Scripted → Type 0
Parsed limits rows s None r = Outside limits rows s r
Parsed limits rows s (Some o) r = InOpened limits rows s o o.block r

-- the reading of lines that count, without their numbers
abbrev pub run : Limits → List (List (List ℕ)) → Reading → Result Scripted LineFault
run limits [] s = at_end s.opened s.jobs
run limits (row ∷ rows) s = after_row limits row s >>= run limits rows

-- ---- the end

no_end : (b : Option Block) (r : Scripted) → unended b ≡ Ok r → ⊥
no_end None r e = absurd (cc)
no_end (Some b) r e = let h = bind_ok (in_block (block.ended b)) (λ f. Err BadLine) r e in let k = h.2 in absurd (cc)

end-parsed : (limits : Limits) (s : Reading) (opened : Option OpenJob) (r : Scripted) → at_end opened s.jobs ≡ Ok r → Parsed limits [] s opened r
end-parsed limits s None r e = let h : record { jobs = s.jobs } ≡ r = ok_is (record { jobs = s.jobs }) r e in record { parts = []; after = s; lines = refl; made = refl; jobs = sym (ap (λ (x : Scripted). x.jobs) h) }
end-parsed limits s (Some o) r e = absurd (no_end o.block r e)

-- ---- outside a job

tenant-parsed : (limits : Limits) (others : List (List ℕ)) (rows : List (List (List ℕ))) (s t : Reading) (r : Scripted) → s.opened ≡ None → after_tenant limits others s ≡ Ok t → Parsed limits rows t t.opened r → Outside limits ((codes "t" ∷ others) ∷ rows) s r
tenant-parsed limits [] rows s t r none e rest = absurd (cc)
tenant-parsed limits (name ∷ (word ∷ words)) rows s t r none e rest = absurd (cc)
tenant-parsed limits (name ∷ []) rows s t r none e rest =
    let h = passed (is_name name) (named limits name s) BadLine t e in
    let closed : t.opened ≡ None = named_opened limits name s t h.1 ∙ none in
    let out : Outside limits rows t r = subst (λ (o : Option OpenJob). Parsed limits rows t o r) closed rest in
    record { parts = Tenant name ∷ out.parts; after = out.after; lines = ap (λ (x : List (List (List ℕ))). (codes "t" ∷ name ∷ []) ∷ x) out.lines; made = (t, read-names limits name s t h.0 h.1, out.made); jobs = out.jobs }

owned-parsed : (limits : Limits) (tenant : Option (List ℕ)) (name p d k : List ℕ) (q : List (List ℕ)) (rows : List (List (List ℕ))) (s t : Reading) (r : Scripted) → s.tenant ≡ tenant → of_tenant limits tenant name p d k q s ≡ Ok t → Parsed limits rows t t.opened r → Outside limits ((codes "j" ∷ name ∷ p ∷ d ∷ k ∷ q) ∷ rows) s r
owned-parsed limits None name p d k q rows s t r own e rest = absurd (cc)
owned-parsed limits (Some tenant) name p d k q rows s t r own e rest =
    let h = passed (is_name name) (asked p d k q >>= admitted limits tenant name s) BadLine t e in
    let a = bind_ok (asked p d k q) (admitted limits tenant name s) t h.1 in
    let is : going_on s (begun tenant name a.0) ≡ t = admitted_is limits tenant name s a.0 t a.2 in
    let job : InJob limits rows (going_on s (begun tenant name a.0)) (begun tenant name a.0) r = subst (λ (x : Reading). Parsed limits rows x x.opened r) (sym is) rest in
    record {
      parts = Job (record { name = name; priority = p; demand = d; slices = k; profile = q; steps = job.steps }) ∷ job.outside.parts;
      after = job.outside.after;
      lines = ap (λ (x : List (List (List ℕ))). (codes "j" ∷ name ∷ p ∷ d ∷ k ∷ q) ∷ x) (job.lines ∙ ap (λ (x : List (List (List ℕ))). job_lines job.steps ++ x) job.outside.lines);
      made = (with_job s job.ended.job, record { tenant = tenant; ask = a.0; ended = job.ended; owned = own; name = h.0; asks = read-asks p d k q a.0 a.1; admitted = read-admits limits tenant name s a.0 t a.2; stepped = job.stepped; left = refl }, job.outside.made);
      jobs = job.outside.jobs;
    }

job-parsed : (limits : Limits) (others : List (List ℕ)) (rows : List (List (List ℕ))) (s t : Reading) (r : Scripted) → after_job limits others s ≡ Ok t → Parsed limits rows t t.opened r → Outside limits ((codes "j" ∷ others) ∷ rows) s r
job-parsed limits [] rows s t r e rest = absurd (cc)
job-parsed limits (a ∷ []) rows s t r e rest = absurd (cc)
job-parsed limits (a ∷ b ∷ []) rows s t r e rest = absurd (cc)
job-parsed limits (a ∷ b ∷ c ∷ []) rows s t r e rest = absurd (cc)
job-parsed limits (a ∷ b ∷ c ∷ d ∷ q) rows s t r e rest = owned-parsed limits s.tenant a b c d q rows s t r refl e rest

outside-parsed : (limits : Limits) (first : List ℕ) (others : List (List ℕ)) (rows : List (List (List ℕ))) (s t : Reading) (r : Scripted) → s.opened ≡ None → outside limits first others s ≡ Ok t → Parsed limits rows t t.opened r → Outside limits ((first ∷ others) ∷ rows) s r
outside-parsed limits first others rows s t r none e rest = elim (chosen (bytes_eq first (codes "t")) (after_tenant limits others s) (cond (bytes_eq first (codes "j")) (after_job limits others s) (Err BadLine)) (Ok t) e) [
  | inl h ↦ subst (λ (x : List ℕ). Outside limits ((x ∷ others) ∷ rows) s r) (sym (same_bytes first (codes "t") h.0)) (tenant-parsed limits others rows s t r none h.1 rest)
  | inr h ↦ let k = passed (bytes_eq first (codes "j")) (after_job limits others s) BadLine t h.1 in
      subst (λ (x : List ℕ). Outside limits ((x ∷ others) ∷ rows) s r) (sym (same_bytes first (codes "j") k.0)) (job-parsed limits others rows s t r k.1 rest)
]

-- ---- in a job

pub regroup : (body : List (List (List ℕ))) (a : List (List ℕ)) (flat end rest : List (List (List ℕ))) → (((body ++ a ∷ []) ++ flat) ++ end) ++ rest ≡ body ++ a ∷ ((flat ++ end) ++ rest)
regroup body a flat end rest = simp append_assoc

header-parsed : (limits : Limits) (others : List (List ℕ)) (rows : List (List (List ℕ))) (s t : Reading) (o : OpenJob) (r : Scripted) → (after_header limits (codes "p" ∷ others) o >>= λ after. Ok (going_on s after)) ≡ Ok t → Parsed limits rows t t.opened r → InJob limits ((codes "p" ∷ others) ∷ rows) s o r
header-parsed limits others rows s t o r e rest =
    let a = bind_ok (after_header limits (codes "p" ∷ others) o) (λ after. Ok (going_on s after)) t e in
    let c = passed (nat_lt (length (revisions o.job)) limits.revisions) (in_block (block.opened (codes "p" ∷ others)) >>= (λ b. Ok (with_block o b))) (Limit Revisions) a.0 a.1 in
    let d = bind_ok (in_block (block.opened (codes "p" ∷ others))) (λ b. Ok (with_block o b)) a.0 c.1 in
    let is : going_on s (with_block o d.0) ≡ t = ap (λ (x : OpenJob). going_on s x) (ok_is (with_block o d.0) a.0 d.2) ∙ ok_is (going_on s a.0) t a.2 in
    let left : InBlock limits rows (going_on s (with_block o d.0)) (with_block o d.0) d.0 r = subst (λ (x : Reading). Parsed limits rows x x.opened r) (sym is) rest in
    let opened : block.opened (codes "p" ∷ others) ≡ Ok d.0 = in_block_ok (block.opened (codes "p" ∷ others)) d.0 d.1 in
    record {
      steps = Revision (record { header = others; body = left.body; assumed = left.words }) ∷ left.job.steps;
      ended = left.job.ended;
      rest = left.job.rest;
      lines = ap (λ (x : List (List (List ℕ))). (codes "p" ∷ others) ∷ x) (left.lines ∙ ap (λ (x : List (List (List ℕ))). left.body ++ (codes "a" ∷ left.words) ∷ x) left.job.lines ∙ sym (regroup left.body (codes "a" ∷ left.words) (flat_map step_lines left.job.steps) ((codes "e" ∷ []) ∷ []) left.job.rest));
      stepped = (left.next, record { formula = left.formula; assumptions = left.assumptions; room = ltb-true (length (revisions o.job)) limits.revisions c.0; inside = left.inside; spelled = ap (λ (x : Result Block BlockFault). x >>= λ b. after_rows left.body b >>= block.ended) opened ∙ left.spelled; assumed = read-assumes left.formula.variables left.words left.assumptions left.assumed; fits = read-room o left.formula left.assumptions left.next left.revised; revised = sym (revised_is o left.formula left.assumptions left.next left.revised) }, left.job.stepped);
      outside = left.job.outside;
    }

weight-parsed : (limits : Limits) (others : List (List ℕ)) (rows : List (List (List ℕ))) (s t : Reading) (o : OpenJob) (r : Scripted) → (after_weight others o >>= λ after. Ok (going_on s after)) ≡ Ok t → Parsed limits rows t t.opened r → InJob limits ((codes "q" ∷ others) ∷ rows) s o r
weight-parsed limits [] rows s t o r e rest = absurd (cc)
weight-parsed limits (p ∷ []) rows s t o r e rest = absurd (cc)
weight-parsed limits (p ∷ d ∷ word ∷ words) rows s t o r e rest = absurd (cc)
weight-parsed limits (p ∷ d ∷ []) rows s t o r e rest =
    let a = bind_ok (after_weight (p ∷ d ∷ []) o) (λ after. Ok (going_on s after)) t e in
    let c = bind_ok (weighed p d) (λ w. Ok (with_weight o w)) a.0 a.1 in
    let is : going_on s (with_weight o c.0) ≡ t = ap (λ (x : OpenJob). going_on s x) (ok_is (with_weight o c.0) a.0 c.2) ∙ ok_is (going_on s a.0) t a.2 in
    let left : InJob limits rows (going_on s (with_weight o c.0)) (with_weight o c.0) r = subst (λ (x : Reading). Parsed limits rows x x.opened r) (sym is) rest in
    record {
      steps = Weight p d ∷ left.steps;
      ended = left.ended;
      rest = left.rest;
      lines = ap (λ (x : List (List (List ℕ))). (codes "q" ∷ p ∷ d ∷ []) ∷ x) left.lines;
      stepped = (with_weight o c.0, record { weight = c.0; weighs = read-weighs p d c.0 c.1; reasked = refl }, left.stepped);
      outside = left.outside;
    }

end-of-job : (limits : Limits) (others : List (List ℕ)) (rows : List (List (List ℕ))) (s t : Reading) (o : OpenJob) (r : Scripted) → after_end others o s ≡ Ok t → Parsed limits rows t t.opened r → InJob limits ((codes "e" ∷ others) ∷ rows) s o r
end-of-job limits (word ∷ words) rows s t o r e rest = absurd (cc)
end-of-job limits [] rows s t o r e rest =
    let is : with_job s o.job ≡ t = ok_is (with_job s o.job) t e in
    record { steps = []; ended = o; rest = rows; lines = refl; stepped = refl; outside = subst (λ (x : Reading). Parsed limits rows x x.opened r) (sym is) rest }

without-header : (limits : Limits) (first : List ℕ) (others : List (List ℕ)) (rows : List (List (List ℕ))) (s t : Reading) (o : OpenJob) (r : Scripted) → cond (bytes_eq first (codes "q")) (after_weight others o >>= (λ after. Ok (going_on s after))) (cond (bytes_eq first (codes "e")) (after_end others o s) (Err BadLine)) ≡ Ok t → Parsed limits rows t t.opened r → InJob limits ((first ∷ others) ∷ rows) s o r
without-header limits first others rows s t o r e rest = elim (chosen (bytes_eq first (codes "q")) (after_weight others o >>= (λ after. Ok (going_on s after))) (cond (bytes_eq first (codes "e")) (after_end others o s) (Err BadLine)) (Ok t) e) [
  | inl h ↦ subst (λ (x : List ℕ). InJob limits ((x ∷ others) ∷ rows) s o r) (sym (same_bytes first (codes "q") h.0)) (weight-parsed limits others rows s t o r h.1 rest)
  | inr h ↦
      let k = passed (bytes_eq first (codes "e")) (after_end others o s) BadLine t h.1 in
      subst (λ (x : List ℕ). InJob limits ((x ∷ others) ∷ rows) s o r) (sym (same_bytes first (codes "e") k.0)) (end-of-job limits others rows s t o r k.1 rest)
]

job-goes-on : (limits : Limits) (first : List ℕ) (others : List (List ℕ)) (rows : List (List (List ℕ))) (s t : Reading) (o : OpenJob) (r : Scripted) → inside_job limits first others o s ≡ Ok t → Parsed limits rows t t.opened r → InJob limits ((first ∷ others) ∷ rows) s o r
job-goes-on limits first others rows s t o r e rest = elim (chosen (bytes_eq first (codes "p")) (after_header limits (first ∷ others) o >>= (λ after. Ok (going_on s after))) (cond (bytes_eq first (codes "q")) (after_weight others o >>= (λ after. Ok (going_on s after))) (cond (bytes_eq first (codes "e")) (after_end others o s) (Err BadLine))) (Ok t) e) [
  | inl h ↦
      let same : first ≡ codes "p" = same_bytes first (codes "p") h.0 in
      let k : (after_header limits (codes "p" ∷ others) o >>= λ after. Ok (going_on s after)) ≡ Ok t = subst (λ (x : List ℕ). (after_header limits (x ∷ others) o >>= λ after. Ok (going_on s after)) ≡ Ok t) same h.1 in
      subst (λ (x : List ℕ). InJob limits ((x ∷ others) ∷ rows) s o r) (sym same) (header-parsed limits others rows s t o r k rest)
  | inr h ↦ without-header limits first others rows s t o r h.1 rest
]

-- ---- in a block

block-ended : (limits : Limits) (others : List (List ℕ)) (rows : List (List (List ℕ))) (s t : Reading) (o : OpenJob) (b : Block) (r : Scripted) → (after_assumptions others o b >>= λ after. Ok (going_on s after)) ≡ Ok t → Parsed limits rows t t.opened r → InBlock limits ((codes "a" ∷ others) ∷ rows) s o b r
block-ended limits others rows s t o b r e rest =
    let a = bind_ok (after_assumptions others o b) (λ after. Ok (going_on s after)) t e in
    let c = bind_ok (in_block (block.ended b)) (λ f. assumptions_in f.variables others >>= revised o f) a.0 a.1 in
    let d = bind_ok (assumptions_in c.0.variables others) (revised o c.0) a.0 c.2 in
    let next : with_revision o c.0 d.0 ≡ a.0 = revised_is o c.0 d.0 a.0 d.2 in
    let is : going_on s (with_revision o c.0 d.0) ≡ t = ap (λ (x : OpenJob). going_on s x) next ∙ ok_is (going_on s a.0) t a.2 in
    let job : InJob limits rows (going_on s (with_revision o c.0 d.0)) (with_revision o c.0 d.0) r = subst (λ (x : Reading). Parsed limits rows x x.opened r) (sym is) rest in
    record {
      body = [];
      words = others;
      rest = rows;
      formula = c.0;
      assumptions = d.0;
      next = with_revision o c.0 d.0;
      lines = refl;
      inside = refl;
      spelled = in_block_ok (block.ended b) c.0 c.1;
      assumed = d.1;
      revised = d.2 ∙ ap (λ (x : OpenJob). Ok x) (sym next);
      job = record { steps = job.steps; ended = job.ended; rest = job.rest; lines = job.lines; stepped = job.stepped; outside = job.outside };
    }

block-goes-on : (limits : Limits) (first : List ℕ) (others : List (List ℕ)) (rows : List (List (List ℕ))) (s t : Reading) (o : OpenJob) (b : Block) (r : Scripted) → is_passed (first ∷ others) ≡ false → bytes_eq first (codes "a") ≡ false
    → ((in_block (block.after_row (first ∷ others) b) >>= λ after. Ok (with_block o after)) >>= λ after. Ok (going_on s after)) ≡ Ok t → Parsed limits rows t t.opened r → InBlock limits ((first ∷ others) ∷ rows) s o b r
block-goes-on limits first others rows s t o b r counts other e rest =
    let a = bind_ok (in_block (block.after_row (first ∷ others) b) >>= λ after. Ok (with_block o after)) (λ after. Ok (going_on s after)) t e in
    let c = bind_ok (in_block (block.after_row (first ∷ others) b)) (λ after. Ok (with_block o after)) a.0 a.1 in
    let is : going_on s (with_block o c.0) ≡ t = ap (λ (x : OpenJob). going_on s x) (ok_is (with_block o c.0) a.0 c.2) ∙ ok_is (going_on s a.0) t a.2 in
    let left : InBlock limits rows (going_on s (with_block o c.0)) (with_block o c.0) c.0 r = subst (λ (x : Reading). Parsed limits rows x x.opened r) (sym is) rest in
    let after : block.after_row (first ∷ others) b ≡ Ok c.0 = in_block_ok (block.after_row (first ∷ others) b) c.0 c.1 in
    let test : is_inside (first ∷ others) ≡ true = rw (counts, other) refl in
    record {
      body = (first ∷ others) ∷ left.body;
      words = left.words;
      rest = left.rest;
      formula = left.formula;
      assumptions = left.assumptions;
      next = left.next;
      lines = ap (λ (x : List (List (List ℕ))). (first ∷ others) ∷ x) left.lines;
      inside = and-both _ _ test left.inside;
      spelled = ap (λ (x : Result Block BlockFault). (x >>= after_rows left.body) >>= block.ended) after ∙ left.spelled;
      assumed = left.assumed;
      revised = left.revised;
      job = record { steps = left.job.steps; ended = left.job.ended; rest = left.job.rest; lines = left.job.lines; stepped = left.job.stepped; outside = left.job.outside };
    }

block-parsed : (limits : Limits) (first : List ℕ) (others : List (List ℕ)) (rows : List (List (List ℕ))) (s t : Reading) (o : OpenJob) (b : Block) (r : Scripted) → is_passed (first ∷ others) ≡ false
    → (inside_block first others o b >>= λ after. Ok (going_on s after)) ≡ Ok t → Parsed limits rows t t.opened r → InBlock limits ((first ∷ others) ∷ rows) s o b r
block-parsed limits first others rows s t o b r counts e rest = by_test (bytes_eq first (codes "a")) refl e
  where
    by_test : (a : Bool) → bytes_eq first (codes "a") ≡ a → (cond a (after_assumptions others o b) (in_block (block.after_row (first ∷ others) b) >>= λ after. Ok (with_block o after)) >>= λ after. Ok (going_on s after)) ≡ Ok t → InBlock limits ((first ∷ others) ∷ rows) s o b r
    by_test true p h = subst (λ (x : List ℕ). InBlock limits ((x ∷ others) ∷ rows) s o b r) (sym (same_bytes first (codes "a") p)) (block-ended limits others rows s t o b r h rest)
    by_test false p h = block-goes-on limits first others rows s t o b r counts p h rest

-- ---- a line, and the lines

opened-parsed : (limits : Limits) (first : List ℕ) (others : List (List ℕ)) (rows : List (List (List ℕ))) (s t : Reading) (o : OpenJob) (b : Option Block) (r : Scripted) → is_passed (first ∷ others) ≡ false
    → inside limits first others o b s ≡ Ok t → Parsed limits rows t t.opened r → InOpened limits ((first ∷ others) ∷ rows) s o b r
opened-parsed limits first others rows s t o None r counts e rest = job-goes-on limits first others rows s t o r e rest
opened-parsed limits first others rows s t o (Some b) r counts e rest = block-parsed limits first others rows s t o b r counts e rest

line-parsed : (limits : Limits) (first : List ℕ) (others : List (List ℕ)) (rows : List (List (List ℕ))) (s t : Reading) (opened : Option OpenJob) (r : Scripted) → s.opened ≡ opened → is_passed (first ∷ others) ≡ false
    → after_counted limits first others opened s ≡ Ok t → Parsed limits rows t t.opened r → Parsed limits ((first ∷ others) ∷ rows) s opened r
line-parsed limits first others rows s t None r is counts e rest = outside-parsed limits first others rows s t r is e rest
line-parsed limits first others rows s t (Some o) r is counts e rest = opened-parsed limits first others rows s t o o.block r counts e rest

-- each line counts
abbrev pub counted : List (List (List ℕ)) → Bool
counted rows = list_all (λ row. not (is_passed row)) rows

pub not_true : (b : Bool) → not b ≡ true → b ≡ false
not_true true e = absurd (cc)
not_true false e = refl

-- a line that counts is read as such
counted-row : (limits : Limits) (first : List ℕ) (others : List (List ℕ)) (s : Reading) → is_passed (first ∷ others) ≡ false → after_row limits (first ∷ others) s ≡ after_counted limits first others s.opened s
counted-row limits first others s e = ap (λ (b : Bool). cond b (Ok s) (after_counted limits first others s.opened s)) e

pub parsed : (limits : Limits) (rows : List (List (List ℕ))) (s : Reading) (r : Scripted) → counted rows ≡ true → run limits rows s ≡ Ok r → Parsed limits rows s s.opened r
parsed limits [] s r counts e = end-parsed limits s s.opened r e
parsed limits ([] ∷ rows) s r counts e = absurd (cc)
parsed limits ((first ∷ others) ∷ rows) s r counts e =
    let own : is_passed (first ∷ others) ≡ false = not_true (is_passed (first ∷ others)) (and-left _ _ counts) in
    let a = bind_ok (after_row limits (first ∷ others) s) (run limits rows) r e in
    line-parsed limits first others rows s a.0 s.opened r refl own (sym (counted-row limits first others s own) ∙ a.1) (parsed limits rows a.0 r (and-right (not (is_passed (first ∷ others))) _ counts) a.2)
