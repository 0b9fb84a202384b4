-- Replies where the log and the revisions of one machine begin with those of another.
use Rattle.std.proofs.Common.{◌≡◌, ℕ, zero, suc, ◌+◌, ◌<◌, ◌≤◌, List, ◌++◌, length, map, take, Option, Some, None, inl, inr, ◌⊎◌, refl, sym, ◌∙◌, ap, subst, arith}
use Rattle.std.specs.Prelude.{All, slice_get}
use Rattle.std.specs.Option.{option_map}
use Rattle.std.proofs.lemmas.List.{take-append-le}
use Rattle.std.proofs.lemmas.Option.{slice_get_within}
use Rattle.mal_base.specs.declared.profile.Profile.{Profile}
use Rattle.mal_base.specs.NumberedClause.{Line}
use Rattle.mal_base.specs.Literals.{negated}
use Rattle.mal_base.specs.declared.answer.Answer.{Answer}
use Rattle.mal_base.specs.declared.answer.Answer.TheVariants.{Satisfied, Refuted, Spent, OutOfStarts}
use Rattle.mal_revision.specs.Posted.{Posted}
use Rattle.spec_proof.specs.Log.{IsAbove, IsOrderly}
use Rattle.spec_proof.specs.Trimmed.{reached, renumbered}
use Rattle.spec_proof.specs.Among.{Among}
use Rattle.spec_proof.proofs.Among.{among-left, among-right, of-all, all-from_among}
use Rattle.spec_proof.proofs.LogLemmas.{log-orderly}
use Rattle.spec_report.specs.Replies.{Proof, reply_text}
use Rattle.spec_job.specs.SoloMachine.{SoloMachine}
use Rattle.spec_job.specs.Models.{clauses_of}
use Rattle.spec_job.specs.Proofs.{lits_at}
use Rattle.spec_job.specs.KeyedJob.{Key}
use Rattle.spec_job.specs.Replies.{body_by, reply}
use Rattle.spec_job.specs.DemandOne.{Agree}
use Rattle.spec_job.proofs.ReachedLemmas.{reached-stays, lits-found}
use Rattle.spec_job.proofs.DerivingLemmas.{IsRefuted}
use Rattle.spec_job.proofs.KeptLemmas.{MachineInvariant, kept-log}
use Rattle.spec_job.proofs.AgreeLemmas.{IsFront}

-- a goal has the same literals in two logs, and needs the same lines
record MeansSame (goal : ℕ) (xs ys : List Line) : Type 0 where
  pub lits : lits_at goal xs ≡ lits_at goal ys
  pub lines : reached goal xs ≡ reached goal ys

same-back : (goal : ℕ) (xs ys : List Line) → MeansSame goal xs ys → MeansSame goal ys xs
same-back goal xs ys h = record { lits = sym h.lits; lines = sym h.lines }

-- a goal of an answer means the same in a longer log
goal-stays : (s : SoloMachine) (r goal : ℕ) (lines : List Line) → MachineInvariant s → IsOrderly (s.log ++ lines) → slice_get s.answers r ≡ Some (Refuted goal) → MeansSame goal s.log (s.log ++ lines)
goal-stays s r goal lines h orderly e = record {
  lits = lits-found s.log before.apart goal found.line in-log found.number ∙ sym (lits-found (s.log ++ lines) orderly.apart goal found.line (among-left s.log lines found.line in-log) found.number);
  lines = sym (reached-stays goal s.log lines orderly.apart above h.derives.closed found.line in-log found.number);
}
  where
    found : IsRefuted (take (r + 1) s.revisions) s.log goal
    found = h.derives.refuted r goal e

    in-log : Among found.line s.log
    in-log = subst (λ (ls : List Line). Among found.line ls) (sym found.is) (among-left found.front found.more found.line found.among)

    before : IsOrderly s.log
    before = log-orderly (clauses_of s.revisions) s.log (kept-log s h)

    above : All IsAbove lines
    above = all-from_among IsAbove lines (λ l m. of-all IsAbove (s.log ++ lines) l orderly.above (among-right s.log lines l m))

orderly-kept : (s : SoloMachine) → MachineInvariant s → IsOrderly s.log
orderly-kept s h = log-orderly (clauses_of s.revisions) s.log (kept-log s h)

goal-front : (s t : SoloMachine) (r goal : ℕ) → MachineInvariant s → MachineInvariant t → IsFront s.log t.log → slice_get s.answers r ≡ Some (Refuted goal) → MeansSame goal s.log t.log
goal-front s t r goal h k (lines, is) e = subst (λ (ls : List Line). MeansSame goal s.log ls) (sym is) (goal-stays s r goal lines h (subst (λ (ls : List Line). IsOrderly ls) is (orderly-kept t k)) e)

goal-same : (s t : SoloMachine) (r goal : ℕ) → MachineInvariant s → MachineInvariant t → IsFront s.log t.log ⊎ IsFront t.log s.log → slice_get s.answers r ≡ Some (Refuted goal) → slice_get t.answers r ≡ Some (Refuted goal) → MeansSame goal s.log t.log
goal-same s t r goal h k (inl front) e f = goal-front s t r goal h k front e
goal-same s t r goal h k (inr front) e f = same-back goal t.log s.log (goal-front t s r goal k h front f)

proof-same : (xs ys : List ℕ) (ps rs : List Posted) (ls ms : List Line) → xs ≡ ys → ps ≡ rs → ls ≡ ms → Proof (map negated xs) (renumbered (length (clauses_of ps)) ls) ≡ Proof (map negated ys) (renumbered (length (clauses_of rs)) ms)
proof-same xs ys ps rs ls ms a b c = rw (a, b, c) refl

-- what is told of one answer
pub told-same : (s t : SoloMachine) (r : ℕ) (x : Answer) → MachineInvariant s → MachineInvariant t → IsFront s.log t.log ⊎ IsFront t.log s.log → take (r + 1) s.revisions ≡ take (r + 1) t.revisions → slice_get s.answers r ≡ Some x → slice_get t.answers r ≡ Some x → body_by s r x ≡ body_by t r x
told-same s t r (Satisfied model) h k logs front e f = refl
told-same s t r (Refuted goal) h k logs front e f =
    let same : MeansSame goal s.log t.log = goal-same s t r goal h k logs e f in
    proof-same (lits_at goal s.log) (lits_at goal t.log) (take (r + 1) s.revisions) (take (r + 1) t.revisions) (reached goal s.log) (reached goal t.log) same.lits front same.lines
told-same s t r (Spent n) h k logs front e f = refl
told-same s t r OutOfStarts h k logs front e f = refl

-- a reply tells of an answer
pub reply-at : (k : Key) (s : SoloMachine) (r : ℕ) (a : List ℕ) → reply k (suc r) s ≡ Some a → (x : Answer) × (slice_get s.answers r ≡ Some x) × (reply_text k.tenant k.job (suc r) s.ask.profile (body_by s r x) ≡ a)
reply-at k s r a e = by_answer (slice_get s.answers r) refl e
  where
    by_answer : (o : Option Answer) → slice_get s.answers r ≡ o → option_map (reply_text k.tenant k.job (suc r) s.ask.profile) (option_map (body_by s r) o) ≡ Some a → (x : Answer) × (slice_get s.answers r ≡ Some x) × (reply_text k.tenant k.job (suc r) s.ask.profile (body_by s r x) ≡ a)
    by_answer None q f = absurd (cc)
    by_answer (Some x) q f = (x, q, cc)

front-same : (s t : SoloMachine) (r : ℕ) (more : List Posted) → t.revisions ≡ s.revisions ++ more → r < length s.revisions → take (r + 1) s.revisions ≡ take (r + 1) t.revisions
front-same s t r more e low = sym (ap (λ (rs : List Posted). take (r + 1) rs) e ∙ take-append-le (r + 1) s.revisions more (omega arith))

pub replies-agree : (s t : SoloMachine) (more : List Posted) → t.revisions ≡ s.revisions ++ more → s.ask.profile ≡ t.ask.profile → MachineInvariant s → MachineInvariant t → IsFront s.log t.log ⊎ IsFront t.log s.log → Agree s.answers t.answers → (k : Key) (r : ℕ) (a b : List ℕ) → reply k r s ≡ Some a → reply k r t ≡ Some b → a ≡ b
replies-agree s t more front solvers h k logs agree key zero a b e f = absurd (cc)
replies-agree s t more front solvers h k logs agree key (suc r) a b e f = by_answers (reply-at key s r a e) (reply-at key t r b f)
  where
    by_answers : (x : Answer) × (slice_get s.answers r ≡ Some x) × (reply_text key.tenant key.job (suc r) s.ask.profile (body_by s r x) ≡ a) → (y : Answer) × (slice_get t.answers r ≡ Some y) × (reply_text key.tenant key.job (suc r) t.ask.profile (body_by t r y) ≡ b) → a ≡ b
    by_answers (x, p, i) (y, q, j) =
        let same : x ≡ y = agree r x y p q in
        let within : r < length s.answers = slice_get_within s.answers r x p in
        let order : length s.answers ≤ length s.revisions = h.solving.order in
        let told : body_by s r x ≡ body_by t r x = told-same s t r x h k logs (front-same s t r more front (omega arith)) p (subst (λ (z : Answer). slice_get t.answers r ≡ Some z) (sym same) q) in
        sym i ∙ (ap (reply_text key.tenant key.job (suc r) s.ask.profile) told ∙ (ap (λ (p : Profile). reply_text key.tenant key.job (suc r) p (body_by t r x)) solvers ∙ (ap (λ (z : Answer). reply_text key.tenant key.job (suc r) t.ask.profile (body_by t r z)) same ∙ j)))
