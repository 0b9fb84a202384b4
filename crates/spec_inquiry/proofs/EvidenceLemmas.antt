-- What is told in a legal history has its evidence.
use Rattle.std.proofs.Common.{◌≡◌, ℕ, ◌+◌, ◌-◌, ◌<◌, ◌≤◌, ◌/◌, ◌%◌, ◌==◌, nat_lt, Bool, true, false, cond, ◌&&◌, List, [], ◌∷◌, length, map, Option, Some, None, inl, inr, ◌⊎◌, refl, ap₂, subst, ◌∙◌, arith}
use Rattle.std.specs.Prelude.{All, slice_get, find, get_or}
use Rattle.std.specs.Option.{option_map, option_map_or}
use Rattle.std.proofs.lemmas.Bool.{and_from, eqb-true, eqb-false}
use Rattle.std.proofs.lemmas.List.Elements.{All-head, All-tail}
use Rattle.std.proofs.lemmas.Option.{slice_get_cases, slice_get_within}
use Rattle.mal_base.specs.Clauses.{rises, is_below}
use Rattle.mal_base.specs.Literals.{negated}
use Rattle.mal_base.specs.NumberedClause.{Line}
use Rattle.mal_base.specs.declared.answer.Answer.{Answer}
use Rattle.mal_base.specs.declared.answer.Answer.TheVariants.{Satisfied, Refuted, Spent, OutOfStarts}
use Rattle.mal_revision.specs.Posted.{Posted}
use Rattle.spec_report.specs.Replies.{ReplyBody}
use Rattle.spec_job.specs.Models.{AnswersFollow, AnswersSolve, clauses_through, variables_through}
use Rattle.spec_job.specs.Proofs.{AnswersRefute, lits_at}
use Rattle.spec_job.specs.Provenance.{ClausesAreOwn}
use Rattle.spec_job.specs.Replies.{body_by}
use Rattle.spec_job.specs.SoloMachine.{SoloMachine, solo}
use Rattle.spec_course.specs.Supported.{IsSupported}
use Rattle.spec_hall.specs.Own.{own}
use Rattle.spec_hall.proofs.RunnableLemmas.{legal-answers_follow, legal-answers_refute, legal-answers_solve, legal-clauses_own}
use Rattle.spec_inquiry.specs.Evidence.{IsEvidence}
use Rattle.spec_inquiry.specs.Laws.{LegalIsEvident}

-- negations rise as their literals do
negated-half : (l : ℕ) → negated l / 2 ≡ l / 2
negated-half l = by_sign (l % 2 == 0) refl
  where
    by_sign : (b : Bool) → (l % 2 == 0) ≡ b → cond b (l + 1) (l - 1) / 2 ≡ l / 2
    by_sign true e = let even = eqb-true (l % 2) 0 e in omega arith
    by_sign false e = let odd = eqb-false (l % 2) 0 e in omega arith

below-negated : (l : ℕ) (ls : List ℕ) → is_below (negated l) (map negated ls) ≡ is_below l ls
below-negated l [] = refl
below-negated l (m ∷ ms) = ap₂ (λ (x y : ℕ). nat_lt x y) (negated-half l) (negated-half m)

negated-rises : (ls : List ℕ) → rises (map negated ls) ≡ rises ls
negated-rises [] = refl
negated-rises (l ∷ ls) = ap₂ (λ (x y : Bool). x && y) (below-negated l ls) (negated-rises ls)

lits-rise : (goal : ℕ) (log : List Line) → All (λ line. rises line.lits ≡ true) log → rises (lits_at goal log) ≡ true
lits-rise goal [] h = refl
lits-rise goal (line ∷ lines) h = by_id (line.id == goal) (All-head (λ (l : Line). rises l.lits ≡ true) line lines h) (lits-rise goal lines (All-tail (λ (l : Line). rises l.lits ≡ true) line lines h))
  where
    by_id : (b : Bool) → rises line.lits ≡ true → rises (lits_at goal lines) ≡ true → rises (option_map_or (λ (l : Line). l.lits) (cond b (Some line) (find (λ (l : Line). l.id == goal) lines)) []) ≡ true
    by_id true e f = e
    by_id false e f = f

-- there is a revision at each place within
posted-there : (rs : List Posted) (r : ℕ) → r < length rs → (p : Posted) × (slice_get rs r ≡ Some p)
posted-there rs r low = by_place (slice_get_cases rs r).1
  where
    by_place : ((x : Posted) × (r < length rs) × (slice_get rs r ≡ Some x) × (get_or rs r x ≡ x)) ⊎ ((length rs ≤ r) × (slice_get rs r ≡ None)) → (p : Posted) × (slice_get rs r ≡ Some p)
    by_place (inl h) = (h.0, h.2)
    by_place (inr h) = absurd (omega (arith, h.0))

-- an answer that solves or refutes its revision, as a machine tells it
record IsSound (s : SoloMachine) : Type 0 where
  solve : AnswersSolve s
  refute : AnswersRefute s
  clauses : ClausesAreOwn s
  follow : AnswersFollow s

answer-supported : (s : SoloMachine) (r : ℕ) (a : Answer) (p : Posted) → IsSound s → slice_get s.answers r ≡ Some a → slice_get s.revisions r ≡ Some p → IsSupported (variables_through s.revisions r) (clauses_through s.revisions r) p.assumptions (body_by s r a)
answer-supported s r (Satisfied model) p h e q = let solved = h.solve r model e in record { whole = solved.whole; satisfied = and_from _ _ solved.satisfied (solved.assumed p q) }
answer-supported s r (Refuted goal) p h e q = let proved = h.refute r goal e in record { refuted = proved.refuted; assumed = proved.assumed p q; rising = negated-rises (lits_at goal s.log) ∙ lits-rise goal s.log h.clauses.rising }
answer-supported s r (Spent n) p h e q = tt
answer-supported s r OutOfStarts p h e q = tt

answer-evident : (s : SoloMachine) (r : ℕ) (a : Answer) → IsSound s → slice_get s.answers r ≡ Some a → IsEvidence s.revisions r (body_by s r a)
answer-evident s r a h e =
    let within : r < length s.answers = slice_get_within s.answers r a e in
    let order : length s.answers ≤ length s.revisions = h.follow in
    let there = posted-there s.revisions r (omega (arith, within, order)) in
    record { revision = there.0; posted = there.1; supported = answer-supported s r a there.0 h e there.1 }

-- what is told tells of an answer
pub told-at : (s : SoloMachine) (r : ℕ) (told : ReplyBody) → option_map (body_by s r) (slice_get s.answers r) ≡ Some told → (a : Answer) × (slice_get s.answers r ≡ Some a) × (body_by s r a ≡ told)
told-at s r told e = by_answer (slice_get s.answers r) refl e
  where
    by_answer : (o : Option Answer) → slice_get s.answers r ≡ o → option_map (body_by s r) o ≡ Some told → (a : Answer) × (slice_get s.answers r ≡ Some a) × (body_by s r a ≡ told)
    by_answer None q f = absurd (cc)
    by_answer (Some a) q f = (a, q, cc)

pub legal-is_evident : LegalIsEvident
legal-is_evident w h k r told legal e =
    let s : SoloMachine = solo (own k h) in
    let at = told-at s r told e in
    let sound : IsSound s = record { solve = legal-answers_solve w h legal k; refute = legal-answers_refute w h legal k; clauses = legal-clauses_own w h legal k; follow = legal-answers_follow w h legal k } in
    subst (IsEvidence s.revisions r) at.2 (answer-evident s r at.0 sound at.1)
