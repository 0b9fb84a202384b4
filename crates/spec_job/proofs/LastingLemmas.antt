-- Replies stay: the answers, the revisions and the log of a machine go on, and its solvers have one profile.
use Rattle.std.proofs.Common.{◌≡◌, ℕ, zero, suc, ◌+◌, ◌<◌, ◌≤◌, List, [], ◌∷◌, ◌++◌, length, length-append, take, Option, Some, inl, refl, sym, ◌∙◌, ap, subst, arith, append_assoc, append-nil}
use Rattle.std.specs.Prelude.{slice_get, flat_map}
use Rattle.std.specs.Option.{option_map}
use Rattle.std.proofs.lemmas.List.{take-append-le}
use Rattle.std.proofs.lemmas.List.Concat.{flat_map-append}
use Rattle.std.proofs.lemmas.Option.{slice_get_within}
use Rattle.mal_base.specs.NumberedClause.{Line}
use Rattle.mal_base.specs.declared.answer.Answer.{Answer}
use Rattle.mal_base.specs.declared.profile.Profile.{Profile}
use Rattle.mal_revision.specs.Posted.{Posted}
use Rattle.spec_report.specs.Replies.{ReplyBody, reply_text}
use Rattle.spec_job.specs.SoloMachine.{Own, Opened, Revised, Reasked, Closed, Volume, Started, Finished, Exchanged, Slice, SoloMachine, solo, solo_step, place_at, first_empty}
use Rattle.spec_job.specs.Lasting.{RepliesStay}
use Rattle.spec_job.specs.Models.{KeepsAnswers}
use Rattle.spec_job.specs.Replies.{body_by, reply}
use Rattle.spec_job.specs.Runnable.{IsRunnable, MayHappen}
use Rattle.spec_job.proofs.AgreeLemmas.{IsFront}
use Rattle.spec_job.proofs.ElementLemmas.{get-front}
use Rattle.spec_job.proofs.FinishLemmas.{settled-leaves, finished-leaves}
use Rattle.spec_job.proofs.KeptLemmas.{MachineInvariant, runnable-kept}
use Rattle.spec_job.proofs.PushLemmas.{solo-push}
use Rattle.spec_job.proofs.ReplyLemmas.{told-same, reply-at}
use Rattle.spec_job.proofs.SlicesLemmas.{logs-are-slices, slices-stay}
use Rattle.spec_job.proofs.StayLemmas.{answers-stay, push-stays}

-- the revisions of a later state begin with those of an earlier one, and its solvers have the same profile
record KeepsRevisions (before after : SoloMachine) : Type 0 where
  pub more : List Posted
  pub kept : after.revisions ≡ before.revisions ++ more
  pub profile : after.ask.profile ≡ before.ask.profile

revisions-same : (s t : SoloMachine) → t.revisions ≡ s.revisions → t.ask.profile ≡ s.ask.profile → KeepsRevisions s t
revisions-same s t same profile = record { more = []; kept = same ∙ sym (append-nil s.revisions); profile = profile }

revisions-on : (s t u : SoloMachine) → KeepsRevisions s t → KeepsRevisions t u → KeepsRevisions s u
revisions-on s t u h k = record { more = h.more ++ k.more; kept = k.kept ∙ (ap (λ (xs : List Posted). xs ++ k.more) h.kept ∙ append_assoc s.revisions h.more k.more); profile = k.profile ∙ h.profile }

-- more answers, and other counts
told-revisions : (s h : SoloMachine) (answers : List Answer) → KeepsRevisions s h → KeepsRevisions s (record h { answers = h.answers ++ answers; spent = 0; starved = 0 })
told-revisions s h answers k = record { more = k.more; kept = k.kept; profile = k.profile }

counted-revisions : (s h : SoloMachine) (spent starved : ℕ) → KeepsRevisions s h → KeepsRevisions s (record h { spent = spent; starved = starved })
counted-revisions s h spent starved k = record { more = k.more; kept = k.kept; profile = k.profile }

-- an own event of a job that has an answer: it is not opened again
step-revisions : (s : SoloMachine) (o : Own) → MayHappen s o → 0 < length s.answers → KeepsRevisions s (solo_step s o)
step-revisions s (Opened ask) may some = let none : length s.answers ≡ 0 = ap (λ (u : SoloMachine). length u.answers) may in absurd (omega (arith, some, none))
step-revisions s (Revised r) may some =
    let longer : SoloMachine = record s { revisions = s.revisions ++ r ∷ [] } in
    settled-leaves (KeepsRevisions s) (told-revisions s) (counted-revisions s) (first_empty s.log) longer (record { more = r ∷ []; kept = refl; profile = refl })
step-revisions s (Reasked w) may some = revisions-same s (solo_step s (Reasked w)) refl refl
step-revisions s Closed may some = revisions-same s (solo_step s Closed) refl refl
step-revisions s (Volume v) may some = revisions-same s (solo_step s (Volume v)) refl refl
step-revisions s (Started i) may some = revisions-same s (solo_step s (Started i)) refl refl
step-revisions s (Finished i o) may some =
    finished-leaves (KeepsRevisions s) (told-revisions s) (counted-revisions s) s i (place_at s i) (place_at s i).out o (revisions-same s s refl refl)
    (λ l e. record { more = []; kept = sym (append-nil s.revisions); profile = refl })
    (record { more = []; kept = sym (append-nil s.revisions); profile = refl })
step-revisions s Exchanged may some = revisions-same s (solo_step s Exchanged) refl refl

answered-on : (s t : SoloMachine) → KeepsAnswers s t → 0 < length s.answers → 0 < length t.answers
answered-on s t k some = let count : length t.answers ≡ length s.answers + length k.more = ap (λ (xs : List Answer). length xs) k.kept ∙ length-append s.answers k.more in omega (arith, some, count)

revisions-stay : (past later : List Own) → IsRunnable past later → 0 < length (solo past).answers → KeepsRevisions (solo past) (solo (past ++ later))
revisions-stay past [] may some = subst (λ (es : List Own). KeepsRevisions (solo past) (solo es)) (sym (append-nil past)) (revisions-same (solo past) (solo past) refl refl)
revisions-stay past (o ∷ os) may some =
    let here : KeepsRevisions (solo past) (solo (past ++ o ∷ [])) = subst (λ (s : SoloMachine). KeepsRevisions (solo past) s) (sym (solo-push past o)) (step-revisions (solo past) o may.0 some) in
    let rest : KeepsRevisions (solo (past ++ o ∷ [])) (solo ((past ++ o ∷ []) ++ os)) = revisions-stay (past ++ o ∷ []) os may.1 (answered-on (solo past) (solo (past ++ o ∷ [])) (push-stays past o) some) in
    subst (λ (es : List Own). KeepsRevisions (solo past) (solo es)) (append_assoc past (o ∷ []) os) (revisions-on (solo past) (solo (past ++ o ∷ [])) (solo ((past ++ o ∷ []) ++ os)) here rest)

-- own events that may happen, cut in two
runnable-front : (past one other : List Own) → IsRunnable past (one ++ other) → IsRunnable past one
runnable-front past [] other may = tt
runnable-front past (o ∷ one) other may = (may.0, runnable-front (past ++ o ∷ []) one other may.1)

runnable-back : (past one other : List Own) → IsRunnable past (one ++ other) → IsRunnable (past ++ one) other
runnable-back past [] other may = subst (λ (es : List Own). IsRunnable es other) (sym (append-nil past)) may
runnable-back past (o ∷ one) other may = subst (λ (es : List Own). IsRunnable es other) (append_assoc past (o ∷ []) one) (runnable-back (past ++ o ∷ []) one other may.1)

-- the log of a later state begins with that of an earlier one, since its slices do
log-stays : (past later : List Own) → IsFront (solo past).log (solo (past ++ later)).log
log-stays past later =
    let k = slices-stay past later in (
      flat_map (λ c. c.lines) k.more,
      logs-are-slices (past ++ later) ∙ (ap (λ (cs : List Slice). flat_map (λ c. c.lines) cs) k.kept ∙ (flat_map-append (λ c. c.lines) (solo past).slices k.more ∙ ap (λ (xs : List Line). xs ++ flat_map (λ c. c.lines) k.more) (sym (logs-are-slices past)))),
    )

pub replies-stay : RepliesStay
replies-stay k zero text past later may e = absurd cc
replies-stay k (suc r) text past later may e = by_answer (reply-at k (solo past) r text e)
  where
    by_answer : (x : Answer) × (slice_get (solo past).answers r ≡ Some x) × (reply_text k.tenant k.job (suc r) (solo past).ask.profile (body_by (solo past) r x) ≡ text) → reply k (suc r) (solo (past ++ later)) ≡ Some text
    by_answer (x, at, is) =
        let s : SoloMachine = solo past in
        let t : SoloMachine = solo (past ++ later) in
        let within : r < length s.answers = slice_get_within s.answers r x at in
        let before : MachineInvariant s = runnable-kept past (runnable-front [] past later may) in
        let after : MachineInvariant t = runnable-kept (past ++ later) may in
        let order : length s.answers ≤ length s.revisions = before.solving.order in
        let revisions : KeepsRevisions s t = revisions-stay past later (runnable-back [] past later may) (omega arith) in
        let answers : KeepsAnswers s t = answers-stay past later in
        let there : slice_get t.answers r ≡ Some x = ap (λ (xs : List Answer). slice_get xs r) answers.kept ∙ get-front s.answers answers.more r x at in
        let front : take (r + 1) s.revisions ≡ take (r + 1) t.revisions = sym (ap (λ (rs : List Posted). take (r + 1) rs) revisions.kept ∙ take-append-le (r + 1) s.revisions revisions.more (omega arith)) in
        let same : body_by s r x ≡ body_by t r x = told-same s t r x before after (inl (log-stays past later)) front at there in
        ap (λ (o : Option Answer). option_map (reply_text k.tenant k.job (suc r) t.ask.profile) (option_map (body_by t r) o)) there
        ∙ (ap (λ (b : ReplyBody). Some (reply_text k.tenant k.job (suc r) t.ask.profile b)) (sym same)
        ∙ (ap (λ (p : Profile). Some (reply_text k.tenant k.job (suc r) p (body_by s r x))) revisions.profile
        ∙ ap (λ (xs : List ℕ). Some xs) is))
