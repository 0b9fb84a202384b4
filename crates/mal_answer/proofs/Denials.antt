-- What is refused of a claim is told, and each text is of one kind.
use Rattle.std.proofs.Common.{◌≡◌, ℕ, List, [], ◌∙◌, ap, sym, subst, Ok, Err}
use Rattle.std.specs.Prelude.{Option, Some, None}
use Rattle.spec_text.specs.Faults.{Fails}
use Rattle.spec_logic.specs.Refutation.{Refusal}
use Rattle.mal_claim.specs.Proofs.{Verdict}
use Rattle.mal_claim.specs.Proofs.Verdict.{Verified}
use Rattle.mal_claim.proofs.JudgedLemmas.{said-claim, said-fault}
use Rattle.mal_claim.proofs.VerdictLemmas.{verified-refutation}
use Rattle.mal_claim.specs.Claims.{Claim, read_text, said}
use Rattle.mal_claim.specs.FaultLines.{verdict_line, verified_line}
use Rattle.mal_claim.specs.Grammar.{Spells}
use Rattle.mal_claim.specs.Judged.{IsSaid, IsVerified}
use Rattle.mal_claim.proofs.ReadLemmas.{spelled-is-read}
use Rattle.mal_claim.specs.declared.denial.VerifyFault.{VerifyFault}
use Rattle.mal_claim.specs.declared.denial.VerifyFault.TheVariants as verify
use Rattle.mal_claim.specs.Verdicts as verdicts
use Rattle.mal_claim.specs.declared.fault.ClaimFault.{ClaimFault}
use Rattle.mal_claim.specs.ReadResult.{TellsVerdict, fault_of, refused, verdict_in}
use Rattle.mal_answer.specs.Answers.{IsAnswerTo, logged}
use Rattle.mal_answer.specs.Claims.{TellsFault, TellsRefusal, TellsUnproved}
use Rattle.mal_answer.specs.Command.{Refuses, Denies}
use Rattle.mal_answer.specs.Commands.{IsProved, checking, claims, nowhere}
use Rattle.mal_answer.specs.declared.answer.Complaint.{Complaint}
use Rattle.mal_answer.specs.declared.answer.Texts.{Texts}
use Rattle.mal_answer.specs.declared.words.request.Request.TheVariants.{Check}
use Rattle.mal_answer.proofs.Complaints.{denied-as, read-once}
use Rattle.mal_answer.proofs.Lawful.{are-lawful, fault-answered}

-- a text with a first fault is no claim, and the line tells it
pub refused-text : (text : List ℕ) (e : ClaimFault) (d : Complaint) → Fails (fault_of e) (said text) → TellsFault e d → IsAnswerTo checking text (Err d)
refused-text text e d h k = fault-answered checking claims (are-lawful nowhere Check) (λ text line told. told) text (fault_of e) d (said-fault text (fault_of e) h) k

-- a verdict that is told is that a proof is not verified
is_denied : Option Verdict → Type 0
is_denied None = Unit {0}
is_denied (Some verdict) = verdict ≡ Verified → ⊥

refusal-denies : (line : ℕ) (o : Option Refusal) → is_denied (refused line o)
unfolding is_denied
refusal-denies line None = tt
refusal-denies line (Some refusal) = λ e. cc

fault-denies : (e : VerifyFault) → is_denied (verdict_in e)
unfolding is_denied
fault-denies (verify.Refused line fault) = refusal-denies line (verdicts.refusal_of fault)
fault-denies verify.NoGoal = λ e. cc
fault-denies verify.OutOfMemory = tt

-- a text spells one claim
one-claim : (text : List ℕ) (c d : Claim) → Spells text c → Spells text d → c ≡ d
one-claim text c d s t = read-once (read_text text) c d ((spelled-is-read text c).0 s) ((spelled-is-read text d).0 t)

denied-line : (text line : List ℕ) (c : Claim) → Spells text c → TellsUnproved c line → Denies checking text line
denied-line text line c s h = record { inside = (c, s); unmet = λ m. h.0 (subst IsProved (one-claim text m.0 c m.1 s) m.2); told = (c, s, h.1) }

told-line : (text line : List ℕ) (o : Option Verdict) → is_denied o → IsSaid o (said text) → TellsVerdict o line → Denies checking text line
unfolding is_denied
told-line text line None n h k = absurd k
told-line text line (Some verdict) n h k =
    let c = said-claim text verdict h in
    denied-line text line c.0 ((spelled-is-read text c.0).1 c.1)
    (λ proved. n (sym c.2 ∙ (verified-refutation c.0.formula.clauses c.0.assumptions c.0.lines).1 proved), k ∙ ap verdict_line (sym c.2))

pub denied-text : (text : List ℕ) (e : VerifyFault) (d : Complaint) → IsSaid (verdict_in e) (said text) → TellsRefusal e d → IsAnswerTo checking text (Err d)
denied-text text e d h k = denied-as (TellsVerdict (verdict_in e)) (Refuses checking text) (Denies checking text) (λ line t. told-line text line (verdict_in e) (fault-denies e) h t) d k

-- what is verified is spelled, and nothing satisfies it
pub verified-text : (text : List ℕ) (t : Texts) → IsVerified text → (logged t.log.items ≡ []) × (t.out.items ≡ verified_line) → IsAnswerTo checking text (Ok t)
verified-text text t v h = (record { claim = v.0; spelled = v.1; proved = v.2; unsatisfiable = v.3 }, h.0, h.1)

pub ruleset denial_lemmas = (refused-text, denied-text, verified-text)
