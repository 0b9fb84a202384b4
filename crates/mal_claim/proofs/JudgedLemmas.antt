-- What is said of a text is what is said of its parts.
use Rattle.std.proofs.Common.{◌≡◌, ℕ, List, [], length, Option, Some, None, Result, Ok, Err, refl, sym, ap, ap₂, subst, ◌∙◌}
use Rattle.std.specs.Prelude.{OnOk}
use Rattle.mal_base.specs.Formulas.{Formulated}
use Rattle.spec_text.specs.Faults.{Fails}
use Rattle.spec_dimacs.specs.Reading.{◌>>=◌}
use Rattle.spec_logic.specs.Derivation.{Holding}
use Rattle.spec_logic.specs.Refutation.{numbered}
use Rattle.spec_script.proofs.Inversions.{bind_ok}
use Rattle.mal_instance.specs.Rows.{formula_of, formula_rows, rows_after}
use Rattle.mal_claim.specs.Proofs.{Numbered, Verdict, lines_from, verdict_from}
use Rattle.mal_claim.specs.Proofs.Verdict.{Verified}
use Rattle.mal_claim.specs.Claims.{Assumed, Claim, Fault, Opened, assumed, claim_of, ending, in_formula, in_proof, judged, opened, read_text, said, said_behind, said_of_rows, verdict_after, verdict_on}
use Rattle.mal_claim.specs.ReadResult.{fault_of}
use Rattle.mal_claim.specs.Judged.{IsVerified, Judges}
use Rattle.mal_claim.specs.declared.denial.Denial.{Denial}
use Rattle.mal_claim.specs.declared.fault.ClaimFault.{ClaimFault}
use Rattle.mal_claim.proofs.ReadLemmas.{spelled-is-read}
use Rattle.mal_claim.proofs.VerdictLemmas.{verified-refutation, verified-unsatisfiable}

abbrev pub opened_as : Formulated → Assumed → Result Opened Fault
opened_as f a = Ok (record { formula = f; assumed = a })

-- a text is opened, and then its proof is read
said-opened : (rows : List (List (List ℕ))) → said_of_rows rows ≡ (opened rows >>= said_behind)
said-opened rows = by_formula (in_formula (formula_of ending rows))
  where
    by_assumed : (f : Formulated) (r : Result Assumed Fault) → judged (r >>= claim_of f) ≡ ((r >>= opened_as f) >>= said_behind)
    by_assumed f (Ok a) = refl
    by_assumed f (Err e) = refl

    by_formula : (r : Result Formulated Fault) → judged (r >>= λ f. assumed f.variables (length (formula_rows ending rows)) (rows_after ending rows) >>= claim_of f) ≡ ((r >>= λ f. assumed f.variables (length (formula_rows ending rows)) (rows_after ending rows) >>= opened_as f) >>= said_behind)
    by_formula (Ok f) = by_assumed f (assumed f.variables (length (formula_rows ending rows)) (rows_after ending rows))
    by_formula (Err e) = refl

fails-on : {A B : Type 0} (o : Option Fault) (r : Result A Fault) (f : A → Result B Fault) → Fails o r → Fails o (r >>= f)
fails-on None r f h = tt
fails-on {A} (Some e) r f h = ap (λ (x : Result A Fault). x >>= f) h

pub opening-failed : (rows : List (List (List ℕ))) (e : ClaimFault) → Fails (fault_of e) (opened rows) → Fails (fault_of e) (said_of_rows rows)
opening-failed rows e h = subst (Fails (fault_of e)) (sym (said-opened rows)) (fails-on (fault_of e) (opened rows) said_behind h)

pub opening-judged : {X : Type 0} (rows : List (List (List ℕ))) (o : Opened) (r : Result X Denial) → opened rows ≡ Ok o → Judges r (said_behind o) → Judges r (said_of_rows rows)
opening-judged rows o r e h = subst (Judges r) (sym (said-opened rows ∙ ap (λ (x : Result Opened Fault). x >>= said_behind) e)) h

-- the verdict on a claim is that of a checker which holds the clauses of its formula
claimed-verdict : (o : Opened) → said_behind o ≡ verdict_after (numbered o.formula.clauses) [] o.assumed.assumptions (lines_from 1 (length o.formula.clauses) o.assumed.rows)
claimed-verdict o = by_lines (in_proof (lines_from 1 (length o.formula.clauses) o.assumed.rows))
  where
    by_lines : (r : Result (List Numbered) Fault) → judged (r >>= λ lines. Ok (record { formula = o.formula; assumptions = o.assumed.assumptions; lines = lines })) ≡ (r >>= λ lines. Ok (verdict_from (numbered o.formula.clauses) [] o.assumed.assumptions lines))
    by_lines (Ok lines) = refl
    by_lines (Err e) = refl

pub checker-judged : {X : Type 0} (o : Opened) (h : Holding) (ad : List (Option (List ℕ))) (assumptions : List ℕ) (last : ℕ) (r : Result X Denial) → h ≡ numbered o.formula.clauses → ad ≡ [] → assumptions ≡ o.assumed.assumptions → last ≡ length o.formula.clauses → Judges r (verdict_after h ad assumptions (lines_from 1 last o.assumed.rows)) → Judges r (said_behind o)
checker-judged o h ad assumptions last r p q a s j =
    subst (Judges r)
    (ap (λ (x : Holding). verdict_after x ad assumptions (lines_from 1 last o.assumed.rows)) p
    ∙ (ap (λ (x : List (Option (List ℕ))). verdict_after (numbered o.formula.clauses) x assumptions (lines_from 1 last o.assumed.rows)) q
    ∙ (ap₂ (λ (xs : List ℕ) (n : ℕ). verdict_after (numbered o.formula.clauses) [] xs (lines_from 1 n o.assumed.rows)) a s
    ∙ sym (claimed-verdict o))))
    j

-- what is said of a text, by its claim
pub said-claim : (text : List ℕ) (v : Verdict) → said text ≡ Ok v → (c : Claim) × (read_text text ≡ Ok c) × (verdict_on c ≡ v)
said-claim text v e =
    let parts = bind_ok (read_text text) (λ c. Ok (verdict_on c)) v e in
    (parts.0, parts.1, ok_is (verdict_on parts.0) v parts.2)
  where
    ok_is : (x y : Verdict) → ◌≡◌ {A = Result Verdict Fault} (Ok x) (Ok y) → x ≡ y
    ok_is x y e = cc

pub said-fault : (text : List ℕ) (o : Option Fault) → Fails o (said text) → Fails o (read_text text)
said-fault text None h = tt
said-fault text (Some e) h = by_read (read_text text) h
  where
    by_read : (r : Result Claim Fault) → judged r ≡ Err e → r ≡ Err e
    by_read (Ok c) k = absurd (cc)
    by_read (Err d) k = let same : d ≡ e = cc in ap (λ (x : Fault). Err x) same

pub judged-verified : {X : Type 0} (text : List ℕ) (r : Result X Denial) → Judges r (said text) → OnOk r (IsVerified text)
judged-verified text (Ok x) h =
    let c = said-claim text Verified h in
    (c.0, (spelled-is-read text c.0).1 c.1, (verified-refutation c.0.formula.clauses c.0.assumptions c.0.lines).0 c.2, verified-unsatisfiable c.0.formula.clauses c.0.assumptions c.0.lines c.2)
judged-verified text (Err e) h = tt

pub ruleset judged_lemmas = (opening-failed, opening-judged)
