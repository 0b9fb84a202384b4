use Rattle.std.proofs.Common.{◌≡◌, ℕ, Bool, true, false, List, [], ◌∷◌, Option, Some, None, refl, ap, ap₂, ◌∙◌}
use Rattle.std.specs.List.{list_any}
use Rattle.spec_logic.specs.Derivation.{Holding}
use Rattle.spec_logic.specs.Refutation.{Refusal, numbered, after_line, added_by, refusal, contradicts, IsProof, IsRefutation}
use Rattle.spec_logic.proofs.RefutationLemmas.{refuted-unsatisfiable}
use Rattle.mal_claim.specs.Proofs.{Numbered, first_of, first_refused, bare, judged, verdict_of}
use Rattle.mal_claim.specs.Proofs.Verdict.{Verified}
use Rattle.mal_claim.specs.VerdictLaws.{VerifiedIsRefutation, VerifiedIsUnsatisfiable}

-- no line is refused exactly where the lines are a proof
none-of : (o : Option Refusal) (number : ℕ) (others : Option (ℕ × Refusal)) → first_of o number others ≡ None → (o ≡ None) × (others ≡ None)
none-of None number others e = (refl, e)
none-of (Some r) number others e = absurd (cc)

none-refused : (held : Holding) (ls : List Numbered) → first_refused held ls ≡ None → IsProof held (bare ls)
none-refused held [] e = tt
none-refused held (l ∷ ls) e =
    let parts = none-of (refusal held l.line) l.number (first_refused (after_line held l.line) ls) e in
    (parts.0, none-refused (after_line held l.line) ls parts.1)

proof-accepted : (held : Holding) (ls : List Numbered) → IsProof held (bare ls) → first_refused held ls ≡ None
proof-accepted held [] p = refl
proof-accepted held (l ∷ ls) p = ap (λ (o : Option Refusal). first_of o l.number (first_refused (after_line held l.line) ls)) p.0 ∙ proof-accepted (after_line held l.line) ls p.1

judged-parts : (o : Option (ℕ × Refusal)) (goal : Bool) → judged o goal ≡ Verified → (o ≡ None) × (goal ≡ true)
judged-parts (Some (n, r)) goal e = absurd (cc)
judged-parts None true e = (refl, refl)
judged-parts None false e = absurd (cc)

pub verified-refutation : VerifiedIsRefutation
verified-refutation clauses assumptions lines = (there, back)
  where
    there : verdict_of clauses assumptions lines ≡ Verified → IsRefutation clauses assumptions (bare lines)
    there e =
        let parts = judged-parts (first_refused (numbered clauses) lines) (list_any (contradicts assumptions) (added_by (bare lines))) e in
        record { proof = none-refused (numbered clauses) lines parts.0; goal = parts.1 }

    back : IsRefutation clauses assumptions (bare lines) → verdict_of clauses assumptions lines ≡ Verified
    back r = ap₂ judged (proof-accepted (numbered clauses) lines r.proof) r.goal

pub verified-unsatisfiable : VerifiedIsUnsatisfiable
verified-unsatisfiable clauses assumptions lines e = refuted-unsatisfiable clauses assumptions (bare lines) ((verified-refutation clauses assumptions lines).0 e)
